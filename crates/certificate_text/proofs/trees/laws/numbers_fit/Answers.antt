use Rattle.certificate_text.proofs.TreesFitLemmas.{text_fits}
use Rattle.certificate_text.proofs.trees.laws.numbers_fit.Goals as goal

pub returns : goal.returns
returns c = λ ns text due h. record { each = text_fits ns text due h }
