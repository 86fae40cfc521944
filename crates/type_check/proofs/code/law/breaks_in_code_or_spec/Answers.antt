use Rattle.type_check.proofs.Splits.{joined, split}
use Rattle.type_check.proofs.code.law.breaks_in_code_or_spec.Goals as goal

pub returns : goal.returns
returns c = λ program span. (split program span, joined program span)
