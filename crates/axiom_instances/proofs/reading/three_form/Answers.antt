use Rattle.axiom_instances.proofs.FormLemmas.{three_other}
use Rattle.axiom_instances.proofs.reading.three_form.Goals as goal

pub returns-in-TypeStruct : goal.returns-in-TypeStruct
returns-in-TypeStruct c = three_other (rw c.in-TypeStruct.is at c.requires)
