use Rattle.axiom_instances.proofs.TypeFormLemmas.{three_struct}
use Rattle.axiom_instances.proofs.reading.three_type.Goals as goal

pub returns-in-TypeStruct : goal.returns-in-TypeStruct
returns-in-TypeStruct c = three_struct (rw c.in-TypeStruct.is at c.requires)
