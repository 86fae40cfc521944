use Rattle.std.proofs.Common.{ap, sym, length, ◌∙◌}
use Rattle.base.specs.TypeData.{list_of_types, list_of_types-types_of}
use Rattle.resolution.proofs.clauses.around.count_of.Goals as goal

pub returns : goal.returns
returns c = ap length c.as_slice.ensures.value ∙ sym (ap length (list_of_types-types_of c.types.inside.items.items)) ∙ ap (λ ts. length (list_of_types ts)) c.types.view_is
