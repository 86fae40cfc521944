use Rattle.std.proofs.Common.{ap, sym, ◌∙◌}
use Rattle.body_names.specs.SpecTrees.{field_of_value}
use Rattle.body_names.proofs.Listings.{field_of-is}
use Rattle.body_names.proofs.spec.fields.field_of.Goals as goal

pub returns : goal.returns
returns c = sym (field_of-is c.field.inside.name c.field.inside.value) ∙ ap field_of_value c.field.view_is
