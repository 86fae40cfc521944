use Rattle.std.proofs.Common.{ap, sym, ◌∙◌}
use Rattle.body_names.specs.CodeTrees.{field_of_value}
use Rattle.body_names.proofs.CodeListings.{field_of-is}
use Rattle.body_names.proofs.code.fields.field_of.Goals as goal

pub returns : goal.returns
returns c = sym (field_of-is c.field.inside.name c.field.inside.value) ∙ ap field_of_value c.field.view_is
