use Rattle.std.proofs.Common.{ap, sym, ◌∙◌}
use Rattle.body_names.specs.PatternTrees.{field_of_pattern}
use Rattle.body_names.proofs.PatternListings.{field_of-is}
use Rattle.body_names.proofs.code.patterns.field_of.Goals as goal

pub returns : goal.returns
returns c = sym (field_of-is c.field.inside.name c.field.inside.pattern) ∙ ap field_of_pattern c.field.view_is
