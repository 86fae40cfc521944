use Rattle.std.proofs.Common.{ap, sym, length, ◌∙◌}
use Rattle.syntax_tree.specs.SpecExpressionData.{list_of_spec_expressions-spec_expressions_of}
use Rattle.body_names.specs.SpecTrees.{terms_of}
use Rattle.body_names.proofs.spec.triggers.count_of.Goals as goal

pub returns : goal.returns
returns c = ap length c.as_slice.ensures.value ∙ sym (ap length (list_of_spec_expressions-spec_expressions_of c.trigger.inside.items.items)) ∙ ap terms_of c.trigger.view_is
