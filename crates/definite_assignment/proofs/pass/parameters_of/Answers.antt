use Rattle.std.proofs.Common.{◌+◌, sym, ◌∙◌}
use Rattle.definite_assignment.proofs.NumberLaws.{among_first}
use Rattle.definite_assignment.proofs.pass.parameters_of.Goals as goal

pub returns : goal.returns
returns c = record { meant = λ i h. c.below.ensures i h ∙ sym (among_first (c.args.base + i) c.args.parameters) }
