use Rattle.std.proofs.Common.{take}
use Rattle.std.specs.Prelude.{All}
use Rattle.step_checks.specs.Pairs.{IsMeeting}
use Rattle.step_checks.proofs.decisions.indexes.are_read_in_one.Given as goal

abbrev pub invariant-loop-number : goal.invariant-loop-number
invariant-loop-number l = All (λ n. IsMeeting l.pool l.classes l.groups l.reads l.one l.other n → ⊥) (take l.number-index l.terms)
