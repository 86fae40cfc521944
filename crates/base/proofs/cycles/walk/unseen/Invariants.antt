use Rattle.std.proofs.Common.{◌≡◌, replicate}
use Rattle.base.specs.declared.cycles.walk.Mark.TheVariants.{Unseen}
use Rattle.base.proofs.cycles.walk.unseen.Given as goal

abbrev pub invariant-loop : goal.invariant-loop
invariant-loop l = l.marks.items ≡ replicate l.counter Unseen
