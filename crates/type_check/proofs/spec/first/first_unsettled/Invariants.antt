use Rattle.std.proofs.Common.{take}
use Rattle.program.specs.Order.{IsFirstOrNone}
use Rattle.type_check.specs.declared.clauses.judged.ClauseRule.TheVariants.{Settling}
use Rattle.type_check.specs.Numbered.{BreaksAmong}
use Rattle.type_check.proofs.spec.first.first_unsettled.Given as goal

abbrev pub invariant-loop-root : goal.invariant-loop-root
invariant-loop-root l = IsFirstOrNone (BreaksAmong Settling l.broken (take l.root-index l.roots)) l.first
