use Rattle.std.proofs.Common.{take}
use Rattle.program.specs.Order.{IsFirstOrNone}
use Rattle.type_check.specs.declared.clauses.judged.ClauseRule.TheVariants.{Typing}
use Rattle.type_check.specs.Numbered.{BreaksAmong}
use Rattle.type_check.proofs.spec.first.first_untyped.Given as goal

abbrev pub invariant-loop-root : goal.invariant-loop-root
invariant-loop-root l = IsFirstOrNone (BreaksAmong Typing l.broken (take l.root-index l.roots)) l.first
