use Rattle.type_check.proofs.RootLaws.{LoopsTo}
use Rattle.type_check.proofs.spec.loops.judge_with.Given as goal

abbrev pub invariant-loop-one : goal.invariant-loop-one
invariant-loop-one l = LoopsTo l.program l.function l.locals l.judged.items l.one-index
