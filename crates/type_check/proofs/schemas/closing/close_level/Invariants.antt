use Rattle.type_check.proofs.LevelLaws.{LevelTo}
use Rattle.type_check.proofs.schemas.closing.close_level.Given as goal

abbrev pub invariant-loop-number : goal.invariant-loop-number
invariant-loop-number l = LevelTo l.program l.fn.closure l.closure l.first l.end l.number
