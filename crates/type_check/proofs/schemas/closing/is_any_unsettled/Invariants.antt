use Rattle.std.proofs.Common.{take}
use Rattle.std.specs.Prelude.{Contains, IsTrue}
use Rattle.type_check.specs.declared.clauses.judged.JudgedClause.{JudgedClause}
use Rattle.type_check.proofs.schemas.closing.is_any_unsettled.Given as goal

abbrev pub invariant-loop-one : goal.invariant-loop-one
invariant-loop-one l = (x : JudgedClause) → Contains (take l.one-index l.judged) x → IsTrue x.is_unsettled → ⊥
