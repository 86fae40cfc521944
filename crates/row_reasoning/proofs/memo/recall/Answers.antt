use Rattle.std.proofs.Common.{pos, sym}
use Rattle.certificates.specs.Rows.{over}
use Rattle.row_reasoning.specs.Sums.{LeavesMultiple, IsMultiple, IsSumOf}
use Rattle.row_reasoning.specs.Shapes.{term_at}
use Rattle.row_reasoning.proofs.ResultLemmas.{some_map}
use Rattle.row_reasoning.proofs.MemoLemmas.{copied}
use Rattle.row_reasoning.proofs.memo.recall.Goals as goal

pub returns-in-Some-clause-is : goal.returns-in-Some-clause-is
returns-in-Some-clause-is c = λ ns class right. some_map (LeavesMultiple (pos 1) c.in-Some.sum.now) (IsMultiple (pos 1) c.in-Some.sum.now) (IsSumOf (over class (term_at ns c.args.number)))
    (λ r h. copied (over class (term_at ns c.args.number)) c.in-Some.sum.now r (right.sums c.args.number c.in-Some.sum.now (sym c.in-Some.ensures.value)) h) c.multiplied.result c.multiplied.ensures.is
