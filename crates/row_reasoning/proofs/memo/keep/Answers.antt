use Rattle.std.proofs.Common.{pos, subst}
use Rattle.std.specs.Prelude.{IfSome, MatchOption}
use Rattle.certificates.specs.Rows.{over}
use Rattle.row_reasoning.specs.Sums.{IsSumOf, LeavesMultiple, IsMultiple}
use Rattle.row_reasoning.specs.Shapes.{term_at}
use Rattle.row_reasoning.proofs.ResultLemmas.{on_ok_map}
use Rattle.row_reasoning.proofs.MemoLemmas.{copied, right_more}
use Rattle.row_reasoning.proofs.memo.keep.Goals as goal

pub returns : goal.returns
returns c = λ ns class right is. (
    let t = over class (term_at ns c.args.number) in
    let sum : IsSumOf t c.in-Some.sum = subst (λ m. IfSome m (IsSumOf t)) c.in-Some.is is in
    let once : IsMultiple (pos 1) c.in-Some.sum c.in-Some-2.copy = subst (λ m. MatchOption m (LeavesMultiple (pos 1) c.in-Some.sum) (IsMultiple (pos 1) c.in-Some.sum)) c.in-Some-2.is c.in_ok-copy.ensures.is in
    on_ok_map (λ put. right_more ns class c.args.memo.now (record { met = c.args.memo.now.met; sums = c.note.new.sums }) c.args.number c.in-Some-2.copy put (copied t c.in-Some.sum c.in-Some-2.copy sum once) right) c.note.result c.note.ensures)
