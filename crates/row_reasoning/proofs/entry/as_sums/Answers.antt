use Rattle.std.proofs.Common.{subst}
use Rattle.certificates.specs.Rows.{over}
use Rattle.row_reasoning.specs.Shapes.{term_at}
use Rattle.row_reasoning.proofs.EntryLemmas.{lesser_leaves, greater_leaves}
use Rattle.row_reasoning.proofs.MemoLemmas.{right_begun}
use Rattle.row_reasoning.proofs.WalkLemmas.{SumIs}
use Rattle.row_reasoning.proofs.entry.as_sums.Goals as goal

pub returns-in_default-clause-is : goal.returns-in_default-clause-is
returns-in_default-clause-is c = λ class l g. (
    let first = c.in_ok-lesser.ensures.is class l (right_begun c.args.pool.now class c.nothing_met-memo.result c.nothing_met-memo.ensures) in
    lesser_leaves _ _ c.args.sides.is_strict c.args.sides.is_equation (subst (SumIs c.args.pool.now class c.args.sides.lesser) c.in_default.is first.sum))

pub returns-in_default-2-clause-is : goal.returns-in_default-2-clause-is
returns-in_default-2-clause-is c = λ class l g. (
    let first = c.in_ok-lesser.ensures.is class l (right_begun c.args.pool.now class c.nothing_met-memo.result c.nothing_met-memo.ensures) in
    let second = c.in_ok-greater.ensures.is class g first.right in
    greater_leaves _ _ c.args.sides.is_strict c.args.sides.is_equation (subst (SumIs c.args.pool.now class c.args.sides.greater) c.in_default-2.is second.sum))

pub returns-clause-is : goal.returns-clause-is
returns-clause-is c = λ class l g. (
    let first = c.in_ok-lesser.ensures.is class l (right_begun c.args.pool.now class c.nothing_met-memo.result c.nothing_met-memo.ensures) in
    let second = c.in_ok-greater.ensures.is class g first.right in
    c.row_sum.ensures.is (over class (term_at c.args.pool.now c.args.sides.lesser)) (over class (term_at c.args.pool.now c.args.sides.greater)) c.args.sides.is_equation (subst (SumIs c.args.pool.now class c.args.sides.lesser) c.in-Some.is first.sum) (subst (SumIs c.args.pool.now class c.args.sides.greater) c.in-Some-2.is second.sum))
