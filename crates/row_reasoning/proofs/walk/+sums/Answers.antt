use Rattle.std.proofs.Common.{subst, rules}
use Rattle.std.specs.Prelude.{MatchOption, IfSome}
use mir.Val.{SFits}
use mir.Syntax.{w128}
use Rattle.std.proofs.lemmas.Int.{to_z-of_z}
use Rattle.certificates.specs.Rows.{over}
use Rattle.tableau.specs.Marks.{Itself}
use Rattle.row_reasoning.specs.Sums.{IsSumOf, Leaves, IsJoined, LeavesJoined, IsMultiple, LeavesMultiple}
use Rattle.row_reasoning.specs.Shapes.{term_at}
use Rattle.row_reasoning.specs.Memos.{IsFound}
use Rattle.row_reasoning.proofs.ResultLemmas.{ok_map, option_map_match, some_of}
use Rattle.row_reasoning.proofs.MemoLemmas.{right_same}
use Rattle.row_reasoning.proofs.WalkLemmas.{SumIs, named_part, left_leaves, right_leaves, both_leave, both_sum, times_leaves, multiple_sum, multiple_leave, unknown_sum}
use Rattle.row_reasoning.proofs.walk.+sums.Goals as goal

pub new_sum-returns-in_default-clause-is : goal.new_sum-returns-in_default-clause-is
new_sum-returns-in_default-clause-is t c = λ class h right. (let two = c.in-Joined.ensures in
    let first = c.in_ok-first-in-Joined.ensures.is class (named_part _ _ c.in-Joined.first class _ h two.first) right in
    record {
      sum = left_leaves class c.in-Joined.is_difference _ _ _ two.is (subst (SumIs c.args.pool.now class c.in-Joined.first) c.in_default.is first.sum);
      right = first.right;
    })

pub new_sum-returns-in_default-2-clause-is : goal.new_sum-returns-in_default-2-clause-is
new_sum-returns-in_default-2-clause-is t c = λ class h right. (let two = c.in-Joined.ensures in
    let first = c.in_ok-first-in-Joined.ensures.is class (named_part _ _ c.in-Joined.first class _ h two.first) right in
    let second = c.in_ok-second-in-Joined.ensures.is class (named_part _ _ c.in-Joined.second class _ h two.second) first.right in
    record {
      sum = right_leaves class c.in-Joined.is_difference _ _ _ two.is (subst (SumIs c.args.pool.now class c.in-Joined.second) c.in_default-2.is second.sum);
      right = second.right;
    })

pub new_sum-returns-in_default-3-clause-is : goal.new_sum-returns-in_default-3-clause-is
new_sum-returns-in_default-3-clause-is t c = λ class h right. (let times = c.in-Multiple.ensures in
    let part = c.in_ok-sum-in-Multiple.ensures.is class (named_part _ _ c.in-Multiple.part class _ h times.part) right in
    record {
      sum = times_leaves class c.in-Multiple.factor (term_at c.args.pool.now c.in-Multiple.part) _ times.is (subst (SumIs c.args.pool.now class c.in-Multiple.part) c.in_default-3.is part.sum);
      right = part.right;
    })

pub new_sum-returns-in-Some-3-clause-is : goal.new_sum-returns-in-Some-3-clause-is
new_sum-returns-in-Some-3-clause-is t c = λ class h right. (let two = c.in-Joined.ensures in
    let first = c.in_ok-first-in-Joined.ensures.is class (named_part _ _ c.in-Joined.first class _ h two.first) right in
    let second = c.in_ok-second-in-Joined.ensures.is class (named_part _ _ c.in-Joined.second class _ h two.second) first.right in
    let x : IsSumOf (over class (term_at c.args.pool.now c.in-Joined.first)) c.in-Some-2.first = subst (SumIs c.args.pool.now class c.in-Joined.first) c.in-Some-2.is first.sum in
    let y : IsSumOf (over class (term_at c.args.pool.now c.in-Joined.second)) c.in-Some-3.second = subst (SumIs c.args.pool.now class c.in-Joined.second) c.in-Some-3.is second.sum in
    ok_map (λ m. MatchOption m (LeavesJoined c.in-Joined.is_difference c.in-Some-2.first c.in-Some-3.second) (IsJoined c.in-Joined.is_difference c.in-Some-2.first c.in-Some-3.second)) (λ m. IsFound c.args.pool.now class c.args.number m c.sum_of-in-Joined.new.memo)
    (λ m k. record {
      sum = option_map_match _ _ _ _ (both_leave class c.in-Joined.is_difference _ _ _ two.is c.in-Some-2.first c.in-Some-3.second x y) (both_sum class c.in-Joined.is_difference _ _ _ two.is c.in-Some-2.first c.in-Some-3.second x y) m k;
      right = second.right;
    }) c.joined.result c.joined.ensures.is)

pub new_sum-returns-in-Some-4-clause-is : goal.new_sum-returns-in-Some-4-clause-is
new_sum-returns-in-Some-4-clause-is t c = λ class h right. (let times = c.in-Multiple.ensures in
    let f : SFits w128 c.in-Multiple.factor = search rules in
    let part = c.in_ok-sum-in-Multiple.ensures.is class (named_part _ _ c.in-Multiple.part class _ h times.part) right in
    let x : IsSumOf (over class (term_at c.args.pool.now c.in-Multiple.part)) c.in-Some-4.sum = subst (SumIs c.args.pool.now class c.in-Multiple.part) c.in-Some-4.is part.sum in
    ok_map (λ m. MatchOption m (LeavesMultiple c.in-Multiple.factor c.in-Some-4.sum) (IsMultiple c.in-Multiple.factor c.in-Some-4.sum)) (λ m. IsFound c.args.pool.now class c.args.number m c.sum_of-in-Multiple.new.memo)
    (λ m k. record {
      sum = option_map_match _ _ _ _ (multiple_leave class c.in-Multiple.factor _ _ times.is c.in-Some-4.sum x) (multiple_sum class c.in-Multiple.factor _ _ times.is c.in-Some-4.sum x) m k;
      right = part.right;
    }) c.multiplied.result (simp to_z-of_z at c.multiplied.ensures.is))

pub new_sum-returns-in_ok-single-in-Unknown-clause-is : goal.new_sum-returns-in_ok-single-in-Unknown-clause-is
new_sum-returns-in_ok-single-in-Unknown-clause-is t c = λ class h right. record {
  sum = unknown_sum c.in_ok-single-in-Unknown.field-0 c.in_ok-single-in-Unknown.ensures.sign _ c.in_ok-single-in-Unknown.ensures.constant c.in_ok-single-in-Unknown.ensures.coefficients class (term_at c.args.pool.now c.args.number) c.in-Unknown.ensures (h.named c.args.number Itself c.requires.term);
  right = right;
}

-- ---- a term that is visited twice

pub sum_of-returns-in-Some-clause-is : goal.sum_of-returns-in-Some-clause-is
sum_of-returns-in-Some-clause-is t c = λ class h right. record {
  sum = subst (λ m. IfSome m (IsSumOf (over class (term_at c.args.pool.now c.args.number)))) c.in-Some.is (c.in_ok-known.ensures.is c.args.pool.now class right);
  right = right;
}

pub sum_of-returns-then-not-is_again-clause-is : goal.sum_of-returns-then-not-is_again-clause-is
sum_of-returns-then-not-is_again-clause-is t c = λ class h right.
    c.new_sum.ensures.is class h (right_same c.args.pool.now class c.args.memo.now c.meet.new.memo c.in_ok-is_again.ensures right)

pub sum_of-returns-clause-is : goal.sum_of-returns-clause-is
sum_of-returns-clause-is t c = λ class h right. (
    let found = c.in_ok-found.ensures.is class h (right_same c.args.pool.now class c.args.memo.now c.meet.new.memo c.in_ok-is_again.ensures right) in
    record { sum = found.sum; right = c.in_ok-keep.ensures c.args.pool.now class found.right (some_of (Leaves (over class (term_at c.args.pool.now c.args.number))) (IsSumOf (over class (term_at c.args.pool.now c.args.number))) c.in_ok-found.found found.sum) })
