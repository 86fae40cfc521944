use Rattle.std.specs.Bool.{Decides}
use Rattle.std.specs.Prelude.{Contains}
use Rattle.linear_arith.proofs.LeastLemmas.{ok_as}
use Rattle.step_checks.specs.Sums.{IsReducedSum, HasReducedSum}
use Rattle.step_checks.proofs.CheckLemmas.{decided_false}
use Rattle.step_checks.proofs.StageLemmas.{sum_found}
use Rattle.step_checks.proofs.elimination.stages.has_sum.Goals as goal

pub returns-in-Some : goal.returns-in-Some
returns-in-Some c = λ rows s.
    let u = c.args.unknown in
    let upper = c.args.upper.now in
    let lower = c.args.lower.now in
    let some = rw c.in-Some.is at c.in_ok-sum.ensures.some in
    let is : IsReducedSum u upper lower c.in-Some.sum = some in
    ok_as c.has.result (λ b. Decides b (Contains rows c.in-Some.sum)) (λ b. Decides b (HasReducedSum rows u upper lower)) (λ b d. sum_found rows u upper lower c.in-Some.sum b is d) (c.has.ensures rows s)

pub returns-in-None : goal.returns-in-None
returns-in-None c = λ rows s.
    let none = rw c.in-None.is at c.in_ok-sum.ensures.none in
    decided_false (HasReducedSum rows c.args.unknown c.args.upper.now c.args.lower.now) (λ h. none h.row h.is_sum)
