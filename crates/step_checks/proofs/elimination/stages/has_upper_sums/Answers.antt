use Rattle.std.specs.Bool.{Decides}
use Rattle.std.specs.Prelude.{All}
use Rattle.linear_arith.proofs.LeastLemmas.{ok_as}
use Rattle.step_checks.specs.Sums.{HasReducedSum}
use Rattle.step_checks.specs.Stages.{HasUpperSums}
use Rattle.step_checks.proofs.CheckLemmas.{refused, decided_true}
use Rattle.step_checks.proofs.elimination.stages.has_upper_sums.Goals as goal

pub returns-then-not-is_upper : goal.returns-then-not-is_upper
returns-then-not-is_upper c = λ rows s. decided_true (HasUpperSums rows c.args.eliminated.now c.args.unknown c.args.lowers.now c.args.upper.now) (λ w a. absurd (refused _ _ c.if-not-is_upper.true c.is_upper.ensures (a, w)))

pub returns : goal.returns
returns c = λ rows s.
    let is = c.is_upper.ensures.0 c.if-not-is_upper.false in
    let lowers = c.args.lowers.now in
    let upper = c.args.upper.now in
    ok_as c.has_sums_with.result (λ b. Decides b (All (HasReducedSum rows c.args.unknown upper) lowers)) (λ b. Decides b (HasUpperSums rows c.args.eliminated.now c.args.unknown lowers upper)) (λ b d. (λ t w a. d.0 t, λ h. d.1 (h is.1 is.0))) (c.has_sums_with.ensures rows s)
