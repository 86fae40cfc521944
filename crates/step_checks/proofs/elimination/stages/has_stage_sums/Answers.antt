use Rattle.std.proofs.Common.{get_or}
use Rattle.std.specs.Bool.{Decides}
use Rattle.std.specs.Prelude.{All}
use Rattle.std.proofs.lemmas.List.Elements.{Contains-get_or}
use Rattle.linear_arith.proofs.LeastLemmas.{ok_as}
use Rattle.step_checks.specs.Given.{HasStageSums}
use Rattle.step_checks.specs.Stages.{HasUpperSums}
use Rattle.step_checks.proofs.StageLemmas.{stage_sums, upper_sums}
use Rattle.step_checks.proofs.elimination.stages.has_stage_sums.Goals as goal

pub returns : goal.returns
returns c =
    let rows = c.args.rows.now in
    let gone = c.args.eliminated.now in
    let u = c.args.unknown in
    let lowers = c.in_ok-lowers.lowers in
    let are = c.in_ok-lowers.ensures in
    ok_as c.have_upper_sums.result (λ b. Decides b (All (HasUpperSums rows gone u lowers) rows)) (λ b. Decides b (HasStageSums rows gone u)) (λ b d. (λ t. stage_sums rows gone u lowers are (d.0 t), λ h. d.1 (λ k e l. upper_sums rows gone u lowers (get_or rows k e) are (Contains-get_or rows k e l) h))) (c.have_upper_sums.ensures rows c.requires)
