use Rattle.std.proofs.Common.{◌≡◌, ℕ, ◌-◌, List, length, Some, subst, arith}
use Rattle.std.specs.Prelude.{slice_get}
use Rattle.typing_rules.specs.Pieces.{piece_at, pieces}
use Rattle.definite_assignment.specs.declared.summary.Summary.{Summary}
use Rattle.definite_assignment.specs.Shown.{Shows}
use Rattle.definite_assignment.proofs.PassLaws.{pieces-length}
use Rattle.definite_assignment.proofs.pass.whole_effects.Goals as goal

pub returns : goal.returns
returns c =
    let types = c.args.types.now in
    let nodes = c.args.body.now.nodes in
    let summary = c.summary_at.result.now in
    let all = c.in_ok-found.ensures in
    let there = subst (λ (ss : List Summary). slice_get ss (c.len-count.result - 1) ≡ Some summary) c.deref.ensures.value c.summary_at.ensures in
    let count : c.len-count.result - 1 ≡ length nodes - 1 = omega (arith, all.same, pieces-length types nodes) in
    subst (λ (k : ℕ). Shows c.args.base summary.effects (piece_at (pieces types nodes) k).flow) count (all.each (c.len-count.result - 1) summary there).flow
