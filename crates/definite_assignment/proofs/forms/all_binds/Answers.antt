use Rattle.std.proofs.Common.{ℕ, List, map, get_or, subst, take_all}
use Rattle.typing_rules.specs.Pieces.{all_binds, piece_at}
use Rattle.definite_assignment.specs.Shown.{Means}
use Rattle.definite_assignment.proofs.PieceLaws.{binds_next}
use Rattle.definite_assignment.proofs.forms.all_binds.Goals as goal

pub loop-part-preserved : goal.loop-part-preserved
loop-part-preserved c = λ base done all.
    let parts = c.args.parts.now in
    let k = c.loop-part.part-index in
    let one = all.each (get_or parts k 0) c.summary_at.result.now c.summary_at.ensures in
    binds_next base c.loop-part.binds c.summary_at.result.now.binds c.union-binds.result done parts k c.loop-part-test.true c.union-binds.ensures (c.loop-part.invariant base done all) one.binds

pub returns : goal.returns
returns c = λ base done all.
    subst (λ (xs : List ℕ). Means base c.loop-part.binds (all_binds (map (piece_at done) xs))) (take_all c.loop-part.part-index c.args.parts.now c.loop-part-test.false) (c.loop-part.invariant base done all)
