use Rattle.congruence_closure.proofs.RootLemmas.{way_on, way_done}
use Rattle.congruence_closure.proofs.proof_forest.History.root.Goals as goal

pub loop-parent-preserved : goal.loop-parent-preserved
loop-parent-preserved c = way_on c.args.self.now c.args.before c.args.number c.loop-parent.top c.in-Some.parent c.loop-parent.invariant c.in-Some.ensures

pub returns : goal.returns
returns c = way_done c.args.self.now c.args.before c.args.number c.loop-parent.top c.loop-parent.invariant c.in_default.ensures
