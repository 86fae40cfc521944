use Rattle.std.proofs.Common.{subst, sym}
use Rattle.std.proofs.lemmas.Option.{slice_get-get_or}
use Rattle.congruence_closure.specs.Histories.{IsRoot}
use Rattle.congruence_closure.proofs.JoinLemmas.{near_left, near_right}
use Rattle.congruence_closure.proofs.proof_forest.History.join_at.Goals as goal

pub returns-then-root : goal.returns-then-root
returns-then-root c = near_left c.args.links.now c.args.number _ (slice_get-get_or c.args.links.now c.args.number _ c.requires.number) _ c.args.self.now c.requires.history c.requires.number c.args.left c.args.right c.requires.joins c.root.result c.root.ensures (subst (IsRoot c.args.self.now c.args.number c.args.left) (sym c.if-root.true) c.root-2.ensures)

pub returns-else-root : goal.returns-else-root
returns-else-root c = near_right c.args.links.now c.args.number _ (slice_get-get_or c.args.links.now c.args.number _ c.requires.number) _ c.args.self.now c.requires.history c.requires.number c.args.left c.args.right c.requires.joins c.root.result c.root-2.result c.root.ensures c.root-2.ensures c.if-root.false
