use Rattle.std.proofs.Common.{length, refl}
use Rattle.congruence_closure.proofs.JoinLemmas.{at_begun, at_next, at_joins, at_none, falls}
use Rattle.congruence_closure.proofs.proof_forest.History.join.Goals as goal

pub loop-link-init : goal.loop-link-init
loop-link-init c = at_begun c.args.links.now (length c.args.links.now) c.args.self.now c.requires.history c.args.left c.args.right c.requires.apart

pub join_at-requires-clause-joins : goal.join_at-requires-clause-joins
join_at-requires-clause-joins c = at_joins c.args.links.now (length c.args.links.now) c.args.self.now c.requires.history c.args.left c.args.right c.loop-link.one c.loop-link.other c.in-Some.link c.loop-link.invariant c.in-Some.ensures c.root-one.result c.root-other.result c.root-one.ensures c.root-other.ensures c.if-one-other.true

pub loop-link-smaller : goal.loop-link-smaller
loop-link-smaller c = falls c.args.links.now (length c.args.links.now) c.args.self.now c.requires.history c.args.left c.args.right c.loop-link.one c.loop-link.other c.in-Some.link c.loop-link.invariant c.in-Some.ensures c.root-one.result c.root-other.result c.root-one.ensures c.root-other.ensures

pub loop-link-preserved : goal.loop-link-preserved
loop-link-preserved c = at_next c.args.links.now (length c.args.links.now) c.args.self.now c.requires.history c.args.left c.args.right c.loop-link.one c.loop-link.other c.in-Some.link c.loop-link.invariant c.in-Some.ensures c.root-one.result c.root-other.result c.root-one.ensures c.root-other.ensures c.if-one-other.false

pub returns : goal.returns
returns c = at_none c.args.links.now (length c.args.links.now) c.args.self.now c.requires.history c.args.left c.args.right c.loop-link.one c.loop-link.other refl c.loop-link.invariant c.in_default.ensures
