use Rattle.std.proofs.Common.{◌<◌, sym, subst}
use Rattle.ematching.proofs.ListedLemmas.{IsHeadWalk, steps_to, head_walk_begun, head_walk_more, head_walk_done, head_walk_falls}
use Rattle.ematching.proofs.heads.HeadIndex.with_head.Goals as goal

pub loop-next-init : goal.loop-next-init
loop-next-init c = λ ns index. head_walk_begun ns c.args.self.now index c.args.head c.last-next.result c.new-numbers.result.items c.new-numbers.ensures.items c.last-next.ensures

pub loop-next-preserved : goal.loop-next-preserved
loop-next-preserved c = λ ns index. head_walk_more ns c.args.self.now index c.args.head c.in-Some.number c.loop-next.numbers.items c.previous-next.result (subst (λ o. IsHeadWalk ns c.args.head o c.loop-next.numbers.items) c.in-Some.is (c.loop-next.invariant ns index)) c.previous-next.ensures c.push.new.self.items c.in_ok-push.ensures.items

pub loop-next-smaller : goal.loop-next-smaller
loop-next-smaller c =
    let ns = c.requires.nodes in
    let index = c.requires.index in
    subst (λ o. steps_to c.previous-next.result < steps_to o) (sym c.in-Some.is) (head_walk_falls ns c.args.self.now index c.args.head c.in-Some.number c.loop-next.numbers.items c.previous-next.result (subst (λ o. IsHeadWalk ns c.args.head o c.loop-next.numbers.items) c.in-Some.is (c.loop-next.invariant ns index)) c.previous-next.ensures)

pub returns : goal.returns
returns c = λ ns index. head_walk_done ns c.args.self.now index c.args.head c.loop-next.numbers.items (subst (λ o. IsHeadWalk ns c.args.head o c.loop-next.numbers.items) c.in_default.is (c.loop-next.invariant ns index))
