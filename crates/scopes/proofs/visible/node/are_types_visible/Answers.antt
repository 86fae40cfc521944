use Rattle.std.proofs.Common.{refl, arith}
use Rattle.program.specs.StorageTypes.{TypeIsVisible}
use Rattle.scopes.proofs.Each.{next_item, every}
use Rattle.scopes.proofs.visible.node.are_types_visible.Goals as goal

pub loop-term-preserved : goal.loop-term-preserved
loop-term-preserved c =
    next_item (TypeIsVisible c.args.own.now c.args.types.now) c.args.terms.now c.loop-term.term-index c.term-item.result c.loop-term-test.true c.term-item.is
    c.loop-term.invariant (c.is_type_visible.ensures.0 c.if-not-is_type_visible.false)

pub returns : goal.returns
returns c =
    let all = every (TypeIsVisible c.args.own.now c.args.types.now) c.args.terms.now c.loop-term.term-index (omega arith) c.loop-term.invariant in
    (λ t. all, λ a. refl)
