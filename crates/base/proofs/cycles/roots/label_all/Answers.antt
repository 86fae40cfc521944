use Rattle.std.proofs.Common.{arith, ◌≡◌, ℕ, [], subst}
use Rattle.base.specs.Labelling.{IsLabelling, NoneIsOpen}
use Rattle.base.proofs.cycles.roots.label_all.Goals as goal

pub returns : goal.returns
returns c =
    let e : c.loop-position.position ≡ 0 = omega arith in
    subst (λ (p : ℕ). IsLabelling c.args.sources.now c.args.order.now p c.loop-position.given.labels.items [] NoneIsOpen) e c.loop-position.invariant.labels
