use Rattle.std.proofs.Common.{◌<◌, Bool, IsTrue, length, subst, arith}
use Rattle.unification.specs.Grown.{Grows}
use Rattle.unification.specs.Unifiers.{Joins}
use Rattle.unification.proofs.Solving.{start, more_at, clash_at}
use Rattle.unification.proofs.pairs.solve.Goals as goal

pub loop-i-init : goal.loop-i-init
loop-i-init c = start c.args.variables c.in_ok-slots.slots.items c.in_ok-slots.ensures.same_length c.in_ok-slots.ensures.fits c.in_ok-slots.ensures.start

pub returns-then-not-branch : goal.returns-then-not-branch
returns-then-not-branch c =
    let lt : c.loop-i.i < length c.args.pairs.now = omega (arith, c.loop-i-test.true, c.requires) in
    clash_at c.args.variables c.args.pairs.now c.loop-i.i c.args.count c.index-pairs-i.result c.loop-i.slots.items c.join.new.slots.items lt (omega (arith, c.loop-i-test.true)) c.index-pairs-i.is c.loop-i.invariant
    (subst (λ (b : Bool). Grows c.loop-i.slots.items (λ t. Joins c.args.variables t c.index-pairs-i.result) c.join.new.slots.items (λ t. IsTrue b)) c.if-not-branch.true c.in_ok-join.ensures)

pub loop-i-preserved : goal.loop-i-preserved
loop-i-preserved c =
    let lt : c.loop-i.i < length c.args.pairs.now = omega (arith, c.loop-i-test.true, c.requires) in
    more_at c.args.variables c.args.pairs.now c.loop-i.i c.index-pairs-i.result c.loop-i.slots.items c.join.new.slots.items lt c.index-pairs-i.is c.loop-i.invariant
    (subst (λ (b : Bool). Grows c.loop-i.slots.items (λ t. Joins c.args.variables t c.index-pairs-i.result) c.join.new.slots.items (λ t. IsTrue b)) c.if-not-branch.false c.in_ok-join.ensures)
