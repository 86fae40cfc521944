use Rattle.std.proofs.Common.{ℕ, List, true≢false, refl, sym, subst}
use Rattle.std.proofs.lemmas.List.{take_all}
use Rattle.axiom_strategy.specs.Vectors.{AreMoreAskers, IsPairOf}
use Rattle.axiom_strategy.proofs.VectorLemmas.{no_pair_yet, pair_passed, pair_put}
use Rattle.axiom_strategy.proofs.vectors.add_pair.Goals as goal

pub loop-of-init : goal.loop-of-init
loop-of-init c = no_pair_yet c.args.pairs.now c.args.left c.args.right c.args.askers.now.items

pub loop-of-preserved-then-not-has : goal.loop-of-preserved-then-not-has
loop-of-preserved-then-not-has c =
    pair_passed c.args.pairs.now c.args.left c.args.right c.args.askers.now.items c.args.types.now c.loop-of.of-index c.loop-of-test.true c.loop-of.invariant (λ m. true≢false (sym (c.if-not-has.ensures.1 m)))

pub loop-of-preserved : goal.loop-of-preserved
loop-of-preserved c =
    pair_put c.args.pairs.now c.args.left c.args.right c.args.askers.now.items c.args.types.now c.loop-of.of-index c.loop-of-test.true c.in_ok-push.ensures.items c.loop-of.invariant (c.if-not-has.ensures.0 refl)

pub returns : goal.returns
returns c =
    subst (λ (xs : List ℕ). AreMoreAskers c.args.askers.now.items c.loop-of.askers.items (IsPairOf xs c.args.pairs.now c.args.left c.args.right)) (take_all c.loop-of.of-index c.args.types.now c.loop-of-test.false) c.loop-of.invariant
