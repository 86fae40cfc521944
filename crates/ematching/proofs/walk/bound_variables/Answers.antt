use Rattle.std.proofs.Common.{◌++◌, ◌∷◌, [], sym, ap, ◌∙◌, subst}
use Rattle.ematching.specs.Walks.{AreReached}
use Rattle.ematching.specs.declared.walk.Way.TheVariants.{Bound}
use Rattle.ematching.proofs.BoundLemmas.{so_far_begun, so_far_none, so_far_more, so_far_done}
use Rattle.ematching.proofs.walk.bound_variables.Goals as goal

pub loop-number-init : goal.loop-number-init
loop-number-init c =
    so_far_begun c.args.pool.now c.args.variable c.deref-number-items.result.now c.push.new.self.items (c.in_ok-push.ensures.items ∙ ap (λ xs. xs ++ c.args.variable ∷ []) c.new-variables.ensures.items)

pub loop-number-preserved-in_default : goal.loop-number-preserved-in_default
loop-number-preserved-in_default c =
    so_far_none c.args.pool.now c.args.variable c.deref-number-items.result.now c.loop-number.number-index c.loop-number.variables.items c.loop-number-test.true c.in_default.ensures c.loop-number.invariant

pub loop-number-preserved : goal.loop-number-preserved
loop-number-preserved c =
    so_far_more c.args.pool.now c.args.variable c.deref-number-items.result.now c.loop-number.number-index c.loop-number.variables.items c.push-in-loop-number.new.self.items c.in-Some.bound c.loop-number-test.true c.in_ok-push-2.ensures.items c.in-Some.ensures c.loop-number.invariant

pub returns : goal.returns
returns c =
    so_far_done c.args.pool.now c.args.variable c.deref-number-items.result.now c.loop-number.number-index c.loop-number.variables.items c.args.body c.requires.sort (subst (AreReached c.args.pool.now Bound c.args.body) (sym c.deref-number-items.ensures.value) c.in_ok-numbers.ensures) c.loop-number-test.false c.loop-number.invariant
