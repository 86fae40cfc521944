use Rattle.std.proofs.Common.{◌≡◌, length, get_or, subst, arith}
use Rattle.term_pool.proofs.GrowthLemmas.{extends_itself, extends_then}
use Rattle.tableau.specs.PoolBranches.{branch_in}
use Rattle.tableau.proofs.EntryLemmas.{still_over}
use Rattle.axiom_strategy.specs.declared.askers.Asker.TheVariants.{Always}
use Rattle.axiom_strategy.specs.Due.{AsksOfSome}
use Rattle.axiom_strategy.specs.Askers.{asks_at}
use Rattle.axiom_strategy.specs.Listing.{AreDueSteps}
use Rattle.axiom_strategy.proofs.AskerLemmas.{askers_stay}
use Rattle.axiom_strategy.proofs.ListingLemmas.{no_steps, adds_still, steps_after}
use Rattle.axiom_strategy.proofs.listing.due_of.Goals as goal

pub loop-asker-init : goal.loop-asker-init
loop-asker-init c = record {
  in_range = omega arith;
  extends = extends_itself c.args.pool.now;
  due = rw c.new-steps.ensures.items (no_steps (asks_at c.args.shapes.now c.args.pool.now c.args.askers.now));
}

pub add_due_of-requires-clause-over : goal.add_due_of-requires-clause-over
add_due_of-requires-clause-over c = still_over c.args.pool.now c.loop-asker.pool c.loop-asker.invariant.extends c.args.branch.now c.requires.over

pub add_due_of-requires-clause-asker : goal.add_due_of-requires-clause-asker
add_due_of-requires-clause-asker c = askers_stay c.loop-asker.invariant.extends c.args.askers.now c.loop-asker.asker-index c.requires.askers c.loop-asker-test.true

pub loop-asker-preserved : goal.loop-asker-preserved
loop-asker-preserved c =
    let xs = c.args.askers.now in
    let i = c.loop-asker.asker-index in
    let old = c.loop-asker.steps.items in
    let new = c.add_due_of.new.steps.items in
    record {
      in_range = omega arith;
      extends = extends_then c.loop-asker.invariant.extends c.add_due_of.ensures.extends;
      due = steps_after (asks_at c.args.shapes.now c.args.pool.now xs) i old new c.add_due_of.ensures.extends c.loop-asker.invariant.due
          (adds_still c.args.pool.now c.loop-asker.pool c.loop-asker.invariant.extends c.args.branch.now c.requires.over c.add_due_of.new.pool c.args.shapes.now (get_or xs i Always) old new (c.requires.askers.each i c.loop-asker-test.true) c.in_ok-add_due_of.ensures.due);
    }

pub returns-clause-due : goal.returns-clause-due
returns-clause-due c =
    let ns = c.args.pool.now in
    let xs = c.args.askers.now in
    let all : c.loop-asker.asker-index ≡ length xs = omega arith in
    subst (λ n. AreDueSteps c.loop-asker.pool (branch_in ns c.args.branch.now) (AsksOfSome n (asks_at c.args.shapes.now ns xs)) c.loop-asker.steps.items) all c.loop-asker.invariant.due
