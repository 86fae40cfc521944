use Rattle.std.proofs.Common.{get_or, arith}
use Rattle.std.proofs.lemmas.Option.{slice_get-get_or}
use Rattle.tableau.specs.PoolBranches.{branch_in}
use Rattle.axiom_strategy.proofs.ListingLemmas.{no_instance, only_at, adds_none, adds_one, adds_no_more, adds_listed}
use Rattle.axiom_strategy.proofs.listing.add_due.Goals as goal

pub loop-triggered-init : goal.loop-triggered-init
loop-triggered-init c = record { in_range = omega arith; adds = adds_none (only_at c.args.pool.now c.args.instances.now) c.args.steps.now.items }

pub step_of-requires-clause-triggered : goal.step_of-requires-clause-triggered
step_of-requires-clause-triggered c =
    let xs = c.args.instances.now in
    let i = c.loop-triggered.triggered-index in
    c.requires.instances.each i (get_or xs i no_instance) (slice_get-get_or xs i no_instance c.loop-triggered-test.true)

pub loop-triggered-preserved : goal.loop-triggered-preserved
loop-triggered-preserved c =
    let ns = c.args.pool.now in
    record {
      in_range = omega arith;
      adds = adds_one ns (branch_in ns c.args.branch.now) c.args.instances.now c.loop-triggered.triggered-index c.args.steps.now.items c.loop-triggered.steps.items c.push.new.self.items c.in-Some.step c.loop-triggered.invariant.adds c.in-Some.ensures c.in_ok-push.ensures.items;
    }

pub loop-triggered-preserved-in_default : goal.loop-triggered-preserved-in_default
loop-triggered-preserved-in_default c =
    let ns = c.args.pool.now in
    record {
      in_range = omega arith;
      adds = adds_no_more (only_at ns c.args.instances.now) c.loop-triggered.triggered-index c.args.steps.now.items c.loop-triggered.steps.items c.loop-triggered.invariant.adds c.in_default.ensures;
    }

pub returns : goal.returns
returns c =
    let ns = c.args.pool.now in
    adds_listed ns (branch_in ns c.args.branch.now) c.args.instances.now c.loop-triggered.triggered-index c.args.steps.now.items c.loop-triggered.steps.items (omega arith) c.loop-triggered.invariant.adds
