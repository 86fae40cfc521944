use Rattle.std.proofs.Common.{ℕ, List, subst}
use Rattle.std.proofs.lemmas.List.{take_all}
use Rattle.tableau.specs.PoolBranches.{branch_in}
use Rattle.tableau.proofs.NearLemmas.{nth_term}
use Rattle.axiom_strategy.proofs.ReadAskLemmas.{AreReadAskers, no_read_askers, reads_taken, reads_ask}
use Rattle.axiom_strategy.proofs.reads.read_askers.Goals as goal

pub loop-term-init : goal.loop-term-init
loop-term-init c = rw c.new-askers.ensures.items (no_read_askers c.args.pool.now (branch_in c.args.pool.now c.args.branch.now))

pub add_reads-requires-clause-term : goal.add_reads-requires-clause-term
add_reads-requires-clause-term c = nth_term c.args.pool.now (branch_in c.args.pool.now c.args.branch.now) c.args.terms.now c.requires.terms c.loop-term.term-index c.loop-term-test.true

pub loop-term-preserved : goal.loop-term-preserved
loop-term-preserved c =
    reads_taken c.args.pool.now (branch_in c.args.pool.now c.args.branch.now) c.args.terms.now c.loop-term.term-index c.loop-term-test.true c.loop-term.invariant c.in_ok-add_reads.ensures

pub returns : goal.returns
returns c =
    let ns = c.args.pool.now in
    reads_ask ns c.one_number.ensures c.args.branch.now c.requires.over c.args.terms.now c.requires.terms c.loop-term.askers.items
    (subst (λ (xs : List ℕ). AreReadAskers ns (branch_in ns c.args.branch.now) xs c.loop-term.askers.items) (take_all c.loop-term.term-index c.args.terms.now c.loop-term-test.false) c.loop-term.invariant)
