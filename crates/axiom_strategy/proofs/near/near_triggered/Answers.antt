use Rattle.std.proofs.Common.{length, get_or, Some, arith}
use Rattle.term_pool.proofs.GrowthLemmas.{extends_itself, extends_then}
use Rattle.tableau.proofs.EntryLemmas.{still_over}
use Rattle.axiom_strategy.specs.declared.askers.Asker.TheVariants.{Always}
use Rattle.axiom_strategy.specs.declared.due.WantedAxioms.TheVariants.{All}
use Rattle.axiom_strategy.specs.Askers.{asks_at}
use Rattle.axiom_strategy.proofs.DueLemmas.{some_step}
use Rattle.axiom_strategy.proofs.AskerLemmas.{askers_stay, answer_still}
use Rattle.axiom_strategy.proofs.near.near_triggered.Goals as goal

pub loop-i-init : goal.loop-i-init
loop-i-init c = record { extends = extends_itself c.args.pool.now; known = c.requires.known }

pub next_of-requires-clause-over : goal.next_of-requires-clause-over
next_of-requires-clause-over c = still_over c.args.pool.now c.loop-i.pool c.loop-i.invariant.extends c.args.branch.now c.requires.over

pub next_of-requires-clause-asker : goal.next_of-requires-clause-asker
next_of-requires-clause-asker c = askers_stay c.loop-i.invariant.extends c.args.askers.now c.loop-i.i c.requires.askers (omega arith)

pub returns-in-Some-clause-extends : goal.returns-in-Some-clause-extends
returns-in-Some-clause-extends c = extends_then c.loop-i.invariant.extends c.next_of.ensures.extends

pub returns-in-Some-clause-due : goal.returns-in-Some-clause-due
returns-in-Some-clause-due c =
    let xs = c.args.askers.now in
    let i = c.loop-i.i in
    some_step (asks_at c.args.shapes.now c.args.pool.now xs) i (length xs) (omega arith)
    (answer_still c.args.pool.now c.loop-i.pool c.loop-i.invariant.extends c.args.branch.now c.requires.over c.next_of.new.pool All c.args.shapes.now (get_or xs i Always) (Some c.in-Some.step) (c.requires.askers.each i (omega arith)) (rw c.in-Some.is at c.in_ok-step.ensures.due))

pub loop-i-preserved : goal.loop-i-preserved
loop-i-preserved c = record { extends = extends_then c.loop-i.invariant.extends c.next_of.ensures.extends; known = c.in_ok-step.ensures.known }
