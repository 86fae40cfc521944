use Rattle.std.proofs.Common.{sym}
use Rattle.term_pool.proofs.GrowthLemmas.{extends_itself, extends_then}
use Rattle.tree_checks.specs.Steps.{first_branch}
use Rattle.tree_checks.proofs.LeadLemmas.{numbers_later, leads_to_grown, going_begun, gone, step_numbers, lost, going_on}
use Rattle.tree_checks.proofs.grown.is_grown.Goals as goal

pub loop-step-init : goal.loop-step-init
loop-step-init c =
    let ns = c.args.pool.now in
    going_begun c.args.shapes.now ns (first_branch ns c.args.denial) c.args.steps.now ns c.in_ok-branch.branch c.nothing_kept-kept.result (extends_itself ns) c.in_ok-branch.ensures.over (c.nothing_kept-kept.ensures ns c.in_ok-branch.branch.entries) (sym c.in_ok-branch.ensures.is)

pub take-requires-clause-over : goal.take-requires-clause-over
take-requires-clause-over c = c.loop-step.invariant.over

pub take-requires-clause-kept : goal.take-requires-clause-kept
take-requires-clause-kept c = c.loop-step.invariant.kept

pub take-requires-clause-numbers : goal.take-requires-clause-numbers
take-requires-clause-numbers c =
    let ns = c.args.pool.now in
    let start = first_branch ns c.args.denial in
    let l = c.loop-step in
    numbers_later ns l.pool l.invariant.extends c.step-item.result.extension (step_numbers c.args.shapes.now ns start c.args.steps.now l.pool l.step-index l.branch l.kept l.invariant c.step-item.result c.loop-step-test.true c.step-item.is c.requires.numbers)

pub returns-then-not-known-clause-extends : goal.returns-then-not-known-clause-extends
returns-then-not-known-clause-extends c = extends_then c.loop-step.invariant.extends c.take.ensures.extends

pub returns-then-not-known-clause-exact : goal.returns-then-not-known-clause-exact
returns-then-not-known-clause-exact c =
    let ns = c.args.pool.now in
    let l = c.loop-step in
    lost c.args.shapes.now ns (first_branch ns c.args.denial) c.args.steps.now l.pool l.step-index l.branch l.kept l.invariant c.step-item.result c.loop-step-test.true c.step-item.is c.requires.numbers (rw c.if-not-known.true at c.in_ok-known.ensures.exact)

pub loop-step-preserved : goal.loop-step-preserved
loop-step-preserved c =
    let ns = c.args.pool.now in
    let l = c.loop-step in
    going_on c.args.shapes.now ns (first_branch ns c.args.denial) c.args.steps.now l.pool l.step-index l.branch l.kept l.invariant c.step-item.result c.loop-step-test.true c.step-item.is c.requires.numbers c.take.new.pool c.take.new.branch c.take.new.kept c.take.ensures.extends c.in_ok-known.ensures.over c.in_ok-known.ensures.kept (rw c.if-not-known.false at c.in_ok-known.ensures.exact)

pub returns-clause-extends : goal.returns-clause-extends
returns-clause-extends c = c.loop-step.invariant.extends

pub returns-clause-over : goal.returns-clause-over
returns-clause-over c = c.loop-step.invariant.over

pub returns-clause-exact : goal.returns-clause-exact
returns-clause-exact c =
    let ns = c.args.pool.now in
    let l = c.loop-step in
    gone c.args.shapes.now ns (first_branch ns c.args.denial) c.args.steps.now l.pool l.step-index l.branch l.kept c.loop-step-test.false l.invariant

pub returns-clause-grown : goal.returns-clause-grown
returns-clause-grown c = λ p e. (
    let ns = c.args.pool.now in
    let l = c.loop-step in
    leads_to_grown c.args.shapes.now ns p c.args.denial e c.args.steps.now _ (gone c.args.shapes.now ns (first_branch ns c.args.denial) c.args.steps.now l.pool l.step-index l.branch l.kept c.loop-step-test.false l.invariant))

pub returns-in_err-known-clause-extends : goal.returns-in_err-known-clause-extends
returns-in_err-known-clause-extends c = extends_then c.loop-step.invariant.extends c.take.ensures.extends
