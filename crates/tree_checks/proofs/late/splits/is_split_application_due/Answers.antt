use Rattle.std.proofs.Common.{map}
use Rattle.term_pool.proofs.GrowthLemmas.{extends_then}
use Rattle.tableau.specs.PoolBranches.{branch_in}
use Rattle.tableau.proofs.PushLemmas.{over_still}
use Rattle.tableau.specs.Numbers.{formula_at}
use Rattle.tree_checks.proofs.FamilyLemmas.{refuted}
use Rattle.tree_checks.proofs.ApplicationLemmas.{range_back, no_cases, late_split, range_split, range_shows, not_late}
use Rattle.tree_checks.proofs.late.splits.is_split_application_due.Goals as goal

pub returns-then-not-due-clause-exact : goal.returns-then-not-due-clause-exact
returns-then-not-due-clause-exact c = λ tells. (
    let ns = c.args.pool.now in
    no_cases c.args.shapes.now (branch_in ns c.args.branch.now) c.args.entry (map (formula_at ns) c.args.formulas.now) (refuted c.in_ok-due.due c.if-not-due.true c.in_ok-due.ensures.exact))

pub returns-then-not-due-clause-shown : goal.returns-then-not-due-clause-shown
returns-then-not-due-clause-shown c = λ tells t. absurd (cc)

pub returns-then-late-clause-exact : goal.returns-then-late-clause-exact
returns-then-late-clause-exact c = λ tells. (
    let ns = c.args.pool.now in
    late_split c.args.shapes.now (branch_in ns c.args.branch.now) c.args.entry (map (formula_at ns) c.args.formulas.now) (c.in_ok-due.ensures.exact.0 c.if-not-due.false) (tells.0 c.if-late.true))

pub returns-then-late-clause-shown : goal.returns-then-late-clause-shown
returns-then-late-clause-shown c = λ tells. (
    let ns = c.args.pool.now in
    (late_split c.args.shapes.now (branch_in ns c.args.branch.now) c.args.entry (map (formula_at ns) c.args.formulas.now) (c.in_ok-due.ensures.exact.0 c.if-not-due.false) (tells c.if-late.true)).0)

pub is_range_entry-requires-clause-over : goal.is_range_entry-requires-clause-over
is_range_entry-requires-clause-over c = over_still c.args.pool.now c.are_cases_due.new.pool c.are_cases_due.ensures.extends c.args.branch.now c.requires.over

pub returns-clause-extends : goal.returns-clause-extends
returns-clause-extends c = extends_then c.are_cases_due.ensures.extends c.is_range_entry.ensures.extends

pub returns-clause-exact : goal.returns-clause-exact
returns-clause-exact c = λ tells. (
    let ns = c.args.pool.now in
    range_split c.args.shapes.now (branch_in ns c.args.branch.now) c.args.entry (map (formula_at ns) c.args.formulas.now) (c.in_ok-due.ensures.exact.0 c.if-not-due.false) (not_late c.if-late.false tells) c.in_ok-range.range (range_back ns c.are_cases_due.new.pool c.are_cases_due.ensures.extends c.args.branch.now c.requires.over c.args.entry c.in_ok-range.range c.in_ok-range.ensures.exact))

pub returns-clause-shown : goal.returns-clause-shown
returns-clause-shown c = λ tells. (
    let ns = c.args.pool.now in
    range_shows c.args.shapes.now (branch_in ns c.args.branch.now) c.args.entry (map (formula_at ns) c.args.formulas.now) (c.in_ok-due.ensures.exact.0 c.if-not-due.false) c.in_ok-range.range (range_back ns c.are_cases_due.new.pool c.are_cases_due.ensures.extends c.args.branch.now c.requires.over c.args.entry c.in_ok-range.range c.in_ok-range.ensures.exact))
