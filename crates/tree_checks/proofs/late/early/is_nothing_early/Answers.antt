use Rattle.term_pool.proofs.GrowthLemmas.{extends_then}
use Rattle.tableau.specs.PoolBranches.{branch_in}
use Rattle.tableau.proofs.PushLemmas.{over_still}
use Rattle.tableau.proofs.VariablesLemmas.{above_grown}
use Rattle.tree_checks.specs.Late.{HasNoRangeApplication}
use Rattle.tree_checks.proofs.FamilyLemmas.{weaker, refuted, there, back}
use Rattle.tree_checks.proofs.LateLemmas.{entries_early, ranges_tell}
use Rattle.tree_checks.proofs.late.early.is_nothing_early.Goals as goal

pub returns-then-not-entries-clause-exact : goal.returns-then-not-entries-clause-exact
returns-then-not-entries-clause-exact c = entries_early c.args.shapes.now (branch_in c.args.pool.now c.args.branch.now) (refuted c.in_ok-entries.entries c.if-not-entries.true c.in_ok-entries.ensures.exact)

pub has_no_range_application-requires-clause-over : goal.has_no_range_application-requires-clause-over
has_no_range_application-requires-clause-over c = over_still c.args.pool.now c.has_no_entry_application.new.pool c.has_no_entry_application.ensures.extends c.args.branch.now c.requires.over

pub returns-clause-extends : goal.returns-clause-extends
returns-clause-extends c = extends_then c.has_no_entry_application.ensures.extends c.has_no_range_application.ensures.extends

pub returns-clause-above : goal.returns-clause-above
returns-clause-above c =
    above_grown c.has_no_entry_application.new.pool c.has_no_range_application.new.pool c.has_no_range_application.ensures.extends c.args.branch.now (over_still c.args.pool.now c.has_no_entry_application.new.pool c.has_no_entry_application.ensures.extends c.args.branch.now c.requires.over) c.has_no_entry_application.new.variables c.in_ok-entries.ensures.above

pub returns-clause-exact : goal.returns-clause-exact
returns-clause-exact c =
    let ns = c.args.pool.now in
    let d = c.args.branch.now in
    let ms = c.has_no_entry_application.new.pool in
    let e = c.has_no_entry_application.ensures.extends in
    let shapes = c.args.shapes.now in
    ranges_tell shapes (branch_in ns d) (c.in_ok-entries.ensures.exact.0 c.if-not-entries.false) c.in_ok-ranges.ranges (weaker c.in_ok-ranges.ranges (back ns ms e d c.requires.over (HasNoRangeApplication shapes)) (there ns ms e d c.requires.over (HasNoRangeApplication shapes)) c.in_ok-ranges.ensures.exact)
