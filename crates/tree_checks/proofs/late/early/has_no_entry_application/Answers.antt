use Rattle.term_pool.proofs.GrowthLemmas.{extends_then}
use Rattle.tableau.specs.PoolBranches.{branch_in}
use Rattle.tableau.proofs.PushLemmas.{over_still}
use Rattle.tableau.specs.Steps.{NoParts, IsPartsStep}
use Rattle.tableau.specs.Names.{NoName, IsNameStep}
use Rattle.tableau.proofs.VariablesLemmas.{above_grown}
use Rattle.tree_checks.specs.Late.{HasNoEntryApplication}
use Rattle.tree_checks.proofs.FamilyLemmas.{never, one_of, none_of, decided, no_parts_yet, no_name_yet, there, back}
use Rattle.tree_checks.proofs.late.early.has_no_entry_application.Goals as goal

pub next_parts-requires-clause-before : goal.next_parts-requires-clause-before
next_parts-requires-clause-before c = no_parts_yet (branch_in c.args.pool.now c.args.branch.now)

pub returns-then-is_some-clause-above : goal.returns-then-is_some-clause-above
returns-then-is_some-clause-above c = above_grown c.args.pool.now c.next_parts.new.pool c.next_parts.ensures.extends c.args.branch.now c.requires.over c.args.variables.now c.requires.above

pub returns-then-is_some-clause-exact : goal.returns-then-is_some-clause-exact
returns-then-is_some-clause-exact c = never (λ none. (
    let ms = c.next_parts.new.pool in
    let b = branch_in ms c.args.branch.now in
    let found = one_of (NoParts b) (IsPartsStep ms b) c.in_ok-parts.parts c.in_ok-parts.ensures.due c.if-is_some.ensures in
    let parts = (there c.args.pool.now ms c.next_parts.ensures.extends c.args.branch.now c.requires.over HasNoEntryApplication none).no_parts in
    (parts.each found.0.entry).none found.1.parts.parts found.1.parts.due))

pub next_name-requires-clause-over : goal.next_name-requires-clause-over
next_name-requires-clause-over c = over_still c.args.pool.now c.next_parts.new.pool c.next_parts.ensures.extends c.args.branch.now c.requires.over

pub next_name-requires-clause-above : goal.next_name-requires-clause-above
next_name-requires-clause-above c = above_grown c.args.pool.now c.next_parts.new.pool c.next_parts.ensures.extends c.args.branch.now c.requires.over c.args.variables.now c.requires.above

pub next_name-requires-clause-before : goal.next_name-requires-clause-before
next_name-requires-clause-before c = no_name_yet (branch_in c.next_parts.new.pool c.args.branch.now)

pub returns-clause-extends : goal.returns-clause-extends
returns-clause-extends c = extends_then c.next_parts.ensures.extends c.next_name.ensures.extends

pub returns-clause-exact : goal.returns-clause-exact
returns-clause-exact c =
    let ns = c.args.pool.now in
    let d = c.args.branch.now in
    let ms1 = c.next_parts.new.pool in
    let ms2 = c.next_name.new.pool in
    let e1 = c.next_parts.ensures.extends in
    let e2 = extends_then e1 c.next_name.ensures.extends in
    let b1 = branch_in ms1 d in
    let b2 = branch_in ms2 d in
    let parts = none_of (NoParts b1) (IsPartsStep ms1 b1) c.in_ok-parts.parts c.in_ok-parts.ensures.due c.if-is_some.ensures in
    decided (NoName b2) (IsNameStep ms2 b2) (HasNoEntryApplication (branch_in ns d))
    (λ names. record { no_parts = back ns ms1 e1 d c.requires.over NoParts parts; no_name = back ns ms2 e2 d c.requires.over NoName names })
    (λ step is none. ((there ns ms2 e2 d c.requires.over HasNoEntryApplication none).no_name.each step.entry).none step.variable is.formula is.due)
    c.in_ok-name.name c.is_none.result c.in_ok-name.ensures.due c.is_none.ensures
