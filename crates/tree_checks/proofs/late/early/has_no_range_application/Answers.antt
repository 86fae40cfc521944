use Rattle.term_pool.proofs.GrowthLemmas.{extends_then}
use Rattle.tableau.specs.PoolBranches.{branch_in}
use Rattle.tableau.proofs.PushLemmas.{over_still}
use Rattle.axiom_strategy.specs.declared.due.WantedAxioms.TheVariants.{Ranges}
use Rattle.axiom_strategy.specs.Due.{NoAxiom, IsAxiomStep, NothingOfRanges}
use Rattle.axiom_strategy.proofs.RangeLemmas.{ranges_first}
use Rattle.strategy.specs.Ranges.{NoRangeSplit, IsRangeSplitStep}
use Rattle.tree_checks.specs.Late.{HasNoRangeApplication}
use Rattle.tree_checks.proofs.FamilyLemmas.{never, one_of, none_of, decided, no_split_yet, there, back}
use Rattle.tree_checks.proofs.LateLemmas.{range_due}
use Rattle.tree_checks.proofs.late.early.has_no_range_application.Goals as goal

pub next_range_axiom-requires-clause-known : goal.next_range_axiom-requires-clause-known
next_range_axiom-requires-clause-known c = c.new-known.ensures c.args.shapes.now c.args.pool.now

pub returns-then-is_some-clause-exact : goal.returns-then-is_some-clause-exact
returns-then-is_some-clause-exact c = never (λ none. (
    let shapes = c.args.shapes.now in
    let ms = c.next_range_axiom.new.pool in
    let b = branch_in ms c.args.branch.now in
    let found = one_of (NoAxiom shapes b Ranges) (IsAxiomStep ms shapes b Ranges) c.in_ok-axiom.axiom c.in_ok-axiom.ensures.due c.if-is_some.ensures in
    range_due ms shapes b found.0 found.1 (there c.args.pool.now ms c.next_range_axiom.ensures.extends c.args.branch.now c.requires.over (HasNoRangeApplication shapes) none).no_axiom))

pub next_range_split-requires-clause-over : goal.next_range_split-requires-clause-over
next_range_split-requires-clause-over c = over_still c.args.pool.now c.next_range_axiom.new.pool c.next_range_axiom.ensures.extends c.args.branch.now c.requires.over

pub next_range_split-requires-clause-before : goal.next_range_split-requires-clause-before
next_range_split-requires-clause-before c = no_split_yet (branch_in c.next_range_axiom.new.pool c.args.branch.now)

pub returns-clause-extends : goal.returns-clause-extends
returns-clause-extends c = extends_then c.next_range_axiom.ensures.extends c.next_range_split.ensures.extends

pub returns-clause-exact : goal.returns-clause-exact
returns-clause-exact c =
    let ns = c.args.pool.now in
    let d = c.args.branch.now in
    let shapes = c.args.shapes.now in
    let ms1 = c.next_range_axiom.new.pool in
    let ms2 = c.next_range_split.new.pool in
    let e1 = c.next_range_axiom.ensures.extends in
    let e2 = extends_then e1 c.next_range_split.ensures.extends in
    let b1 = branch_in ms1 d in
    let b2 = branch_in ms2 d in
    let axioms = none_of (NoAxiom shapes b1 Ranges) (IsAxiomStep ms1 shapes b1 Ranges) c.in_ok-axiom.axiom c.in_ok-axiom.ensures.due c.if-is_some.ensures in
    decided (NoRangeSplit b2) (IsRangeSplitStep ms2 b2) (HasNoRangeApplication shapes (branch_in ns d))
    (λ splits. record { no_axiom = back ns ms1 e1 d c.requires.over (NothingOfRanges shapes) (ranges_first shapes b1 axioms); no_split = back ns ms2 e2 d c.requires.over NoRangeSplit splits })
    (λ step is none. (let at = is.split in ((there ns ms2 e2 d c.requires.over (HasNoRangeApplication shapes) none).no_split.each step.entry).none at.formula at.cases.cases at.says at.is_range at.cases.due))
    c.in_ok-split.split c.is_none.result c.in_ok-split.ensures.due c.is_none.ensures
