use Rattle.tableau.specs.PoolBranches.{branch_in}
use Rattle.term_pool.proofs.GrowthLemmas.{extends_then}
use Rattle.tableau.proofs.PushLemmas.{over_still}
use Rattle.tableau.specs.Steps.{NoParts, IsPartsStep, NoSplit, IsSplitStep}
use Rattle.tableau.specs.Names.{NoName, IsNameStep}
use Rattle.tableau.proofs.VariablesLemmas.{above_grown}
use Rattle.strategy.specs.Families.{IsReduced}
use Rattle.strategy.proofs.SaturationLemmas.{one_of, none_of, decided, no_parts_yet, no_split_yet, no_name_yet, there, back}
use Rattle.strategy.proofs.saturation.is_reduced.Goals as goal

pub next_parts-requires-clause-before : goal.next_parts-requires-clause-before
next_parts-requires-clause-before c = no_parts_yet (branch_in c.args.pool.now c.args.branch.now)

pub returns-then-is_some-clause-exact : goal.returns-then-is_some-clause-exact
returns-then-is_some-clause-exact c = λ reduced. (
    let ms = c.next_parts.new.pool in
    let b = branch_in ms c.args.branch.now in
    let found = one_of (NoParts b) (IsPartsStep ms b) c.in_ok-parts.parts c.in_ok-parts.ensures.due c.if-is_some.ensures in
    let parts = (there c.args.pool.now ms c.next_parts.ensures.extends c.args.branch.now c.requires.over IsReduced reduced).no_parts in
    (parts.each found.0.entry).none found.1.parts.parts found.1.parts.due)

pub next_split-requires-clause-over : goal.next_split-requires-clause-over
next_split-requires-clause-over c = over_still c.args.pool.now c.next_parts.new.pool c.next_parts.ensures.extends c.args.branch.now c.requires.over

pub next_split-requires-clause-before : goal.next_split-requires-clause-before
next_split-requires-clause-before c = no_split_yet (branch_in c.next_parts.new.pool c.args.branch.now)

pub returns-then-is_some-2-clause-exact : goal.returns-then-is_some-2-clause-exact
returns-then-is_some-2-clause-exact c = λ reduced. (
    let ms = c.next_split.new.pool in
    let b = branch_in ms c.args.branch.now in
    let found = one_of (NoSplit b) (IsSplitStep ms b) c.in_ok-split.split c.in_ok-split.ensures.due c.if-is_some-2.ensures in
    let splits = (there c.args.pool.now ms (extends_then c.next_parts.ensures.extends c.next_split.ensures.extends) c.args.branch.now c.requires.over IsReduced reduced).no_split in
    (splits.each found.0.entry).none found.1.cases.cases found.1.cases.due)

pub next_name-requires-clause-over : goal.next_name-requires-clause-over
next_name-requires-clause-over c = over_still c.args.pool.now c.next_split.new.pool (extends_then c.next_parts.ensures.extends c.next_split.ensures.extends) c.args.branch.now c.requires.over

pub next_name-requires-clause-above : goal.next_name-requires-clause-above
next_name-requires-clause-above c = above_grown c.args.pool.now c.next_split.new.pool (extends_then c.next_parts.ensures.extends c.next_split.ensures.extends) c.args.branch.now c.requires.over c.args.variables.now c.requires.above

pub next_name-requires-clause-before : goal.next_name-requires-clause-before
next_name-requires-clause-before c = no_name_yet (branch_in c.next_split.new.pool c.args.branch.now)

pub returns-clause-exact : goal.returns-clause-exact
returns-clause-exact c =
    let ns = c.args.pool.now in
    let d = c.args.branch.now in
    let ms1 = c.next_parts.new.pool in
    let ms2 = c.next_split.new.pool in
    let ms3 = c.next_name.new.pool in
    let e1 = c.next_parts.ensures.extends in
    let e2 = extends_then e1 c.next_split.ensures.extends in
    let e3 = extends_then e2 c.next_name.ensures.extends in
    let b1 = branch_in ms1 d in
    let b2 = branch_in ms2 d in
    let b3 = branch_in ms3 d in
    let parts = none_of (NoParts b1) (IsPartsStep ms1 b1) c.in_ok-parts.parts c.in_ok-parts.ensures.due c.if-is_some.ensures in
    let splits = none_of (NoSplit b2) (IsSplitStep ms2 b2) c.in_ok-split.split c.in_ok-split.ensures.due c.if-is_some-2.ensures in
    decided (NoName b3) (IsNameStep ms3 b3) (IsReduced (branch_in ns d))
    (λ names. record { no_parts = back ns ms1 e1 d c.requires.over NoParts parts; no_split = back ns ms2 e2 d c.requires.over NoSplit splits; no_name = back ns ms3 e3 d c.requires.over NoName names })
    (λ step is reduced. ((there ns ms3 e3 d c.requires.over IsReduced reduced).no_name.each step.entry).none step.variable is.formula is.due)
    c.in_ok-name.name c.is_none.result c.in_ok-name.ensures.due c.is_none.ensures
