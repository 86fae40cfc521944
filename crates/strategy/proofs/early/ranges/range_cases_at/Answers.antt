use Rattle.std.proofs.Common.{◌≡◌, true, false, sym, ◌∙◌}
use Rattle.std.proofs.lemmas.Result.{IfOk-weaker}
use Rattle.term_pool.proofs.GrowthLemmas.{extends_then}
use Rattle.tableau.proofs.EntryLemmas.{still_over}
use Rattle.axiom_strategy.specs.Known.{AreKnownInstances}
use Rattle.axiom_strategy.proofs.KnownLemmas.{known_stay}
use Rattle.strategy.proofs.RangeLemmas.{answer_map, no_entry_split, no_range_entry, no_range_split, range_split}
use Rattle.strategy.proofs.early.ranges.range_cases_at.Goals as goal

pub returns-in_default-clause-due : goal.returns-in_default-clause-due
returns-in_default-clause-due c = no_entry_split c.args.pool.now c.args.branch.now c.args.i (sym c.in_default.ensures)

pub is_range-requires-clause-formula : goal.is_range-requires-clause-formula
is_range-requires-clause-formula c = c.requires.over.formulas c.args.i c.in-Some.entry (sym c.in-Some.ensures)

pub returns-then-not-branch-clause-due : goal.returns-then-not-branch-clause-due
returns-then-not-branch-clause-due c =
    no_range_entry c.args.pool.now c.is_range.new.pool c.is_range.ensures.extends c.args.branch.now c.requires.over c.args.i c.in-Some.entry (sym c.in-Some.ensures) (λ h. (let both : true ≡ false = sym (c.in_ok-is_range.ensures.is.1 h) ∙ c.if-not-branch.true in absurd (cc)))

pub cases_at-requires : goal.cases_at-requires
cases_at-requires c = still_over c.args.pool.now c.is_range.new.pool c.is_range.ensures.extends c.args.branch.now c.requires.over

pub returns-clause-known : goal.returns-clause-known
returns-clause-known c =
    let shapes = c.args.shapes.now in
    let ks = c.cases_at.new.pool in
    let known = c.is_range.new.known in
    IfOk-weaker c.cases_at.result _ (λ found. AreKnownInstances shapes ks known) (λ found due. known_stay shapes c.is_range.new.pool ks known c.cases_at.ensures.extends c.in_ok-is_range.ensures.known) c.cases_at.ensures.due

pub returns-clause-due : goal.returns-clause-due
returns-clause-due c =
    let ns = c.args.pool.now in
    let ks = c.cases_at.new.pool in
    let grown = extends_then c.is_range.ensures.extends c.cases_at.ensures.extends in
    let d = c.args.branch.now in
    let found = sym c.in-Some.ensures in
    let is = c.in_ok-is_range.ensures.is.0 c.if-not-branch.false in
    answer_map c.cases_at.result (λ none. no_range_split ns ks grown d c.requires.over c.args.i c.in-Some.entry found none) (λ v due. range_split ns ks grown d c.requires.over c.args.i c.in-Some.entry found is v.items due) c.cases_at.ensures.due
