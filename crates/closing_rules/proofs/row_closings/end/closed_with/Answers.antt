use Rattle.std.proofs.Common.{nat_eq, sym, subst}
use Rattle.std.specs.Prelude.{MatchOption}
use Rattle.std.specs.List.{AllZip}
use Rattle.indexmap.specs.IndexMap.{get}
use Rattle.certificates.specs.BranchesBranch.{formulas}
use Rattle.certificates.specs.ProofTraces.{IsFull}
use Rattle.tableau.specs.PoolBranches.{branch_in}
use Rattle.row_reasoning.specs.Rows.{IsRowFrom}
use Rattle.search.specs.Decisions.{IsClosingDue}
use Rattle.closing_rules.proofs.EndLemmas.{entries_are, begins_with, one_each, all_placed, positions_below}
use Rattle.closing_rules.proofs.row_closings.end.closed_with.Goals as goal

pub positions-requires-clause-chain : goal.positions-requires-clause-chain
positions-requires-clause-chain c =
    c.in_ok-chain.ensures.chain c.args.pool.now (branch_in c.args.pool.now c.args.branch.now)
    (entries_are c.args.pool.now c.args.branch.now c.args.choice.classes.now c.requires.setting.base c.as_slice.result.now c.in_ok-entries.entries.items c.as_slice.ensures.value c.in_ok-entries.ensures)
    c.requires.setting.above

pub positions-requires-clause-entries : goal.positions-requires-clause-entries
positions-requires-clause-entries c = begins_with c.args.pool.now c.args.branch.now c.args.choice.classes.now c.requires.setting.base c.as_slice.result.now c.in_ok-entries.entries.items c.in_ok-chain.chain c.in_ok-chain.ensures.formulas c.as_slice.ensures.value c.in_ok-entries.ensures

pub rows_closing-requires-clause-one_each : goal.rows_closing-requires-clause-one_each
rows_closing-requires-clause-one_each c = one_each c.args.pool.now c.args.branch.now c.args.choice.classes.now c.args.choice.names.now (get nat_eq c.args.choice.chosen.now) c.args.rows.now c.args.multipliers.now c.args.variable c.requires.setting c.as_slice-origins.result.now c.as_slice-origins.ensures.value

pub rows_closing-requires-clause-below : goal.rows_closing-requires-clause-below
rows_closing-requires-clause-below c =
    let placed = c.in_ok-found.ensures.placed in
    positions_below c.args.pool.now c.in_ok-chain.chain c.args.choice.classes.now.numbers c.args.rewritings.now c.positions.new.pool c.positions.new.chain c.in_ok-found.found.items c.as_slice-2.result.now c.as_slice-2.ensures.value placed

pub returns-in-Some-clause-shown : goal.returns-in-Some-clause-shown
returns-in-Some-clause-shown c = λ shapes. (
    let b = branch_in c.args.pool.now c.args.branch.now in
    let s = c.requires.setting in
    let placed = c.in_ok-found.ensures.placed in
    let has = begins_with c.args.pool.now c.args.branch.now c.args.choice.classes.now c.requires.setting.base c.as_slice.result.now c.in_ok-entries.entries.items c.in_ok-chain.chain c.in_ok-chain.ensures.formulas c.as_slice.ensures.value c.in_ok-entries.ensures in
    let origins = subst (AllZip (IsRowFrom c.requires.setting.class (formulas (branch_in c.args.pool.now c.args.branch.now)) c.args.rows.now.classes.keys) c.args.rows.now.rows) (sym c.as_slice-origins.ensures.value) c.requires.setting.origins in
    let stand = all_placed c.args.pool.now c.args.branch.now c.args.choice.classes.now c.args.choice.names.now (get nat_eq c.args.choice.chosen.now) c.args.rows.now c.args.multipliers.now c.args.variable c.requires.setting c.args.rewritings.now c.requires.rewritings c.in_ok-chain.chain has c.positions.new.pool c.positions.new.chain c.in_ok-found.found.items placed c.as_slice-origins.result.now c.as_slice-2.result.now c.as_slice-origins.ensures.value c.as_slice-2.ensures.value c.requires.cover in
    subst (λ o. MatchOption o (IsFull shapes b) (IsClosingDue shapes c.positions.new.pool b)) c.in-Some.is
    (c.in_ok-closing.ensures shapes c.positions.new.pool b s.class c.args.rows.now.classes.keys s.chosen c.args.rows.now.rows c.in_ok-found.ensures.chain s.are_chosen origins s.contradiction stand))

pub returns-clause-shown : goal.returns-clause-shown
returns-clause-shown c = λ shapes. (
    let b = branch_in c.args.pool.now c.args.branch.now in
    let s = c.requires.setting in
    let placed = c.in_ok-found.ensures.placed in
    let has = begins_with c.args.pool.now c.args.branch.now c.args.choice.classes.now c.requires.setting.base c.as_slice.result.now c.in_ok-entries.entries.items c.in_ok-chain.chain c.in_ok-chain.ensures.formulas c.as_slice.ensures.value c.in_ok-entries.ensures in
    let origins = subst (AllZip (IsRowFrom c.requires.setting.class (formulas (branch_in c.args.pool.now c.args.branch.now)) c.args.rows.now.classes.keys) c.args.rows.now.rows) (sym c.as_slice-origins.ensures.value) c.requires.setting.origins in
    let stand = all_placed c.args.pool.now c.args.branch.now c.args.choice.classes.now c.args.choice.names.now (get nat_eq c.args.choice.chosen.now) c.args.rows.now c.args.multipliers.now c.args.variable c.requires.setting c.args.rewritings.now c.requires.rewritings c.in_ok-chain.chain has c.positions.new.pool c.positions.new.chain c.in_ok-found.found.items placed c.as_slice-origins.result.now c.as_slice-2.result.now c.as_slice-origins.ensures.value c.as_slice-2.ensures.value c.requires.cover in
    subst (λ o. MatchOption o (IsFull shapes b) (IsClosingDue shapes c.positions.new.pool b)) c.in-None.is
    (c.in_ok-closing.ensures shapes c.positions.new.pool b s.class c.args.rows.now.classes.keys s.chosen c.args.rows.now.rows c.in_ok-found.ensures.chain s.are_chosen origins s.contradiction stand))
