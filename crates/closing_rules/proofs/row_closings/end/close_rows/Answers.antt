use Rattle.std.proofs.Common.{nat_eq, subst}
use Rattle.indexmap.specs.IndexMap.{get}
use Rattle.tableau.specs.PoolBranches.{branch_in}
use Rattle.row_reasoning.specs.Shallowest.{AreShallowest}
use Rattle.closing_rules.proofs.SettingLemmas.{setting, all_numbers, all_named}
use Rattle.closing_rules.proofs.EndLemmas.{full_by_deep}
use Rattle.closing_rules.proofs.row_closings.end.close_rows.Goals as goal

pub returns-then-not-are_low-clause-shown : goal.returns-then-not-are_low-clause-shown
returns-then-not-are_low-clause-shown c = λ shapes. full_by_deep shapes (branch_in c.args.pool.now c.args.branch.now) c.if-not-are_low.ensures

pub chosen_terms-requires-clause-numbers : goal.chosen_terms-requires-clause-numbers
chosen_terms-requires-clause-numbers c = all_numbers c.args.pool.now (branch_in c.args.pool.now c.args.branch.now) c.in_ok-terms.terms.items c.as_slice.result.now c.as_slice.ensures.value c.in_ok-terms.ensures

pub chosen_terms-requires-clause-named : goal.chosen_terms-requires-clause-named
chosen_terms-requires-clause-named c = all_named c.args.pool.now (branch_in c.args.pool.now c.args.branch.now) c.args.names.now c.in_ok-terms.terms.items c.as_slice.result.now c.as_slice.ensures.value c.requires.rows.long c.in_ok-terms.ensures

pub closed_by-requires-clause-setting : goal.closed_by-requires-clause-setting
closed_by-requires-clause-setting c =
    let shallowest = subst (λ ts. AreShallowest c.args.pool.now c.args.names.now ts (get nat_eq c.in_ok-chosen.chosen)) c.as_slice.ensures.value c.in_ok-chosen.ensures in
    setting c.args.pool.now c.one_number.ensures c.args.branch.now c.requires.over c.args.classes.now c.requires.classes c.exact.ensures c.shown.ensures c.requires.inside c.args.names.now c.args.rows.now c.requires.rows c.in_ok-terms.terms.items c.in_ok-terms.ensures (get nat_eq c.in_ok-chosen.chosen) shallowest c.args.variable c.requires.variable c.args.multipliers.now c.if-not-are_low.ensures c.requires.contradiction
