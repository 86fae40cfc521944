use Rattle.std.proofs.Common.{nat_eq, length, refl, sym, subst}
use Rattle.std.specs.Prelude.{MatchOption}
use Rattle.indexmap.specs.IndexMap.{get}
use Rattle.tableau.specs.PoolBranches.{branch_in}
use Rattle.closing_rules.specs.Rewritings.{AreRewritings, AreRewritingsOf, CoverRows}
use Rattle.closing_rules.specs.Depths.{HasDeep}
use Rattle.closing_rules.specs.Ends.{ShowsEnd}
use Rattle.closing_rules.proofs.CitedLemmas.{cited_read}
use Rattle.closing_rules.proofs.RowClosingsRewritingLemmas.{cover_rows}
use Rattle.closing_rules.proofs.SettingLemmas.{setting_grown, same_branch}
use Rattle.closing_rules.proofs.EndLemmas.{one_each, all_below, full_by_deep}
use Rattle.closing_rules.proofs.row_closings.end.closed_by.Goals as goal

pub cited_entries-requires-clause-one_each : goal.cited_entries-requires-clause-one_each
cited_entries-requires-clause-one_each c = one_each c.args.pool.now c.args.branch.now c.args.choice.classes.now c.args.choice.names.now (get nat_eq c.args.choice.chosen.now) c.args.rows.now c.args.multipliers.now c.args.variable c.requires.setting c.as_slice-origins.result.now c.as_slice-origins.ensures.value

pub cited_entries-requires-clause-below : goal.cited_entries-requires-clause-below
cited_entries-requires-clause-below c = all_below c.args.pool.now c.args.branch.now c.args.choice.classes.now c.args.choice.names.now (get nat_eq c.args.choice.chosen.now) c.args.rows.now c.args.multipliers.now c.args.variable c.requires.setting c.as_slice-origins.result.now c.len.result c.as_slice-origins.ensures.value c.len.ensures

pub closed_with-requires-clause-setting : goal.closed_with-requires-clause-setting
closed_with-requires-clause-setting c = setting_grown c.args.pool.now c.rewritings.new.pool c.rewritings.ensures.extends c.args.branch.now c.args.choice.classes.now c.args.choice.names.now (get nat_eq c.args.choice.chosen.now) c.args.rows.now c.args.multipliers.now c.args.variable c.requires.setting

pub closed_with-requires-clause-rewritings : goal.closed_with-requires-clause-rewritings
closed_with-requires-clause-rewritings c =
    let made = subst (λ o. MatchOption o (HasDeep (branch_in c.args.pool.now c.args.branch.now)) (λ rs. AreRewritings c.rewritings.new.pool c.args.branch.now c.args.choice.classes.now c.args.choice.names.now (get nat_eq c.args.choice.chosen.now) c.as_slice.result.now rs.items (length c.args.branch.now.entries))) c.in-Some.is c.in_ok-found.ensures.found in
    subst (AreRewritingsOf c.rewritings.new.pool c.args.branch.now c.args.choice.classes.now c.args.choice.names.now (get nat_eq c.args.choice.chosen.now)) (sym c.as_slice-rewritings.ensures.value) made.each

pub closed_with-requires-clause-cover : goal.closed_with-requires-clause-cover
closed_with-requires-clause-cover c =
    let made = subst (λ o. MatchOption o (HasDeep (branch_in c.args.pool.now c.args.branch.now)) (λ rs. AreRewritings c.rewritings.new.pool c.args.branch.now c.args.choice.classes.now c.args.choice.names.now (get nat_eq c.args.choice.chosen.now) c.as_slice.result.now rs.items (length c.args.branch.now.entries))) c.in-Some.is c.in_ok-found.ensures.found in
    let known = subst (λ xs. AreRewritings c.rewritings.new.pool c.args.branch.now c.args.choice.classes.now c.args.choice.names.now (get nat_eq c.args.choice.chosen.now) xs c.in-Some.found.items (length c.args.branch.now.entries)) c.as_slice.ensures.value made in
    let below = all_below c.args.pool.now c.args.branch.now c.args.choice.classes.now c.args.choice.names.now (get nat_eq c.args.choice.chosen.now) c.args.rows.now c.args.multipliers.now c.args.variable c.requires.setting c.args.rows.now.origins.items (length c.args.branch.now.entries) refl refl in
    subst (CoverRows c.args.rows.now.origins.items c.args.multipliers.now) (sym c.as_slice-rewritings.ensures.value)
    (cover_rows c.rewritings.new.pool c.args.branch.now c.args.choice.classes.now c.args.choice.names.now (get nat_eq c.args.choice.chosen.now) c.in_ok-cited.cited.items c.args.rows.now.origins.items c.args.multipliers.now c.in-Some.found.items (length c.args.branch.now.entries) below (cited_read c.args.rows.now.origins.items c.as_slice-origins.result.now c.args.multipliers.now c.in_ok-cited.cited.items c.as_slice-origins.ensures.value c.in_ok-cited.ensures) known)

pub returns-in-Some-clause-shown : goal.returns-in-Some-clause-shown
returns-in-Some-clause-shown c = λ shapes. subst (λ b. ShowsEnd shapes c.closed_with.new.pool b c.in_ok-end-in-Some.end) (same_branch c.args.pool.now c.rewritings.new.pool c.rewritings.ensures.extends c.args.branch.now c.args.choice.classes.now c.requires.setting.base.over) (c.in_ok-end-in-Some.ensures.shown shapes)

pub returns-clause-shown : goal.returns-clause-shown
returns-clause-shown c = λ shapes. full_by_deep shapes (branch_in c.args.pool.now c.args.branch.now)
    (subst (λ o. MatchOption o (HasDeep (branch_in c.args.pool.now c.args.branch.now)) (λ rs. AreRewritings c.rewritings.new.pool c.args.branch.now c.args.choice.classes.now c.args.choice.names.now (get nat_eq c.args.choice.chosen.now) c.as_slice.result.now rs.items (length c.args.branch.now.entries))) c.in-None.is c.in_ok-found.ensures.found)
