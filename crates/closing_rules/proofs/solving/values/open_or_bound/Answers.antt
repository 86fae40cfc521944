use Rattle.std.proofs.Common.{[], sym, append-nil, subst}
use Rattle.std.specs.Prelude.{All, MatchOption}
use Rattle.tableau.specs.PoolBranches.{branch_in}
use Rattle.certificates.specs.Rows.{IsWholeIfNumber}
use Rattle.row_reasoning.specs.Bounds.{IsBound}
use Rattle.closing_rules.proofs.BoundLemmas.{bound_due, values_open}
use Rattle.closing_rules.proofs.solving.values.open_or_bound.Goals as goal

pub returns-in_ok-bound_application-in-Some-clause-shown : goal.returns-in_ok-bound_application-in-Some-clause-shown
returns-in_ok-bound_application-in-Some-clause-shown c = λ shapes saturated. (
    let ns = c.args.pool.now in
    let b = branch_in ns c.args.branch.now in
    let rows = c.requires.rows in
    let keys = c.args.rows.now.classes.keys in
    let found = subst (λ o. MatchOption o (All (IsWholeIfNumber b rows.class keys) c.as_slice.result.now) (IsBound ns b rows.class keys c.as_slice.result.now)) c.in-Some.is (c.in_ok-bound.ensures rows.class rows.named) in
    let bound = subst (λ values. IsBound ns b rows.class keys values c.in-Some.bound) c.as_slice.ensures found in
    bound_due shapes ns c.bound_application.new.pool c.bound_application.ensures.extends b c.args.names.now c.args.rows.now c.args.values rows c.requires.values c.requires.level saturated c.in-Some.bound bound c.in_ok-bound_application-in-Some.field-0 c.in_ok-bound_application-in-Some.ensures.is)

pub returns-in_ok-open_values-in-None-clause-shown : goal.returns-in_ok-open_values-in-None-clause-shown
returns-in_ok-open_values-in-None-clause-shown c = λ shapes saturated. (
    let ns = c.args.pool.now in
    let b = branch_in ns c.args.branch.now in
    let rows = c.requires.rows in
    let keys = c.args.rows.now.classes.keys in
    let found = subst (λ o. MatchOption o (All (IsWholeIfNumber b rows.class keys) c.as_slice.result.now) (IsBound ns b rows.class keys c.as_slice.result.now)) c.in-None.is (c.in_ok-bound.ensures rows.class rows.named) in
    let whole = subst (All (IsWholeIfNumber b rows.class keys)) c.as_slice.ensures found in
    values_open shapes ns ns (record { more = []; is = sym (append-nil ns) }) b c.args.names.now c.args.rows.now c.args.values rows c.requires.values c.requires.level saturated c.in_ok-open_values-in-None.field-0 c.in_ok-open_values-in-None.ensures.names c.in_ok-open_values-in-None.ensures.classes c.in_ok-open_values-in-None.ensures.values whole)
