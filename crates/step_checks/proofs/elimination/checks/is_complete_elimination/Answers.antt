use Rattle.std.proofs.Common.{◌≡◌, ◌<◌, List, length, sym, ap, ◌∙◌, subst, arith}
use Rattle.linear_arith.specs.Inequality.{Inequality}
use Rattle.linear_arith.specs.Elimination.{AreDifferent}
use Rattle.step_checks.specs.Given.{rows_of, width_of, IsGivenElimination}
use Rattle.step_checks.proofs.CheckLemmas.{refused, decided_false, begins_decided, sums_decided, complete}
use Rattle.step_checks.proofs.elimination.checks.is_complete_elimination.Goals as goal

pub returns-in_default : goal.returns-in_default
returns-in_default c =
    let given = c.args.given.now in
    let made : c.in_ok-made.made ≡ rows_of given.rows.items = c.in_ok-made.ensures ∙ ap rows_of c.as_slice-4.ensures.value in
    let none = rw c.in_default.is at c.in_ok-found.ensures.none in
    decided_false (IsGivenElimination c.args.rows.now given) (λ g. none (subst (λ (rs : List Inequality). AreDifferent rs) (sym made) g.different))

pub returns-then-not-branch-2 : goal.returns-then-not-branch-2
returns-then-not-branch-2 c =
    let rows = c.args.rows.now in
    let given = c.args.given.now in
    let made : c.in_ok-made.made ≡ rows_of given.rows.items = c.in_ok-made.ensures ∙ ap rows_of c.as_slice-4.ensures.value in
    let width : c.greatest_width-width.result ≡ width_of rows = c.greatest_width-width.ensures ∙ ap width_of c.as_slice.ensures in
    let set = rw c.in-Some.is at c.in_ok-found.ensures.some in
    let begins = begins_decided rows c.as_slice-5.result.now (rows_of given.rows.items) c.in_ok-made.made c.greatest_width-width.result (width_of rows) c.in_ok-has_given_rows.field-0 c.as_slice-5.ensures made width (c.in_ok-has_given_rows.ensures c.in_ok-made.made set) in
    decided_false (IsGivenElimination rows given) (λ g. refused c.in_ok-has_given_rows.field-0 _ c.if-not-branch-2.true begins g.begins)

pub returns-then-not-branch-3 : goal.returns-then-not-branch-3
returns-then-not-branch-3 c =
    let rows = c.args.rows.now in
    let given = c.args.given.now in
    let made : c.in_ok-made.made ≡ rows_of given.rows.items = c.in_ok-made.ensures ∙ ap rows_of c.as_slice-4.ensures.value in
    let sums = sums_decided (rows_of given.rows.items) c.in_ok-made.made given.unknowns.items c.as_slice-unknowns.result.now c.in_ok-has_each_sum.field-0 made c.as_slice-unknowns.ensures.value c.in_ok-has_each_sum.ensures in
    decided_false (IsGivenElimination rows given) (λ g. refused c.in_ok-has_each_sum.field-0 _ c.if-not-branch-3.true sums g.has_sums)

pub returns : goal.returns
returns c =
    let rows = c.args.rows.now in
    let given = c.args.given.now in
    let made : c.in_ok-made.made ≡ rows_of given.rows.items = c.in_ok-made.ensures ∙ ap rows_of c.as_slice-4.ensures.value in
    let width : c.greatest_width-width.result ≡ width_of rows = c.greatest_width-width.ensures ∙ ap width_of c.as_slice.ensures in
    let set = rw c.in-Some.is at c.in_ok-found.ensures.some in
    let different = rw c.in-Some.is at c.in_ok-found.ensures.different in
    let begins = begins_decided rows c.as_slice-5.result.now (rows_of given.rows.items) c.in_ok-made.made c.greatest_width-width.result (width_of rows) c.in_ok-has_given_rows.field-0 c.as_slice-5.ensures made width (c.in_ok-has_given_rows.ensures c.in_ok-made.made set) in
    let sums = sums_decided (rows_of given.rows.items) c.in_ok-made.made given.unknowns.items c.as_slice-unknowns.result.now c.in_ok-has_each_sum.field-0 made c.as_slice-unknowns.ensures.value c.in_ok-has_each_sum.ensures in
    let limit : length given.rows.items < 5000 = omega arith in
    complete rows given c.as_slice-2.result.now c.in_ok-made.made c.as_slice-unknowns.result.now c.as_slice-3.result.now c.greatest_width-width.result c.no_unknown_is_left.result c.as_slice-2.ensures c.as_slice-unknowns.ensures.value c.as_slice-3.ensures.value made width (c.in_ok-are_of_origins.ensures.0 c.if-not-branch.false) different (begins.0 c.if-not-branch-2.false) (sums.0 c.if-not-branch-3.false) limit c.no_unknown_is_left.ensures
