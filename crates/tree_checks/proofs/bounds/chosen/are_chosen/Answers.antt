use Rattle.std.proofs.Common.{◌≡◌, ap, ◌∙◌, subst, sym, arith}
use Rattle.std.specs.Prelude.{All, MatchOption}
use Rattle.tree_checks.specs.Chosen.{width_of_first, IsWithin, ArePadded}
use Rattle.tree_checks.proofs.BoundsTruthLemmas.{never}
use Rattle.tree_checks.proofs.ChosenLemmas.{too_wide, none_padded, chosen_exactly}
use Rattle.tree_checks.proofs.bounds.chosen.are_chosen.Goals as goal

pub returns-then-width-most : goal.returns-then-width-most
returns-then-width-most c =
    let same : c.width_of_first-width.result ≡ width_of_first c.args.given.now.rows.items = c.width_of_first-width.ensures ∙ ap width_of_first c.as_slice.ensures.value in
    let wide = c.if-width-most.true in
    never (too_wide c.args.most c.args.given.now c.args.values.now c.args.rows.now (omega (arith, same, wide)))

pub returns-in_default : goal.returns-in_default
returns-in_default c =
    let same : c.width_of_first-width.result ≡ width_of_first c.args.given.now.rows.items = c.width_of_first-width.ensures ∙ ap width_of_first c.as_slice.ensures.value in
    let past = subst (λ m. MatchOption m (All (IsWithin c.width_of_first-width.result) c.as_slice-2.result.now → ⊥) (ArePadded c.width_of_first-width.result c.as_slice-2.result.now)) c.in_default.is c.in_ok-padded.ensures in
    never (none_padded c.args.most c.args.given.now c.args.values.now c.args.rows.now (λ within. past (subst (λ w. All (IsWithin w) c.as_slice-2.result.now) (sym same) (subst (λ rs. All (IsWithin (width_of_first c.args.given.now.rows.items)) rs) (sym c.as_slice-2.ensures) within))))

pub returns : goal.returns
returns c =
    let same : c.width_of_first-width.result ≡ width_of_first c.args.given.now.rows.items = c.width_of_first-width.ensures ∙ ap width_of_first c.as_slice.ensures.value in
    let found = subst (λ m. MatchOption m (All (IsWithin c.width_of_first-width.result) c.as_slice-2.result.now → ⊥) (ArePadded c.width_of_first-width.result c.as_slice-2.result.now)) c.in-Some.is c.in_ok-padded.ensures in
    let are = subst (λ rs. ArePadded (width_of_first c.args.given.now.rows.items) rs c.in-Some.padded) c.as_slice-2.ensures (subst (λ w. ArePadded w c.as_slice-2.result.now c.in-Some.padded) same found) in
    let few = c.if-width-most.false in
    chosen_exactly c.args.most c.args.given.now c.args.values.now c.args.rows.now c.in-Some.padded (omega (arith, same, few)) are c.in_ok-known.known c.in_ok-known.ensures
