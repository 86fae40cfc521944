use Rattle.std.proofs.Common.{refl, ◌≡◌, ◌≤◌, ◌<ℤ◌, pos, ap, ◌∙◌, sym, subst, length, List, ℤ}
use Rattle.std.specs.Prelude.{All}
use Rattle.linear_arith.specs.Fits.{IsFitting}
use Rattle.linear_arith.specs.Inequality.{Inequality, padded}
use Rattle.linear_arith.specs.Closure.{IsDue}
use Rattle.linear_arith.specs.Closure.IsDue.{given as due}
use Rattle.linear_arith.specs.Combination.{IsContradiction, combination}
use Rattle.linear_arith.specs.Elimination.{IsUnit}
use Rattle.linear_arith.proofs.FitSystemLemmas.{padded_fits}
use Rattle.linear_arith.proofs.GivenLemmas.{padded_is, given_contradicts, given_derived}
use Rattle.std.proofs.lemmas.Bool.{false≢true}
use Rattle.linear_arith.specs.Stages.{IsSound}
use Rattle.linear_arith.proofs.StageLemmas.{sound_of}
use Rattle.linear_arith.proofs.elimination.given.Goals as goal

pub returns-then-is_contradiction-clause-err : goal.returns-then-is_contradiction-clause-err
returns-then-is_contradiction-clause-err c = λ begun.
    let system = c.args.system.now in
    let row = c.index-system-i.result in
    let is = c.index-system-i.is in
    let short : length row.coefficients ≤ system.width = subst (λ (r : Inequality). length r.coefficients ≤ system.width) (sym is) (system.within c.args.i row c.requires) in
    let so = c.if-is_contradiction.ensures.0 refl in
    let e : c.in_ok-row.row ≡ padded system.width row = c.in_ok-row.ensures.padded ∙ ap (padded system.width) (sym is) in
    let bound = subst (λ (r : Inequality). r.bound <ℤ pos 0) e so.0 in
    let zeros = subst (λ (r : Inequality). All (λ c. c ≡ pos 0) r.coefficients) e so.1 in
    (subst (λ (ms : List ℤ). IsContradiction system.rows.now ms) (sym c.new-shown.ensures) (given_contradicts system.width c.in_ok-multipliers.multipliers.items system.rows.now c.args.i row c.in_ok-multipliers.ensures is short (subst (λ (r : Inequality). IsFitting r) (sym is) (system.fits c.args.i row c.requires)).1 bound zeros), tt, tt, tt, tt, subst (λ (ms : List ℤ). IsDue system.rows.now ms) (sym c.new-shown.ensures) (due c.args.i c.in_ok-multipliers.ensures begun))

pub returns-clause-ok : goal.returns-clause-ok
returns-clause-ok c =
    let system = c.args.system.now in
    let row = c.index-system-i.result in
    let same = c.in_ok-row.ensures.padded ∙ ap (padded system.width) (sym c.index-system-i.is) in
    let made = same ∙ padded_is system.width c.in_ok-multipliers.multipliers.items system.rows.now c.args.i row c.in_ok-multipliers.ensures c.index-system-i.is in
    let list = c.in_ok-multipliers-2.ensures ∙ c.as_slice.ensures.value in
    let unit = subst (λ (ms : List ℤ). IsUnit (length system.rows.now) c.args.i ms) (sym list) c.in_ok-multipliers.ensures in
    let made' = subst (λ (ms : List ℤ). c.in_ok-row.row ≡ combination system.width ms system.rows.now) (sym list) made in
    given_derived system.width system.rows.now c.args.i _ unit (c.in_ok-try_clone.ensures ∙ made') made' (subst (λ (r : Inequality). IsSound r) (sym c.in_ok-try_clone.ensures) (sound_of c.in_ok-row.row (λ h. false≢true (c.if-is_contradiction.ensures.1 h)))) (subst (λ (r : Inequality). IsFitting r) (sym (c.in_ok-try_clone.ensures ∙ same)) (padded_fits system.width row (subst (λ (r : Inequality). IsFitting r) (sym c.index-system-i.is) (system.fits c.args.i row c.requires))))
