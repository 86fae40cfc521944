-- The tests of the checker agree with the definitions, move by move.
use Rattle.std.proofs.Common.{◌≡◌, ◌↔◌, ℕ, ◌+◌, ◌<◌, ◌≤◌, List, [], ◌∷◌, ◌++◌, length, get_or, drop, Bool, true, false, refl, sym, ap, ◌∙◌, subst, add-one, drop-cons}
use Rattle.std.specs.Prelude.{IsTrue, All}
use Rattle.std.proofs.Math.ListN.{drop_of_length-le}
use Rattle.base.proofs.TruthValues.{true_is, not_true, fails}
use Rattle.fol.specs.declared.shapes.Shape.{Shape}
use Rattle.fol.specs.FormulaData.{FormulaData, AllOfFormula, AnyOfFormula, formulas_of}
use Rattle.certificates.specs.CertData.{MoveData}
use Rattle.certificates.specs.Closes.{OpenData, IsShort, IsFalseForm, IsFalseNegated, IsMove, left_of, IsMoveIn, after, Closes}

-- ---- a move

module _ (shapes : List Shape) (b : List FormulaData) (os bs : OpenData) (m : MoveData) where
  pub move_made : (a c : Bool) → bs ≡ b ∷ os → IsTrue a ↔ IsMove shapes b m → a ≡ true → IsTrue c ↔ All IsShort (left_of b m) → IsTrue c ↔ IsMoveIn shapes bs m
  move_made a c e test t short =
      subst (λ (xs : OpenData). IsTrue c ↔ IsMoveIn shapes xs m) (sym e) (λ h. (test.0 (true_is a t), short.0 h), λ h. short.1 h.1)

-- ---- all moves

-- the moves from one on close the open branches exactly when all moves close the branches that were open at the start
pub record ClosesFrom (shapes : List Shape) (start bs : OpenData) (ms : List MoveData) (i : ℕ) : Type 0 where
  pub rest : Closes shapes bs (drop i ms) ↔ Closes shapes start ms

at_move : (ms : List MoveData) (i : ℕ) (m : MoveData) → i < length ms → m ≡ get_or ms i m → drop i ms ≡ m ∷ drop (i + 1) ms
at_move ms i m h e =
    let here : drop i ms ≡ get_or ms i m ∷ drop (i + 1) ms = rw add-one (drop-cons ms i m h) in
    here ∙ ap (λ x. x ∷ drop (i + 1) ms) (sym e)

module _ (shapes : List Shape) (start bs : OpenData) (ms : List MoveData) (i : ℕ) where
  pub closes_application : (m : MoveData) (cs : OpenData) (b : Bool) → i < length ms → m ≡ get_or ms i m → IsTrue b ↔ IsMoveIn shapes bs m → b ≡ true → cs ≡ after bs m → ClosesFrom shapes start bs ms i → ClosesFrom shapes start cs ms (i + 1)
  closes_application m cs b h e test t next from =
      let here = at_move ms i m h e in
      record {
        rest = (
          λ later. from.rest.0 (subst (Closes shapes bs) (sym here) (test.0 (true_is b t), subst (λ (xs : OpenData). Closes shapes xs (drop (i + 1) ms)) next later)),
          λ whole. let both = subst (Closes shapes bs) here (from.rest.1 whole) in subst (λ (xs : OpenData). Closes shapes xs (drop (i + 1) ms)) (sym next) both.1,
        );
      }

  pub closes_fails : (m : MoveData) (b : Bool) → i < length ms → m ≡ get_or ms i m → IsTrue b ↔ IsMoveIn shapes bs m → b ≡ false → ClosesFrom shapes start bs ms i → IsTrue false ↔ Closes shapes start ms
  closes_fails m b h e test t from =
      fails (Closes shapes start ms) (λ whole. let both = subst (Closes shapes bs) (at_move ms i m h e) (from.rest.1 whole) in not_true b t (test.1 both.0))

  pub closes_end : (b : Bool) → length ms ≤ i → IsTrue b ↔ (bs ≡ []) → ClosesFrom shapes start bs ms i → IsTrue b ↔ Closes shapes start ms
  closes_end b h test from =
      let none = drop_of_length-le ms h in (
        λ t. from.rest.0 (subst (Closes shapes bs) (sym none) (test.0 t)),
        λ whole. test.1 (subst (Closes shapes bs) none (from.rest.1 whole)),
      )

-- ---- forms that are false

pub no_parts : (p : FormulaData) (ps : List FormulaData) (b : Bool) → AllOfFormula (formulas_of ps) ≡ p → IsTrue b ↔ (ps ≡ []) → IsTrue b ↔ IsFalseNegated p
no_parts p [] b stored test = subst (λ q. IsTrue b ↔ IsFalseNegated q) stored (λ h. tt, λ h. test.1 refl)
no_parts p (q ∷ qs) b stored test =
    subst (λ r. IsTrue b ↔ IsFalseNegated r) stored (λ h. let e = test.0 h in absurd (cc), λ h. absurd h)

pub no_cases : (p : FormulaData) (ps : List FormulaData) (b : Bool) → AnyOfFormula (formulas_of ps) ≡ p → IsTrue b ↔ (ps ≡ []) → IsTrue b ↔ IsFalseForm p
no_cases p [] b stored test = subst (λ q. IsTrue b ↔ IsFalseForm q) stored (λ h. tt, λ h. test.1 refl)
no_cases p (q ∷ qs) b stored test =
    subst (λ r. IsTrue b ↔ IsFalseForm r) stored (λ h. let e = test.0 h in absurd (cc), λ h. absurd h)
