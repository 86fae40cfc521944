-- Whether one of the required abilities is lacking.
use Rattle.std.proofs.Common.{◌≡◌, ℕ, Bool, true, false, ◌||◌, ◌&&◌, List, [], ◌∷◌, ◌++◌, refl, sym, ◌∙◌, ap, if◌then◌else◌}
use Rattle.std.specs.Prelude.{not}
use Rattle.std.specs.List.{list_any}
use Rattle.std.proofs.lemmas.List.Folds.{list_any-append}
use Rattle.typing_rules.specs.Required.{Ability}

or_false : (b : Bool) → (b || false) ≡ b
or_false true = refl
or_false false = refl

pub any_of_one : {A : Type 0} (test : A → Bool) (x : A) (b : Bool) → b ≡ test x → b ≡ list_any test (x ∷ [])
any_of_one test x b e = e ∙ sym (or_false (test x))

module _ (lacking : ℕ × Ability → Bool) where
  pub one_ask : (ask : ℕ × Ability) (b : Bool) → b ≡ lacking ask → b ≡ list_any lacking (ask ∷ [])
  one_ask ask b e = e ∙ sym (or_false (lacking ask))

  pub two_asks : (one two : ℕ × Ability) (a b : Bool) → a ≡ lacking one → b ≡ lacking two → (a || b) ≡ list_any lacking (one ∷ two ∷ [])
  two_asks one two a b e g = λ i. e i || one_ask two b g i

  pub unless_ask : (ask : ℕ × Ability) (t u b : Bool) → t ≡ u → b ≡ lacking ask → (not t && b) ≡ list_any lacking (if u then [] else ask ∷ [])
  unless_ask ask t u b e g = ap (λ (x : Bool). not x && b) e ∙ go u
    where
      go : (x : Bool) → (not x && b) ≡ list_any lacking (if x then [] else ask ∷ [])
      go true = refl
      go false = one_ask ask b g

  pub both_asks : (one two : List (ℕ × Ability)) (a b : Bool) → a ≡ list_any lacking one → b ≡ list_any lacking two → (a || b) ≡ list_any lacking (one ++ two)
  both_asks one two a b e g = (λ i. e i || g i) ∙ sym (list_any-append lacking one two)
