-- Terms and formulas by number.
use Rattle.std.specs.Prelude.{◌≡◌, ◌⊎◌, ℕ, ◌<◌, List, [], ◌∷◌, length, slice_get, Some}
use Rattle.base.specs.TypeData.{TypeData}
use Rattle.fol.specs.FormulaData.{TermData, TermsData, TriggersData, FormulaData}
use Rattle.term_pool.specs.Items.{Sort, sort_of, term_in, terms_in, triggers_in, formula_in, type_in}
use Rattle.term_pool.specs.Pools.{item_at}
use Rattle.term_pool.specs.declared.node.Node.{Node}

abbrev pub term_at : List Node → ℕ → TermData
term_at ns n = term_in (item_at ns n)

abbrev pub terms_at : List Node → ℕ → TermsData
terms_at ns n = terms_in (item_at ns n)

abbrev pub triggers_at : List Node → ℕ → TriggersData
triggers_at ns n = triggers_in (item_at ns n)

abbrev pub formula_at : List Node → ℕ → FormulaData
formula_at ns n = formula_in (item_at ns n)

abbrev pub type_at : List Node → ℕ → TypeData
type_at ns n = type_in (item_at ns n)

-- the number of an item of this sort
pub record IsOfSort (ns : List Node) (s : Sort) (n : ℕ) : Type 0 where
  pub within : n < length ns
  pub sort : sort_of (item_at ns n) ≡ s

-- ---- lists

abbrev pub IsAmong : {X : Type 0} → X → List X → Type 0
IsAmong x [] = ⊥
IsAmong x (y ∷ ys) = (x ≡ y) ⊎ IsAmong x ys

abbrev pub AreAll : {X : Type 0} → (X → Type 0) → List X → Type 0
AreAll P [] = Unit {0}
AreAll P (x ∷ xs) = P x × AreAll P xs

-- no item occurs twice
pub record IsOnce {X : Type 0} (xs : List X) : Type 0 where
  pub once : (i j : ℕ) (x : X) → slice_get xs i ≡ Some x → slice_get xs j ≡ Some x → i ≡ j
