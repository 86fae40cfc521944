-- Lists of one number, and of two.
use Rattle.std.specs.Prelude.{◌≡◌, ℕ, List, [], ◌∷◌}

pub record IsOne (xs : List ℕ) (x : ℕ) : Type 0 where
  pub is : xs ≡ x ∷ []

pub record IsNotOne (xs : List ℕ) : Type 0 where
  pub none : (x : ℕ) → xs ≡ x ∷ [] → ⊥

pub record IsPair (xs : List ℕ) (p : ℕ × ℕ) : Type 0 where
  pub is : xs ≡ p.0 ∷ p.1 ∷ []

pub record IsNoPair (xs : List ℕ) : Type 0 where
  pub none : (x y : ℕ) → xs ≡ x ∷ y ∷ [] → ⊥
