-- Vectors of one type that an entry states to differ.
use Rattle.std.specs.Prelude.{◌≡◌, ◌↔◌, ◌⊎◌, ℕ, ◌<◌, List, Contains}
use Rattle.term_pool.specs.declared.node.Node.{Node}
use Rattle.certificates.specs.BranchesBranch.{Branch}
use Rattle.base.specs.Lists.{list_in}
use Rattle.axiom_strategy.specs.Denials.{DeniesSides}
use Rattle.axiom_strategy.specs.declared.askers.Asker.{Asker}
use Rattle.axiom_strategy.specs.declared.askers.Asker.TheVariants.{Vectors}
use Rattle.axiom_strategy.specs.declared.typings.Typing.{Typing}

-- one of these pairs gives the type to the term
pub record IsTypeFor (typings : List Typing) (term of : ℕ) : Type 0 where
  pub typing : Typing
  pub among : Contains typings typing
  pub is_term : typing.term ≡ term
  pub is_of : typing.of ≡ of

-- triggers of this kind are appended
pub record AreMoreAskers (old new : List Asker) (IsOne : Asker → Type 0) : Type 0 where
  pub each : (x : Asker) → Contains new x ↔ (Contains old x ⊎ IsOne x)

-- two terms with one of these types, which the second term has too by the pairs of terms and types
pub record IsPairOf (types : List ℕ) (pairs : List (ℕ × ℕ)) (left right : ℕ) (x : Asker) : Type 0 where
  pub of : ℕ
  pub first : Contains types of
  pub second : Contains pairs (right, of)
  pub is : x ≡ Vectors of left right

-- terms that one of the first entries states to differ, with a type that both have
pub record IsDeniedPair (ns : List Node) (b : Branch) (lists : List (ℕ × List ℕ)) (pairs : List (ℕ × ℕ)) (count : ℕ) (x : Asker) : Type 0 where
  pub position : ℕ
  pub before : position < count
  pub sides : ℕ × ℕ
  pub denies : DeniesSides ns b position sides
  pub pair : IsPairOf (list_in lists sides.0) pairs sides.0 sides.1 x

pub record AreDeniedPairs (ns : List Node) (b : Branch) (lists : List (ℕ × List ℕ)) (pairs : List (ℕ × ℕ)) (count : ℕ) (askers : List Asker) : Type 0 where
  pub each : (x : Asker) → Contains askers x ↔ IsDeniedPair ns b lists pairs count x
