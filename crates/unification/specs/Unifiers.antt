-- Unifiers of pairs of types, whose variables are the first so many type parameters (Baader and Snyder, "Unification
-- Theory", in the Handbook of Automated Reasoning). The other type parameters are constants.
use Rattle.std.specs.Prelude.{◌≡◌, ℕ, ◌+◌, ◌<◌, List, [], ◌∷◌, length, take}
use Rattle.base.specs.TypeData.{TypeData}
use Rattle.unification.specs.Slots.{Typing}
use Rattle.unification.specs.Instances.{instance, arguments}
use Rattle.unification.specs.declared.pairs.TypePair.{TypePair}

-- a type with the substitution applied to the first so many type parameters
abbrev pub apply : ℕ → Typing → TypeData → TypeData
apply n s of = instance (arguments s 0 n) of

-- a substitution unifies a pair; it unifies each of these pairs
abbrev pub Joins : ℕ → Typing → TypePair → Type 0
Joins n s p = apply n s p.left ≡ apply n s p.right

abbrev pub Unifies : ℕ → Typing → List TypePair → Type 0
Unifies n s [] = Unit {0}
Unifies n s (p ∷ ps) = Joins n s p × Unifies n s ps

-- A unifier of which each unifier is an instance.
pub record IsMostGeneral (n : ℕ) (m : Typing) (pairs : List TypePair) : Type 0 where
  pub unifies : Unifies n m pairs
  pub general : (s : Typing) → Unifies n s pairs → (v : ℕ) → v < n → apply n s (m v) ≡ s v

abbrev pub HasUnifier : ℕ → List TypePair → Type 0
HasUnifier n pairs = (s : Typing) × Unifies n s pairs

abbrev pub HasNoUnifier : ℕ → List TypePair → Type 0
HasNoUnifier n pairs = (s : Typing) → Unifies n s pairs → ⊥

-- the pairs before this one have a unifier, and those up to and including it have none
pub record IsFirstClash (n k : ℕ) (pairs : List TypePair) : Type 0 where
  pub within : k < length pairs
  pub before : HasUnifier n (take k pairs)
  pub none : HasNoUnifier n (take (k + 1) pairs)
