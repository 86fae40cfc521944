-- Vector types, and vectors made of other vectors.
use Rattle.std.specs.Prelude.{◌≡◌, ◌⊎◌, ℕ, Bool, true, false, List, [], ◌∷◌, ◌++◌, map, filter, Contains}
use Rattle.std.specs.List.{flat_map}
use Rattle.base.specs.TypeData.{TypeData, VectorType}
use Rattle.fol.specs.declared.operators.Constant.TheVariants.{Empty}
use Rattle.fol.specs.declared.operators.Unary.TheVariants.{Pop}
use Rattle.fol.specs.declared.operators.Binary.TheVariants.{Push}
use Rattle.fol.specs.declared.operators.Ternary.TheVariants.{Set}
use Rattle.fol.specs.FormulaData.{TermData, ConstantTerm, UnaryTerm, BinaryTerm, TernaryTerm}
use Rattle.term_pool.specs.declared.node.Node.{Node}
use Rattle.axiom_instances.specs.declared.reading.TermForm.{TermForm}
use Rattle.axiom_instances.specs.declared.reading.TermForm.TheVariants.{Constant, Unary, Binary, Ternary}
use Rattle.axiom_instances.specs.Numbers.{term_at, type_at}
use Rattle.axiom_strategy.specs.declared.askers.Asker.{Asker}
use Rattle.axiom_strategy.specs.declared.askers.Asker.TheVariants.{Always, TypeAlone, Beside}
use Rattle.axiom_strategy.specs.declared.typings.Typing.{Typing}

abbrev pub is_vector_type : TypeData → Bool
is_vector_type (VectorType a) = true
is_vector_type _ = false

-- the empty vector, or a vector made of another one
abbrev pub is_made_vector : TermData → Bool
is_made_vector (ConstantTerm Empty) = true
is_made_vector (UnaryTerm Pop v) = true
is_made_vector (BinaryTerm Push v x) = true
is_made_vector (TernaryTerm Set v i x) = true
is_made_vector _ = false

abbrev pub is_made_form : TermForm → Bool
is_made_form (Constant Empty) = true
is_made_form (Unary Pop v) = true
is_made_form (Binary Push v x) = true
is_made_form (Ternary Set v i x) = true
is_made_form _ = false

-- ---- sets of numbers

-- the number is added, or was in the list
pub record HaveNumber (old new : List ℕ) (n : ℕ) : Type 0 where
  pub kept : (k : ℕ) → Contains old k → Contains new k
  pub has : Contains new n
  pub only : (k : ℕ) → Contains new k → Contains old k ⊎ (k ≡ n)

-- each number of the first list is in the second
pub record AreIn (seen numbers : List ℕ) : Type 0 where
  pub each : (k : ℕ) → Contains seen k → Contains numbers k

-- the number is that of the type of one of these
pub record IsTypeOf (typings : List Typing) (n : ℕ) : Type 0 where
  pub typing : Typing
  pub among : Contains typings typing
  pub is : typing.of ≡ n

-- types of these pairs, among them all vector types
pub record AreVectorTypes (ns : List Node) (typings : List Typing) (types : List ℕ) : Type 0 where
  pub each : (n : ℕ) → Contains types n → IsTypeOf typings n
  pub all : (x : Typing) → Contains typings x → is_vector_type (type_at ns x.of) ≡ true → Contains types x.of

-- ---- triggers

abbrev pub alone_asker : Typing → Asker
alone_asker x = TypeAlone x.of

abbrev pub beside_asker : ℕ → ℕ → Asker
beside_asker a t = Beside a t

-- a trigger for each of the types beside each of the terms
abbrev pub beside_askers : List ℕ → List ℕ → List Asker
beside_askers terms types = flat_map (λ a. map (beside_asker a) terms) types

-- the triggers for the types, and for each vector type beside each vector that is empty or made of another one
pub record AreTypeAskers (ns : List Node) (terms : List ℕ) (typings : List Typing) (askers : List Asker) : Type 0 where
  pub types : List ℕ
  pub are : AreVectorTypes ns typings types
  pub is : askers ≡ (Always ∷ []) ++ (map alone_asker typings ++ beside_askers (filter (λ n. is_made_vector (term_at ns n)) terms) types)
