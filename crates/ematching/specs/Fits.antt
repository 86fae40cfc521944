-- Matching of patterns with terms, by number. The target of each pattern is recorded, so that a shared part is
-- decomposed once.
use Rattle.std.specs.Prelude.{◌≡◌, ◌⊎◌, ℕ, ◌<◌, Bool, true, false, List, [], ◌∷◌, ◌++◌, length, Option, Some, None, All, Contains}
use Rattle.fol.specs.FormulaData.{TermData, list_of_terms}
use Rattle.substitution.specs.Free.{free_in}
use Rattle.term_pool.specs.Items.{Item, TermItem, TermsItem, Sort, TermSort, TermsSort, sort_of}
use Rattle.term_pool.specs.Pools.{item_at, IsMade}
use Rattle.term_pool.specs.declared.node.Leaf.TheVariants.{Var}
use Rattle.term_pool.specs.declared.node.Two.TheVariants.{Pack, Field, Is}
use Rattle.term_pool.specs.declared.node.Three.TheVariants.{SetField, If}
use Rattle.term_pool.specs.declared.node.Node.{Node}
use Rattle.term_pool.specs.declared.node.Node.TheVariants.{Leaf as LeafNode, One as OneNode, Two as TwoNode, Three as ThreeNode}
use Rattle.certificates.specs.Match.{IsFilled, AreFilled}
use Rattle.tableau.specs.Logs.{value_in, change_of}
use Rattle.tableau.specs.Marks.{IsLonger}
use Rattle.tableau.specs.declared.log.Change.{Change}
use Rattle.ematching.specs.Numbers.{IsAmong, formula_at}

-- a substitution makes the first item the second: terms, or lists of terms
abbrev pub IsFilledItem : List ℕ → (ℕ → TermData) → Item → Item → Type 0
IsFilledItem bound at (TermItem t) (TermItem u) = IsFilled bound at t u
IsFilledItem bound at (TermsItem ts) (TermsItem us) = AreFilled bound at (list_of_terms ts) (list_of_terms us)
IsFilledItem bound at _ _ = ⊥

-- ---- decomposed nodes

-- the first node with the parts of the second; its types, and the condition of an `If`, are unchanged
abbrev pub refilled : Node → Node → Node
refilled (OneNode h a) (OneNode k b) = OneNode h b
refilled (TwoNode Pack a b) (TwoNode k c d) = TwoNode Pack a d
refilled (TwoNode (Field n) a b) (TwoNode k c d) = TwoNode (Field n) a d
refilled (TwoNode Is a b) (TwoNode k c d) = TwoNode Is a d
refilled (TwoNode h a b) (TwoNode k c d) = TwoNode h c d
refilled (ThreeNode (SetField n) a b c) (ThreeNode k d e f) = ThreeNode (SetField n) a e f
refilled (ThreeNode If a b c) (ThreeNode k d e f) = ThreeNode If a e f
refilled (ThreeNode h a b c) (ThreeNode k d e f) = ThreeNode h d e f
refilled l r = l

-- the pairs of parts that must match
abbrev pub asked : Node → Node → List (ℕ × ℕ)
asked (OneNode h a) (OneNode k b) = (a, b) ∷ []
asked (TwoNode Pack a b) (TwoNode k c d) = (b, d) ∷ []
asked (TwoNode (Field n) a b) (TwoNode k c d) = (b, d) ∷ []
asked (TwoNode Is a b) (TwoNode k c d) = (b, d) ∷ []
asked (TwoNode h a b) (TwoNode k c d) = (a, c) ∷ (b, d) ∷ []
asked (ThreeNode (SetField n) a b c) (ThreeNode k d e f) = (b, e) ∷ (c, f) ∷ []
asked (ThreeNode If a b c) (ThreeNode k d e f) = (b, e) ∷ (c, f) ∷ []
asked (ThreeNode h a b c) (ThreeNode k d e f) = (a, d) ∷ (b, e) ∷ (c, f) ∷ []
asked l r = []

-- the condition of an `If`
abbrev pub condition_of : Node → Option ℕ
condition_of (ThreeNode If a b c) = Some a
condition_of _ = None

-- none of the variables is free in the condition of an `If`
abbrev pub IsClearNode : List Node → List ℕ → Node → Type 0
IsClearNode ns bound (ThreeNode If a b c) = All (λ n. free_in n (formula_at ns a) ≡ false) bound
IsClearNode ns bound n = Unit {0}

-- a bound variable
abbrev pub IsBoundNode : List ℕ → Node → Type 0
IsBoundNode bound (LeafNode (Var x)) = Contains bound x
IsBoundNode bound n = ⊥

-- the nodes are equal except for the parts that must match
pub record IsTaken (ns : List Node) (bound : List ℕ) (l r : Node) : Type 0 where
  pub other : IsBoundNode bound l → ⊥
  pub same : refilled l r ≡ r
  pub clear : IsClearNode ns bound l

-- the decomposition of two nodes into these pairs: a bound variable matches any node
pub data AreTaken (ns : List Node) (bound : List ℕ) (l r : Node) : List (ℕ × ℕ) → Type 0 where
  Whole : IsBoundNode bound l → AreTaken ns bound l r []
  ByParts : IsTaken ns bound l r → AreTaken ns bound l r (asked l r)

-- ---- recorded matches

abbrev pub IsPatternSort : Sort → Type 0
IsPatternSort TermSort = Unit {0}
IsPatternSort TermsSort = Unit {0}
IsPatternSort s = ⊥

-- a pattern and its target: terms, or lists of terms
pub record IsPair (ns : List Node) (p t : ℕ) : Type 0 where
  pub pattern_within : p < length ns
  pub target_within : t < length ns
  pub sort : IsPatternSort (sort_of (item_at ns p))
  pub same_sort : sort_of (item_at ns t) ≡ sort_of (item_at ns p)

-- each pair that must match is recorded, or waits
pub record AreKept (cs : List Change) (ws ps : List (ℕ × ℕ)) : Type 0 where
  pub each : (a b : ℕ) → IsAmong (a, b) ps → (value_in cs a ≡ Some b) ⊎ IsAmong (a, b) ws

-- the parts of a recorded pattern are recorded, or wait
pub record IsKeptPair (ns : List Node) (bound : List ℕ) (cs : List Change) (ws : List (ℕ × ℕ)) (p t : ℕ) : Type 0 where
  pub pair : IsPair ns p t
  pub left : Node
  pub right : Node
  pub is_left : IsMade ns p left
  pub is_right : IsMade ns t right
  pub parts : List (ℕ × ℕ)
  pub taken : AreTaken ns bound left right parts
  pub kept : AreKept cs ws parts

pub record IsFilling (ns : List Node) (bound : List ℕ) (cs : List Change) (ws : List (ℕ × ℕ)) : Type 0 where
  pub each : (p t : ℕ) → value_in cs p ≡ Some t → IsKeptPair ns bound cs ws p t

-- the recorded targets are numbers of the pool
pub record AreTargets (ns : List Node) (cs : List Change) : Type 0 where
  pub each : (p t : ℕ) → value_in cs p ≡ Some t → t < length ns

-- the substitution makes each recorded pattern its target
pub record Meets (ns : List Node) (bound : List ℕ) (at : ℕ → TermData) (cs : List Change) : Type 0 where
  pub each : (p t : ℕ) → value_in cs p ≡ Some t → IsFilledItem bound at (item_at ns p) (item_at ns t)

-- the recorded matches remain
pub record IsGrown (cs ds : List Change) : Type 0 where
  pub longer : IsLonger cs ds
  pub same : (p t : ℕ) → value_in cs p ≡ Some t → value_in ds p ≡ Some t

-- ---- answers

-- the pattern matches the target by exactly the substitutions that are consistent with the recorded matches
pub record IsFitted (ns : List Node) (bound : List ℕ) (p t : ℕ) (cs ds : List Change) : Type 0 where
  pub filling : IsFilling ns bound ds []
  pub has : value_in ds p ≡ Some t
  pub meets : (at : ℕ → TermData) → Meets ns bound at cs → IsFilledItem bound at (item_at ns p) (item_at ns t) → Meets ns bound at ds

-- no substitution makes the pattern the target
pub record IsUnfit (ns : List Node) (bound : List ℕ) (p t : ℕ) (cs : List Change) : Type 0 where
  pub none : (at : ℕ → TermData) → Meets ns bound at cs → IsFilledItem bound at (item_at ns p) (item_at ns t) → ⊥

abbrev pub IsFitOrNot : Bool → List Node → List ℕ → ℕ → ℕ → List Change → List Change → Type 0
IsFitOrNot true ns bound p t cs ds = IsFitted ns bound p t cs ds
IsFitOrNot false ns bound p t cs ds = IsUnfit ns bound p t cs

pub record IsFitAnswer (ns : List Node) (bound : List ℕ) (p t : ℕ) (cs ds : List Change) (fits : Bool) : Type 0 where
  pub grown : IsGrown cs ds
  pub answer : IsFitOrNot fits ns bound p t cs ds

-- ---- a step of the walk

-- the pairs of the decomposition of two nodes are added to the waiting ones
pub record IsApart (ns : List Node) (bound : List ℕ) (p t : ℕ) (ws us : List (ℕ × ℕ)) : Type 0 where
  pub left : Node
  pub right : Node
  pub is_left : IsMade ns p left
  pub is_right : IsMade ns t right
  pub parts : List (ℕ × ℕ)
  pub taken : AreTaken ns bound left right parts
  pub waiting : us ≡ ws ++ parts

-- no substitution makes the one the other
pub record IsNeverFilled (ns : List Node) (bound : List ℕ) (p t : ℕ) : Type 0 where
  pub none : (at : ℕ → TermData) → IsFilledItem bound at (item_at ns p) (item_at ns t) → ⊥

abbrev pub IsApartOrNot : Bool → List Node → List ℕ → ℕ → ℕ → List (ℕ × ℕ) → List (ℕ × ℕ) → Type 0
IsApartOrNot true ns bound p t ws us = IsApart ns bound p t ws us
IsApartOrNot false ns bound p t ws us = IsNeverFilled ns bound p t

-- ---- one step: a pair that was recorded before, one that is recorded now, or one that does not match

pub record IsKeptBefore (p t : ℕ) (cs : List Change) (ws : List (ℕ × ℕ)) (ds : List Change) (us : List (ℕ × ℕ)) : Type 0 where
  pub has : value_in cs p ≡ Some t
  pub same : ds ≡ cs
  pub waiting : us ≡ ws

pub record IsKeptNow (ns : List Node) (bound : List ℕ) (p t : ℕ) (cs : List Change) (ws : List (ℕ × ℕ)) (ds : List Change) (us : List (ℕ × ℕ)) : Type 0 where
  pub new : value_in cs p ≡ None
  pub apart : IsApart ns bound p t ws us
  pub is : ds ≡ cs ++ change_of cs p t ∷ []

-- another target is recorded for the pattern, or no substitution makes it this one
pub record IsRefused (ns : List Node) (bound : List ℕ) (p t : ℕ) (cs ds : List Change) : Type 0 where
  pub same : ds ≡ cs
  pub none : (at : ℕ → TermData) → Meets ns bound at cs → IsFilledItem bound at (item_at ns p) (item_at ns t) → ⊥

abbrev pub IsTurn : Bool → List Node → List ℕ → ℕ → ℕ → List Change → List (ℕ × ℕ) → List Change → List (ℕ × ℕ) → Type 0
IsTurn true ns bound p t cs ws ds us = IsKeptBefore p t cs ws ds us ⊎ IsKeptNow ns bound p t cs ws ds us
IsTurn false ns bound p t cs ws ds us = IsRefused ns bound p t cs ds
