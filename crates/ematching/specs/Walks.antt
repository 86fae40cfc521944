-- Walks along the parts of items: to the free occurrences of a variable, and to the quantifiers of a formula.
use Rattle.std.specs.Prelude.{◌≡◌, ◌⊎◌, ◌↔◌, ℕ, Bool, false, true, List, [], ◌∷◌, ◌++◌, ◌==◌, if◌then◌else◌, Option, Some, None, slice_get, Contains}
use Rattle.substitution.specs.Free.{free_in_term, free_in_terms, free_in_triggers, free_in, free_in_formulas}
use Rattle.term_pool.specs.Items.{Item, TermItem, TermsItem, TriggersItem, FormulaItem, FormulasItem}
use Rattle.term_pool.specs.Pools.{item_at, IsMade}
use Rattle.term_pool.specs.declared.node.Leaf.TheVariants.{Var}
use Rattle.term_pool.specs.declared.node.One.TheVariants.{Not, Join}
use Rattle.term_pool.specs.declared.node.Two.TheVariants.{Pack, Field, Is, Connect, Quantify, ConsFormula}
use Rattle.term_pool.specs.declared.node.Three.TheVariants.{SetField}
use Rattle.term_pool.specs.declared.node.Node.{Node}
use Rattle.term_pool.specs.declared.node.Node.TheVariants.{Leaf as LeafNode, One as OneNode, Two as TwoNode, Three as ThreeNode}
use Rattle.tableau.specs.Logs.{value_in, change_of}
use Rattle.tableau.specs.declared.log.Change.{Change}
use Rattle.certificates.specs.Match.{bound_in}
use Rattle.ematching.specs.Numbers.{IsAmong, formula_at}
use Rattle.ematching.specs.declared.walk.Way.{Way}
use Rattle.ematching.specs.declared.walk.Way.TheVariants.{Free, Bound}

abbrev pub free_in_item : ℕ → Item → Bool
free_in_item x (TermItem t) = free_in_term x t
free_in_item x (TermsItem ts) = free_in_terms x ts
free_in_item x (TriggersItem ts) = free_in_triggers x ts
free_in_item x (FormulaItem p) = free_in x p
free_in_item x (FormulasItem ps) = free_in_formulas x ps
free_in_item x _ = false

-- ---- the parts of a node that a walk visits, without types

-- the parts in which a free variable is free in the whole
abbrev pub free_parts : ℕ → Node → List ℕ
free_parts x (LeafNode h) = []
free_parts x (OneNode h a) = a ∷ []
free_parts x (TwoNode Pack a b) = b ∷ []
free_parts x (TwoNode (Field k) a b) = b ∷ []
free_parts x (TwoNode Is a b) = b ∷ []
free_parts x (TwoNode (Quantify o n) a b) = if x == n then [] else a ∷ b ∷ []
free_parts x (TwoNode h a b) = a ∷ b ∷ []
free_parts x (ThreeNode (SetField k) a b c) = b ∷ c ∷ []
free_parts x (ThreeNode h a b c) = a ∷ b ∷ c ∷ []

-- the parts that are formulas, or lists of formulas
abbrev pub binding_parts : Node → List ℕ
binding_parts (OneNode Not a) = a ∷ []
binding_parts (OneNode (Join o) a) = a ∷ []
binding_parts (TwoNode (Connect o) a b) = a ∷ b ∷ []
binding_parts (TwoNode (Quantify o n) a b) = b ∷ []
binding_parts (TwoNode ConsFormula a b) = a ∷ b ∷ []
binding_parts _ = []

abbrev pub parts_on : Way → Node → List ℕ
parts_on (Free x) n = free_parts x n
parts_on Bound n = binding_parts n

-- ---- reached numbers

pub data IsReached (ns : List Node) (way : Way) (top : ℕ) : ℕ → Type 0 where
  Itself : IsReached ns way top top
  Below : (n : ℕ) (node : Node) (part : ℕ) → IsReached ns way top n → IsMade ns n node → IsAmong part (parts_on way node) → IsReached ns way top part

-- the number of a node
pub record IsNode (ns : List Node) (n : ℕ) : Type 0 where
  pub node : Node
  pub made : IsMade ns n node

-- the reached numbers: the top, and with a number those of its parts
pub record AreReached (ns : List Node) (way : Way) (top : ℕ) (numbers : List ℕ) : Type 0 where
  pub has_top : IsAmong top numbers
  pub nodes : (n : ℕ) → IsAmong n numbers → IsNode ns n
  pub parts : (n : ℕ) (node : Node) (part : ℕ) → IsAmong n numbers → slice_get ns n ≡ Some node → IsAmong part (parts_on way node) → IsAmong part numbers
  pub only : (n : ℕ) → IsAmong n numbers → IsReached ns way top n

-- ---- a step of a walk

pub record IsPassed (n : ℕ) (cs : List Change) (ks ws : List ℕ) (ds : List Change) (ls us : List ℕ) : Type 0 where
  pub value : ℕ
  pub seen : value_in cs n ≡ Some value
  pub same : ds ≡ cs
  pub numbers : ls ≡ ks
  pub waiting : us ≡ ws

pub record IsVisited (ns : List Node) (way : Way) (n : ℕ) (cs : List Change) (ks ws : List ℕ) (ds : List Change) (ls us : List ℕ) : Type 0 where
  pub unseen : value_in cs n ≡ None
  pub node : Node
  pub made : IsMade ns n node
  pub is : ds ≡ cs ++ change_of cs n 0 ∷ []
  pub numbers : ls ≡ ks ++ n ∷ []
  pub waiting : us ≡ ws ++ parts_on way node

-- the number was seen before, or is seen now and its parts wait
abbrev pub IsTurn : List Node → Way → ℕ → List Change → List ℕ → List ℕ → List Change → List ℕ → List ℕ → Type 0
IsTurn ns way n cs ks ws ds ls us = IsPassed n cs ks ws ds ls us ⊎ IsVisited ns way n cs ks ws ds ls us

-- ---- answers

-- the variable has this number and is free in the item
pub record IsFreeAt (ns : List Node) (x top k : ℕ) : Type 0 where
  pub free : free_in_item x (item_at ns top) ≡ true
  pub is : IsMade ns k (LeafNode (Var x))

-- the variables that are bound: the first one and those of the body
pub record AreBound (ns : List Node) (x body : ℕ) (xs : List ℕ) : Type 0 where
  pub all : (n : ℕ) → Contains xs n ↔ Contains (x ∷ bound_in (formula_at ns body)) n

-- the variable that the node binds
abbrev pub bound_of : Node → Option ℕ
bound_of (TwoNode (Quantify o n) a b) = Some n
bound_of _ = None

pub record Binds (ns : List Node) (n x : ℕ) : Type 0 where
  pub node : Node
  pub found : slice_get ns n ≡ Some node
  pub is : bound_of node ≡ Some x

pub record BindsNone (ns : List Node) (n : ℕ) : Type 0 where
  pub none : (x : ℕ) → Binds ns n x → ⊥
