-- Free variables in items of a pool, and the walk that finds them.
use Rattle.std.specs.Prelude.{◌≡◌, ◌⊎◌, ℕ, Bool, true, false, nat_eq, ◌==◌, if◌then◌else◌, List, [], ◌∷◌, ◌++◌}
use Rattle.substitution.specs.Free.{free_in_term, free_in_terms, free_in_triggers, free_in, free_in_formulas}
use Rattle.term_pool.specs.Items.{Item, NoItem, TermItem, TermsItem, TriggersItem, FormulaItem, FormulasItem, TypeItem, TypesItem, BytesItem}
use Rattle.term_pool.specs.Pools.{item_at, IsMade}
use Rattle.term_pool.specs.declared.node.Leaf.TheVariants.{Var}
use Rattle.term_pool.specs.declared.node.Two.{Two}
use Rattle.term_pool.specs.declared.node.Two.TheVariants.{Quantify}
use Rattle.term_pool.specs.declared.node.Node.{Node}
use Rattle.term_pool.specs.declared.node.Node.TheVariants.{Leaf as LeafNode, One as OneNode, Two as TwoNode, Three as ThreeNode}

abbrev pub free_in_item : ℕ → Item → Bool
free_in_item v NoItem = false
free_in_item v (TermItem t) = free_in_term v t
free_in_item v (TermsItem ts) = free_in_terms v ts
free_in_item v (TriggersItem ts) = free_in_triggers v ts
free_in_item v (FormulaItem p) = free_in v p
free_in_item v (FormulasItem ps) = free_in_formulas v ps
free_in_item v (TypeItem a) = false
free_in_item v (TypesItem ts) = false
free_in_item v (BytesItem bs) = false

-- whether the node is the variable
abbrev pub is_variable : ℕ → Node → Bool
is_variable v (LeafNode (Var n)) = v == n
is_variable v _ = false

-- whether a node with this head symbol binds the variable
abbrev pub binds : ℕ → Two → Bool
binds v (Quantify o n) = v == n
binds v _ = false

-- the parts of a node, none if it binds the variable
abbrev pub open_parts : ℕ → Node → List ℕ
open_parts v (LeafNode h) = []
open_parts v (OneNode h a) = a ∷ []
open_parts v (TwoNode h a b) = if binds v h then [] else (a ∷ b ∷ [])
open_parts v (ThreeNode h a b c) = a ∷ b ∷ c ∷ []

abbrev pub IsOneOf : ℕ → List ℕ → Type 0
IsOneOf n [] = ⊥
IsOneOf n (m ∷ ms) = (n ≡ m) ⊎ IsOneOf n ms

-- ---- the walk: the seen numbers, and the waiting ones

-- this number was seen, and otherwise the same numbers as before
pub record IsAdded (seen also : ℕ → Bool) (n : ℕ) : Type 0 where
  pub is : also n ≡ true
  pub others : (k : ℕ) → nat_eq n k ≡ false → also k ≡ seen k

-- a step of the walk: the number was seen before, or it is the variable, or its parts are added to the waiting numbers
pub data IsVisit (ns : List Node) (v n : ℕ) (seen also : ℕ → Bool) (ws us : List ℕ) : Bool → Type 0 where
  Passed : seen n ≡ true → ((k : ℕ) → also k ≡ seen k) → us ≡ ws → IsVisit ns v n seen also ws us false
  Found : free_in_item v (item_at ns n) ≡ true → IsVisit ns v n seen also ws us true
  Opened : (node : Node) → IsMade ns n node → is_variable v node ≡ false → seen n ≡ false → IsAdded seen also n → us ≡ ws ++ open_parts v node → IsVisit ns v n seen also ws us false
