-- The numbers of items with a term substituted, by the items' own numbers.
use Rattle.std.specs.Prelude.{◌≡◌, ◌⊎◌, ℕ, ◌<◌, Bool, false, ◌==◌, List, [], ◌∷◌, length, Option, Some, None}
use Rattle.term_pool.specs.Items.{Item, TermSort, term_in}
use Rattle.term_pool.specs.Pools.{item_at, HasPart, IsItem}
use Rattle.term_pool.specs.declared.node.Two.{Two}
use Rattle.term_pool.specs.declared.node.Two.TheVariants.{Quantify}
use Rattle.term_pool.specs.declared.node.Node.{Node}
use Rattle.term_pool.specs.Put.{put_in_item}
use Rattle.term_pool.specs.declared.pool_substitution.put.Put.{Put}
use Rattle.term_pool.specs.declared.pool_substitution.put.Turn.{Turn}
use Rattle.term_pool.specs.declared.pool_substitution.put.Turn.TheVariants.{Made, Lacks}

-- the item with the term substituted
abbrev pub with_put : List Node → Put → Item → Item
with_put ns p x = put_in_item p.variable (term_in (item_at ns p.term)) x

-- the second number is that of the item of the first with the term substituted
pub record IsValue (ns : List Node) (p : Put) (n m : ℕ) : Type 0 where
  pub within : n < length ns
  pub is : IsItem ns m (with_put ns p (item_at ns n))

pub record AreValues (ns : List Node) (p : Put) (values : ℕ → Option ℕ) : Type 0 where
  pub term : HasPart ns (length ns) p.term TermSort
  pub each : (n m : ℕ) → values n ≡ Some m → IsValue ns p n m

-- whether the node binds the variable
abbrev pub binds : Two → ℕ → Bool
binds (Quantify o n) x = n == x
binds _ x = false

abbrev pub IsOneOf : ℕ → List ℕ → Type 0
IsOneOf n [] = ⊥
IsOneOf n (m ∷ ms) = (n ≡ m) ⊎ IsOneOf n ms

-- the result of the substitution for the item of these parts was made, or one of the parts has no result yet
abbrev pub IsTurn : List Node → Put → (ℕ → Option ℕ) → List ℕ → Item → Turn → Type 0
IsTurn ns p values parts x (Made m) = IsItem ns m (with_put ns p x)
IsTurn ns p values parts x (Lacks part) = IsOneOf part parts × (values part ≡ None)

-- the same for the item with a number, whose parts are earlier ones
abbrev pub IsTurnAt : List Node → Put → (ℕ → Option ℕ) → ℕ → Turn → Type 0
IsTurnAt ns p values n (Made m) = IsItem ns m (with_put ns p (item_at ns n))
IsTurnAt ns p values n (Lacks part) = (part < n) × (values part ≡ None)
