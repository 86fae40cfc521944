-- Routes: edges, each entered where the one before it is left, with the index of the equation of each in an
-- explanation.
use Rattle.std.specs.Prelude.{◌≡◌, ◌⊎◌, ℕ, List, [], ◌∷◌, length, slice_get, slice_index_or, Option, Some, None}
use Rattle.fol.specs.FormulaData.{EqFormula}
use Rattle.term_pool.specs.Items.{TermSort}
use Rattle.term_pool.specs.Pools.{HasPart}
use Rattle.term_pool.specs.declared.node.Node.{Node}
use Rattle.certificates.specs.Due.{IsShallow}
use Rattle.congruence_closure.specs.Numbers.{number_at}
use Rattle.congruence_closure.specs.declared.proof_forest.Join.{Join}
use Rattle.explanations.specs.Chains.{term_at, ChainData, IsAt}

-- the index of the equation of an edge
abbrev pub equation_at : List (Option ℕ) → ℕ → Option ℕ
equation_at equations link = slice_index_or equations link None

-- the formula at this index is the equation of the terms with these numbers
pub record IsEquation (ns : List Node) (d : ChainData) (position left right : ℕ) : Type 0 where
  pub left_term : HasPart ns (length ns) left TermSort
  pub right_term : HasPart ns (length ns) right TermSort
  pub at : IsAt ns d position (EqFormula (term_at ns left) (term_at ns right))

-- it is the equation in either order
abbrev pub IsEither : List Node → ChainData → ℕ → ℕ → ℕ → Type 0
IsEither ns d position left right = IsEquation ns d position left right ⊎ IsEquation ns d position right left

-- the equation of the ends of the edge has an index, and the depth of that of the left term with its far end is within
-- the limit
pub record CanPass (ns : List Node) (d : ChainData) (numbers : List ℕ) (equations : List (Option ℕ)) (left : ℕ) (join : Join) : Type 0 where
  pub position : ℕ
  pub found : equation_at equations join.link ≡ Some position
  pub equation : IsEither ns d position (number_at numbers join.near) (number_at numbers join.far)
  pub shallow : IsShallow (EqFormula (term_at ns left) (term_at ns (number_at numbers join.far)))

-- the end of the edges
abbrev pub end_of : ℕ → List Join → ℕ
end_of i [] = i
end_of i (join ∷ rest) = end_of join.far rest

-- each edge is entered where the one before it is left
abbrev pub IsRoute : ℕ → List Join → Type 0
IsRoute i [] = Unit {0}
IsRoute i (join ∷ rest) = (i ≡ join.near) × IsRoute join.far rest

-- the route begins at a term, and each edge can be passed
pub record CanGo (ns : List Node) (d : ChainData) (numbers : List ℕ) (equations : List (Option ℕ)) (from : ℕ) (route : List Join) : Type 0 where
  pub begins : HasPart ns (length ns) (number_at numbers from) TermSort
  pub leads : IsRoute from route
  pub pass : (n : ℕ) (join : Join) → slice_get route n ≡ Some join → CanPass ns d numbers equations (number_at numbers from) join

-- the route is one edge, whose equation has this index
pub record IsSingle (equations : List (Option ℕ)) (route : List Join) (position : ℕ) : Type 0 where
  pub join : Join
  pub is : route ≡ join ∷ []
  pub found : equation_at equations join.link ≡ Some position
