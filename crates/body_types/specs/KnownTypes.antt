-- The types of number literals in a body, by their numbers in a list of types.
use Rattle.std.specs.Prelude.{◌≡◌, ◌<◌, ℕ, List, length, Option, None, Some, slice_get, slice_index_or}
use Rattle.base.specs.TypeData.{TypeData}
use Rattle.program.specs.declared.arena.Node.TheVariants.{Leaf}
use Rattle.program.specs.declared.code.CodeLeaf.TheVariants.{Number}
use Rattle.program.specs.declared.code.Number.{Number as NumberData}
use Rattle.program.specs.CodeNodes.{CodeNode}
use Rattle.typing_rules.specs.declared.constant.ConstantValue.{ConstantValue}
use Rattle.typing_rules.specs.ConstantRuns.{value_at}
use Rattle.typing_rules.specs.Pools.{type_at, types}
use Rattle.typing_rules.specs.declared.type_pool.PoolType.{PoolType}

-- the type of the type variable n, where these are the numbers of the types of the type variables
abbrev pub known_type : List PoolType → List ℕ → ℕ → TypeData
known_type pool known n = type_at (types pool) (slice_index_or known n 0)

-- each number literal in the code has the type that is given for its node
pub record TypesNumbers (nodes : List CodeNode) (known t : ℕ → TypeData) : Type 0 where
  pub each : (n : ℕ) (number : NumberData) → slice_get nodes n ≡ Some (Leaf (Number number)) → t n ≡ known n

-- the values of the first nodes in each typing that gives number literals these types; a node has no more levels below
-- it than there are nodes before it
pub record TellsRuns (values : List (Option ConstantValue)) (nodes : List CodeNode) (known : ℕ → TypeData) : Type 0 where
  pub each : (t : ℕ → TypeData) → TypesNumbers nodes known t → (n levels : ℕ) → n < length values → n < levels → slice_index_or values n None ≡ value_at nodes t levels n
