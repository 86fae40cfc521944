-- Tables of properties of the trees of nodes, by the numbers of nodes.
use Rattle.std.specs.Prelude.{◌≡◌, ◌<◌, ℕ, Bool, false, List, length, slice_index_or}
use Rattle.program.specs.Trees.{at}
use Rattle.program.specs.Listed.{subtrees}
use Rattle.std.specs.List.{list_any}
use Rattle.program.specs.CodeNodes.{CodeNode}
use Rattle.typing_rules.specs.Jumps.{CodeTree, has_break, loop_body, stands_in_body}

-- whether a `break` in each of these trees, the first ones, belongs to a loop outside it
pub record TellsBreaks (known : List Bool) (ts : List CodeTree) : Type 0 where
  pub each : (i : ℕ) → i < length known → slice_index_or known i false ≡ has_break (at ts i)

-- the number of nodes of each of them
pub record TellsSizes (known : List ℕ) (ts : List CodeTree) : Type 0 where
  pub each : (i : ℕ) → i < length known → slice_index_or known i 0 ≡ length (subtrees (at ts i))

-- whether each node is in the body of one of these loops
pub record TellsLoops (known : List Bool) (nodes loops : List CodeNode) : Type 0 where
  pub each : (i : ℕ) → i < length known → slice_index_or known i false ≡ list_any (λ node. stands_in_body nodes i (loop_body node)) loops
