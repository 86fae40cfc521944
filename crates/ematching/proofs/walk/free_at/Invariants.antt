use Rattle.std.proofs.Common.{◌≡◌, ℕ, Some, take}
use Rattle.std.specs.Prelude.{slice_get}
use Rattle.term_pool.specs.declared.node.Leaf.TheVariants.{Var}
use Rattle.term_pool.specs.declared.node.Node.TheVariants.{Leaf as LeafNode}
use Rattle.ematching.specs.Numbers.{IsAmong}
use Rattle.ematching.proofs.walk.free_at.Given as goal

abbrev pub invariant-loop-number : goal.invariant-loop-number
invariant-loop-number l =
    (n : ℕ) → IsAmong n (take l.number-index l.number-items) → slice_get l.pool n ≡ Some (LeafNode (Var l.variable)) → ⊥
