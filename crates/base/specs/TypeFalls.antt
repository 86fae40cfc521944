-- Each part of a type is smaller than the type.
use Rattle.std.specs.Prelude.{◌+◌, ◌≤◌, max, List, [], ◌∷◌}
use Rattle.std.proofs.Common.{arith}
use denote.Param.Weighed.{most}
use Rattle.base.specs.TypeData.{TypeData, type_size, types_size, types_of}
use Rattle.base.specs.TypeView.{type_of_node}
use Rattle.base.specs.declared.types.TypeNode.{TypeNode}
use Rattle.base.specs.declared.types.TypeNode.TheVariants.{Bool, Int, Num, Address, Signer, Vector, Struct, Param, Shared, Mutable, Tuple}
use Rattle.base.specs.declared.types.TypeList.TheDeep.{deep-TypeNode}

-- no type is larger than all of them together
pub list_falls : (ts : List TypeData) → max (most (λ t. type_size t + 1) ts) 0 ≤ types_size (types_of ts)
list_falls [] = omega arith
list_falls (t ∷ ts) = omega (arith, list_falls ts)

-- no part of a node is larger than the node
pub node_falls : (n : TypeNode) → max (deep-TypeNode n) 0 ≤ type_size (type_of_node n)
node_falls Bool = omega arith
node_falls (Int w) = omega arith
node_falls Num = omega arith
node_falls Address = omega arith
node_falls Signer = omega arith
node_falls (Vector t) = omega arith
node_falls (Struct s ts) = omega arith
node_falls (Param n) = omega arith
node_falls (Shared t) = omega arith
node_falls (Mutable t) = omega arith
node_falls (Tuple ts) = omega arith
