-- One level of a type, with its children as pure data.
use Rattle.base.specs.TypeData.{TypeData, BoolType, IntType, NumType, AddressType, SignerType, VectorType, StructType, ParamType, SharedType, MutableType, TupleType}
use Rattle.base.specs.declared.types.TypeNode.{TypeNode}
use Rattle.base.specs.declared.types.TypeNode.TheVariants.{Bool, Int, Num, Address, Signer, Vector, Struct, Param, Shared, Mutable, Tuple}

abbrev pub type_of_node : TypeNode → TypeData
type_of_node Bool = BoolType
type_of_node (Int w) = IntType w
type_of_node Num = NumType
type_of_node Address = AddressType
type_of_node Signer = SignerType
type_of_node (Vector t) = VectorType t.value
type_of_node (Struct s ts) = StructType s ts
type_of_node (Param n) = ParamType n
type_of_node (Shared t) = SharedType t.value
type_of_node (Mutable t) = MutableType t.value
type_of_node (Tuple ts) = TupleType ts
