-- Types with no types substituted for their type parameters.
use Rattle.std.proofs.Common.{◌≡◌, refl, ap}
use Rattle.base.specs.TypeData.{TypeData, TypesData, BoolType, IntType, NumType, AddressType, SignerType, VectorType, StructType, ParamType, SharedType, MutableType, TupleType, NoTypes, MoreTypes}
use Rattle.typing_rules.specs.Instances.{instance, instances, argument_in, spec_type}
use Rattle.typing_rules.specs.SpecConstraints.{read_there}

mutual
  pub unchanged : (t : TypeData) → instance (argument_in NoTypes) t ≡ t
  unchanged BoolType = refl
  unchanged (IntType w) = refl
  unchanged NumType = refl
  unchanged AddressType = refl
  unchanged SignerType = refl
  unchanged (VectorType t) = ap VectorType (unchanged t)
  unchanged (StructType s ts) = ap (StructType s) (all_unchanged ts)
  unchanged (ParamType n) = refl
  unchanged (SharedType t) = ap SharedType (unchanged t)
  unchanged (MutableType t) = ap MutableType (unchanged t)
  unchanged (TupleType ts) = ap TupleType (all_unchanged ts)

  pub all_unchanged : (ts : TypesData) → instances (argument_in NoTypes) ts ≡ ts
  all_unchanged NoTypes = refl
  all_unchanged (MoreTypes t ts) = λ i. MoreTypes (unchanged t i) (all_unchanged ts i)

pub read_plain : (t : TypeData) → read_there NoTypes t ≡ spec_type t
read_plain t = unchanged (spec_type t)
