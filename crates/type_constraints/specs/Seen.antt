-- Constraints in the program as constraints of the typing rules.
use Rattle.std.specs.Prelude.{List, map}
use Rattle.base.specs.TypeData.{TypeData, types_of, BoolType, IntType, NumType, AddressType, SignerType, VectorType, ParamType, SharedType, MutableType, TupleType, NoTypes}
use Rattle.typing_rules.specs.Constraint as D
use Rattle.typing_rules.specs.Instances.{spec_type}
use Rattle.typing_rules.specs.SpecConstraints.{read_there}
use Rattle.type_constraints.specs.declared.constraint.PlainType.{PlainType}
use Rattle.type_constraints.specs.declared.constraint.PlainType.TheVariants.{Bool, Int, Num, Address, Nothing}
use Rattle.type_constraints.specs.declared.constraint.BuiltinType.{BuiltinType}
use Rattle.type_constraints.specs.declared.constraint.BuiltinType.TheVariants.{Plain as plain_builtin, Signer, SharedSigner, Item, SharedItem, MutableItem, Vector, SharedVector, MutableVector}
use Rattle.type_constraints.specs.declared.constraint.ReadType.{ReadType}
use Rattle.type_constraints.specs.declared.constraint.ReadType.TheVariants.{Known, Read, ReadIn}
use Rattle.type_constraints.specs.declared.constraint.TypeForm.{TypeForm}
use Rattle.type_constraints.specs.declared.constraint.TypeForm.TheVariants.{Plain, Written, Read as read_form, Declared, DeclaredRead, Builtin, Applied}
use Rattle.type_constraints.specs.declared.constraint.Constraint.{Constraint}
use Rattle.type_constraints.specs.declared.constraint.Constraint.TheVariants.{Same, Has, MadeOf, TupleOf, IsOf, Alike, Takes, Returns, FieldOf, TargetOf, Through, Behind, Barred}

abbrev pub plain_type : PlainType → TypeData
plain_type Bool = BoolType
plain_type (Int w) = IntType w
plain_type Num = NumType
plain_type Address = AddressType
plain_type Nothing = TupleType NoTypes

abbrev pub builtin_type : BuiltinType → TypeData
builtin_type (plain_builtin p) = plain_type p
builtin_type Signer = SignerType
builtin_type SharedSigner = SharedType SignerType
builtin_type Item = ParamType 0
builtin_type SharedItem = SharedType (ParamType 0)
builtin_type MutableItem = MutableType (ParamType 0)
builtin_type Vector = VectorType (ParamType 0)
builtin_type SharedVector = SharedType (VectorType (ParamType 0))
builtin_type MutableVector = MutableType (VectorType (ParamType 0))

-- a type as a specification reads it
abbrev pub read_data : ReadType → TypeData
read_data (Known of) = of.now
read_data (Read of) = spec_type of.now
read_data (ReadIn of types) = read_there (types_of types.now) of.now

abbrev pub seen_form : TypeForm → D.TypeForm
seen_form (Plain p) = D.Written (plain_type p)
seen_form (Written of) = D.Written of.now
seen_form (read_form of) = D.Written (read_data of)
seen_form (Declared of first count) = D.Declared of.now first count
seen_form (DeclaredRead of first count) = D.Declared (spec_type of.now) first count
seen_form (Builtin b first count) = D.Declared (builtin_type b) first count
seen_form (Applied s first count) = D.Applied s.now first count

-- a constraint as pure data
abbrev pub seen : Constraint → D.Constraint
seen (Same a b) = D.Same a b
seen (Has p form) = D.Has p (seen_form form)
seen (MadeOf p wrap e) = D.MadeOf p wrap e
seen (TupleOf p parts) = D.TupleOf p parts.now
seen (IsOf sort p) = D.IsOf sort p
seen (Alike a b) = D.Alike a b
seen (Takes e form) = D.Takes e (seen_form form)
seen (Returns e form) = D.Returns e (seen_form form)
seen (FieldOf p e name) = D.FieldOf p e name.now
seen (TargetOf p e) = D.TargetOf p e
seen (Through e) = D.Through e
seen (Behind e) = D.Behind e
seen Barred = D.Barred

abbrev pub seen_all : List Constraint → List D.Constraint
seen_all ds = map seen ds
