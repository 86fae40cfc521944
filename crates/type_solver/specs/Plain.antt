-- The types of the language itself.
use Rattle.std.specs.Prelude.{◌≡◌}
use Rattle.base.specs.TypeData.{BoolType, IntType, NumType, AddressType, SignerType}
use Rattle.base.specs.declared.types.Width.TheVariants.{U8, U16, U32, U64, U128}
use Rattle.type_solver.specs.declared.plain.PlainTypes.{PlainTypes}

pub record ArePlain (types : PlainTypes) : Type 0 where
  pub truth : types.truth ≡ BoolType
  pub int_8 : types.int_8 ≡ IntType U8
  pub int_16 : types.int_16 ≡ IntType U16
  pub int_32 : types.int_32 ≡ IntType U32
  pub int_64 : types.int_64 ≡ IntType U64
  pub int_128 : types.int_128 ≡ IntType U128
  pub number : types.number ≡ NumType
  pub address : types.address ≡ AddressType
  pub signer : types.signer ≡ SignerType
