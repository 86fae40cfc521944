-- Number literals fit their types. Source: The Move Book, "Integers".
use Rattle.std.specs.Prelude.{◌≡◌, ℕ, ◌^◌, Bool, true, false, ltb, List, Some, slice_get}
use Rattle.base.specs.TypeData.{TypeData, IntType}
use Rattle.base.specs.declared.types.Width.{Width}
use Rattle.base.specs.declared.types.Width.TheVariants.{U8, U16, U32, U64, U128}
use Rattle.program.specs.declared.arena.Node.TheVariants.{Leaf}
use Rattle.program.specs.declared.code.CodeLeaf.TheVariants.{Number}
use Rattle.program.specs.declared.code.Number.{Number as NumberData}
use Rattle.program.specs.CodeNodes.{CodeNode}
use Rattle.typing_rules.specs.Constraint.{Typing}
use Rattle.typing_rules.specs.Answers.{System, IsDefaulted, NodeIsRead}

abbrev pub bits_of : Width → ℕ
bits_of U8 = 8
bits_of U16 = 16
bits_of U32 = 32
bits_of U64 = 64
bits_of U128 = 128

-- the number is a value of the type
abbrev pub number_fits : ℕ → TypeData → Bool
number_fits value (IntType w) = ltb value (2 ^ bits_of w)
number_fits value _ = true

-- a number literal at a node that is read is no value of its type, in every typing with default integer types
pub record Misfits (s : System) (nodes : List CodeNode) : Type 0 where
  pub variable : ℕ
  pub number : NumberData
  pub stands : slice_get nodes variable ≡ Some (Leaf (Number number))
  pub is_read : NodeIsRead s variable
  pub misfits : (t : Typing) → IsDefaulted s t → number_fits number.value (t variable) ≡ false
