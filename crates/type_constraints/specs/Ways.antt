-- Constraints where a field is assigned or borrowed mutably.
use Rattle.std.specs.Prelude.{ℕ, Bool, true, false, Option, Some, None}
use Rattle.program.specs.declared.arena.Node.TheVariants.{Unary}
use Rattle.program.specs.declared.code.CodeUnary.TheVariants.{Field}
use Rattle.program.specs.CodeNodes.{CodeNode}
use Rattle.typing_rules.specs.Constraint.{Constraint, Through, Behind}

-- the constraint of a node that is no lvalue: a mutable reference where a value is written, and otherwise as for an
-- lvalue
abbrev pub otherwise : Bool → ℕ → Constraint
otherwise true n = Behind n
otherwise false n = Through n

abbrev pub is_field_of : Option CodeNode → Option ℕ
is_field_of (Some (Unary (Field name) e)) = Some e
is_field_of _ = None
