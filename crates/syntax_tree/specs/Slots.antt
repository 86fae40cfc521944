-- The clauses that are allowed in a block of each kind. Source: the Move Specification Language reference, "Spec Blocks
-- and Conditions", "Invariants" and "Schemas".
use Rattle.std.specs.Prelude.{false}
use Rattle.syntax_tree.specs.declared.slot.Slot.{Slot}
use Rattle.syntax_tree.specs.declared.slot.Slot.TheVariants.{Function, Struct, Module, Schema, Loop}
use Rattle.syntax_tree.specs.declared.clause.Clause.{Clause}
use Rattle.syntax_tree.specs.declared.clause.Clause.TheVariants.{Pragma, Requires, Ensures, AbortsIf, Modifies, Invariant, Let, Include}

abbrev pub MayHold : Slot → Clause → Type 0
MayHold Function (Pragma _ _) = Unit {0}
MayHold Function (Requires _ _) = Unit {0}
MayHold Function (Ensures _ _) = Unit {0}
MayHold Function (AbortsIf _ _ _) = Unit {0}
MayHold Function (Modifies _ _) = Unit {0}
MayHold Function (Let _ _ _ _) = Unit {0}
MayHold Function (Include _) = Unit {0}
MayHold Struct (Pragma _ _) = Unit {0}
MayHold Struct (Invariant _ false _) = Unit {0}
MayHold Struct (Let _ _ _ _) = Unit {0}
MayHold Struct (Include _) = Unit {0}
MayHold Module (Pragma _ _) = Unit {0}
MayHold Module (Invariant _ _ _) = Unit {0}
MayHold Module (Let _ _ _ _) = Unit {0}
MayHold Module (Include _) = Unit {0}
MayHold Schema _ = Unit {0}
MayHold Loop (Invariant _ false _) = Unit {0}
MayHold _ _ = ⊥
