-- The constraints of a packed struct on its type arguments, its names and its parts.
use Rattle.std.specs.Prelude.{ℕ, List, [], ◌∷◌, ◌++◌}
use Rattle.std.specs.Map.{lookup}
use Rattle.base.specs.TypeData.{TypeData}
use Rattle.base.specs.declared.types.StructId.{StructId}
use Rattle.program.specs.Same.{same_struct}
use Rattle.typing_rules.specs.Constraint.{Constraint, Has, Applied}
use Rattle.typing_rules.specs.Settings.{struct_arity}
use Rattle.typing_rules.specs.SpecConstraints.{SpecSetting, spec_argument_constraints, spec_named_constraints}

abbrev pub pack_constraints : SpecSetting → ℕ → ℕ → StructId → List TypeData → List (List ℕ) → List ℕ → List Constraint
pack_constraints s n first owner types names parts =
    let d = lookup (same_struct owner) s.program.structs in
    (spec_argument_constraints s first (struct_arity d) types ++ spec_named_constraints first d names parts) ++ Has n (Applied owner first (struct_arity d)) ∷ []
