-- The targets of spec blocks with a name. Source: the Move Specification Language reference, "Spec Blocks and
-- Conditions".
use Rattle.std.specs.Prelude.{ℕ, List, Option}
use Rattle.std.specs.Option.{option_map, option_or}
use Rattle.scopes.specs.declared.member.MemberKind.TheVariants.{Struct as a_struct, Function as a_function}
use Rattle.scopes.specs.EnvironmentData.{EnvironmentData}
use Rattle.scopes.specs.Meanings.{declared_meaning, function_of, struct_of}
use Rattle.resolution.specs.declared.clauses.targets.SpecTarget.{SpecTarget}
use Rattle.resolution.specs.declared.clauses.targets.SpecTarget.TheVariants.{Function, Struct}

-- the function that the module declares with this name, or else the struct
abbrev pub target_meaning : EnvironmentData → List ℕ → Option SpecTarget
target_meaning env name =
    option_or (option_map (λ m. Function (function_of m)) (declared_meaning env a_function env.own name))
    (option_map (λ m. Struct (struct_of m)) (declared_meaning env a_struct env.own name))
