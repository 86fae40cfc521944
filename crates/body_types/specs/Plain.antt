-- The types that terms of typing point at.
use Rattle.std.specs.Prelude.{◌≡◌}
use Rattle.typing_rules.specs.Settings.{unit_type}
use Rattle.type_solver.specs.Plain.{ArePlain}
use Rattle.body_types.specs.declared.code.plain.CodeTypes.{CodeTypes}

pub record AreCodeTypes (types : CodeTypes) : Type 0 where
  pub plain : ArePlain types.plain
  pub unit : types.unit ≡ unit_type
