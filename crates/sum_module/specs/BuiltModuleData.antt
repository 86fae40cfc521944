-- A module whose members are built, as pure data.
use Rattle.std.specs.Prelude.{ℕ, List}
use Rattle.sum_module.specs.declared.member.SumMember.{SumMember}

pub record BuiltModuleData : Type 0 where
  pub address : ℕ
  pub name : List ℕ
  pub members : List SumMember
