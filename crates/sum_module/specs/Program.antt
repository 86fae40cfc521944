-- The module of sums of a source module.
use Rattle.std.specs.Prelude.{◌≡◌, ℕ}
use Rattle.syntax_tree.specs.SourceModuleData.{SourceModuleData}
use Rattle.sum_tree.specs.SumModuleData.{SumModuleData}
use Rattle.sum_module.specs.BuiltModuleData.{BuiltModuleData}
use Rattle.sum_module.specs.Built.{IsBuilt}
use Rattle.sum_module.specs.Joined.{module_of}

-- the module is built, and the result has its functions with the clauses of their spec blocks
pub record IsSumModule (file : ℕ) (m : SourceModuleData) (found : SumModuleData) : Type 0 where
  pub built : BuiltModuleData
  pub is_built : IsBuilt m built
  pub found_is : found ≡ module_of file built
