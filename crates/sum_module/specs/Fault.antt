-- Why a module, or a member of one, is not read.
use Rattle.std.specs.Prelude.{ℕ}
use Rattle.sum_module.specs.declared.fault.ModuleFault.{ModuleFault}
use Rattle.sum_module.specs.declared.fault.ModuleFault.TheVariants.{NotBuilt, NoMemory}

-- a property of the offset at which what is not built begins
abbrev pub IfNotBuiltAt : ModuleFault → (ℕ → Type 0) → Type 0
IfNotBuiltAt (NotBuilt offset) P = P offset
IfNotBuiltAt NoMemory P = Unit {0}
