-- Why a tree is not read.
use Rattle.sum_read.specs.declared.fault.FormFault.{FormFault}
use Rattle.sum_read.specs.declared.fault.FormFault.TheVariants.{NotBuilt, NoMemory}

-- a property if the tree is at fault, and not memory
abbrev pub IfNotBuilt : FormFault → Type 0 → Type 0
IfNotBuilt NotBuilt P = P
IfNotBuilt NoMemory P = Unit {0}
