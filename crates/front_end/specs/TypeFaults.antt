-- The faults of typing as faults of files.
use Rattle.base.specs.declared.rule.Rule.TheVariants.{NoTyping, Ambiguous, Ability, Acquires, Unassigned, Undropped}
use Rattle.type_check.specs.declared.typing.TypeFault.{TypeFault}
use Rattle.type_check.specs.declared.typing.TypeFault.TheVariants.{NoTyping as no_typing, Ambiguous as ambiguous, Ability as no_ability, Acquires as no_acquires, Unassigned as no_value, Undropped as no_drop, NoMemory as no_memory}
use Rattle.front_end.specs.FileFault.{breaks}
use Rattle.front_end.specs.declared.fault.ProgramFault.{ProgramFault}
use Rattle.front_end.specs.declared.fault.ProgramFault.TheVariants.{InFile, NoMemory}

-- the rule is broken at the span, in the file of the span
abbrev pub fault_of : TypeFault → ProgramFault
fault_of (no_typing span) = InFile span.file (breaks NoTyping span.start)
fault_of (ambiguous span) = InFile span.file (breaks Ambiguous span.start)
fault_of (no_ability span) = InFile span.file (breaks Ability span.start)
fault_of (no_acquires span) = InFile span.file (breaks Acquires span.start)
fault_of (no_value span) = InFile span.file (breaks Unassigned span.start)
fault_of (no_drop span) = InFile span.file (breaks Undropped span.start)
fault_of no_memory = NoMemory
