-- Uses without a meaning, by the declaration that contains them.
use Rattle.std.specs.Prelude.{ℕ, List}
use Rattle.base.specs.declared.span.Span.{Span}
use Rattle.syntax_tree.specs.SourceModuleData.{SourceModuleData}
use Rattle.scopes.specs.declared.fault.NameFault.{NameFault}
use Rattle.scopes.specs.declared.fault.NameFault.TheVariants.{Unknown as unknown, NoMemory as no_memory}
use Rattle.resolution.specs.declared.fault.DeclarationFault.{DeclarationFault}
use Rattle.resolution.specs.declared.fault.DeclarationFault.TheVariants.{Unknown as unknown_at, NoMemory as no_memory_at}
use Rattle.resolution.specs.declared.fault.ResolveFault.{ResolveFault}
use Rattle.resolution.specs.declared.fault.ResolveFault.TheVariants.{Unknown as unknown_in, NoMemory as no_memory_in}
use Rattle.resolution.specs.Known.{KnownData, known_of}
use Rattle.resolution.specs.Items.{Item, IsFirstUnknown, IsFirstUnknownIn}

abbrev pub fault_at : NameFault → Span → DeclarationFault
fault_at unknown span = unknown_at span
fault_at no_memory span = no_memory_at

-- the first of these declarations with a use that has no meaning begins there
abbrev pub IsFaultAmong : List Item → DeclarationFault → Type 0
IsFaultAmong items (unknown_at span) = IsFirstUnknown items span
IsFaultAmong items no_memory_at = Unit {0}

abbrev pub fault_in : DeclarationFault → ℕ → ResolveFault
fault_in (unknown_at span) file = unknown_in file span
fault_in no_memory_at file = no_memory_in

abbrev pub IsFaultFrom : KnownData → List (List SourceModuleData) → ResolveFault → Type 0
IsFaultFrom known sources (unknown_in file span) = IsFirstUnknownIn known 0 sources file span
IsFaultFrom known sources no_memory_in = Unit {0}

abbrev pub IsFaultOf : List (List SourceModuleData) → ResolveFault → Type 0
IsFaultOf sources fault = IsFaultFrom (known_of sources) sources fault
