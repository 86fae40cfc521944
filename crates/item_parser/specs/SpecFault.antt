-- The reason why a spec block kept in a file has no tree.
use Rattle.parser_base.specs.declared.explain.ParseFault.{ParseFault}
use Rattle.parser_base.specs.declared.explain.ParseFault.TheVariants.{Grammar, LeftOut, NoMemory as want}
use Rattle.item_parser.specs.declared.source.fault.SpecFault.{SpecFault}
use Rattle.item_parser.specs.declared.source.fault.SpecFault.TheVariants.{NoTree, NoMemory}

-- the statement holds if the tokens are at fault, and not memory
abbrev pub IfNoSpec : SpecFault → Type 0 → Type 0
IfNoSpec NoTree P = P
IfNoSpec NoMemory P = Unit {0}

abbrev pub fault_of : ParseFault → SpecFault
fault_of (Grammar span) = NoTree
fault_of (LeftOut index) = NoTree
fault_of want = NoMemory
