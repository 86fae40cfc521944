-- Sources whose names are resolved. Source: The Move Book, "Modules and Scripts" and "Uses and Aliases"; the Move
-- Specification Language reference, "Expressions" and "Schemas".
use Rattle.std.specs.Prelude.{◌≡◌, ℕ, List}
use Rattle.base.specs.declared.span.Span.{Span}
use Rattle.base.specs.declared.rule.Rule.TheVariants.{UnknownName}
use Rattle.syntax_tree.specs.SourceModuleData.{SourceModuleData}
use Rattle.program.specs.declared.program.Program.{Program}
use Rattle.resolution.specs.Items.{AreKnownIn, IsFirstUnknownIn}
use Rattle.resolution.specs.Known.{known_of}
use Rattle.resolution.specs.Programs.{IsProgramOf}
use Rattle.front_end.specs.Chain.{FileStage}
use Rattle.front_end.specs.FileFault.{breaks}
use Rattle.front_end.specs.declared.fault.FileFault.{FileFault}

-- sources, and a program
pub record NamedData : Type 0 where
  pub sources : List (List SourceModuleData)
  pub program : Program

abbrev pub named : List (List SourceModuleData) → Program → NamedData
named sources program = record { sources = sources; program = program }

-- Each use of a name means a declaration, and the program is that of the sources.
pub record IsNamed (sources : List (List SourceModuleData)) (made : NamedData) : Type 0 where
  pub sources_are : made.sources ≡ sources
  pub is_program : IsProgramOf sources made.program
  pub known : AreKnownIn (known_of sources) sources

-- the first declaration with a use that means nothing has this span in this file
pub record HasUnknown (sources : List (List SourceModuleData)) (file : ℕ) (fault : FileFault) : Type 0 where
  pub span : Span
  pub fault_is : fault ≡ breaks UnknownName span.start
  pub first : IsFirstUnknownIn (known_of sources) 0 sources file span

abbrev pub known_stage : FileStage (List (List SourceModuleData)) NamedData
known_stage = record { Gives = IsNamed; Stops = HasUnknown }
