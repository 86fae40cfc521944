-- The sources of files. Source: The Move Book, "Modules and Scripts".
use Rattle.std.specs.Prelude.{◌≡◌, ◌⊎◌, ℕ, List, Some}
use Rattle.base.specs.declared.rule.Rule.TheVariants.{Grammar, LeftOut}
use Rattle.tokens.specs.declared.token.Token.{Token}
use Rattle.parser_base.specs.declared.explain.ParseFault.TheVariants.{Grammar as no_grammar, LeftOut as marked}
use Rattle.parser_base.specs.Markers.{marker_at}
use Rattle.parser_base.specs.ParseFault.{start_at}
use Rattle.item_parser.specs.SourceDenoted.{IsCause}
use Rattle.syntax_tree.specs.DenotedSources.{IsSourceOf}
use Rattle.syntax_tree.specs.SourceModuleData.{SourceModuleData}
use Rattle.front_end.specs.Chain.{FileStage, makes}
use Rattle.front_end.specs.FileFault.{breaks}
use Rattle.front_end.specs.declared.fault.FileFault.{FileFault}
use Rattle.front_end.specs.declared.fault.FileFault.TheVariants.{Breaks}

-- the tokens denote the source
abbrev pub Denote : ℕ → List Token → List SourceModuleData → Type 0
Denote n tokens source = IsSourceOf source tokens

-- They denote none, and contain no marker; the offset is where the parser stopped.
pub record HasNoTree (tokens : List Token) (fault : FileFault) : Type 0 where
  pub offset : ℕ
  pub fault_is : fault ≡ breaks Grammar offset
  pub cause : IsCause tokens (no_grammar offset)

-- the fault of the marker with this index: its offset and its text
abbrev pub left_out : List Token → ℕ → FileFault
left_out tokens index = Breaks LeftOut (start_at tokens index) (Some (marker_at tokens index))

-- They denote none, and their first marker has this index.
pub record HasMarker (tokens : List Token) (fault : FileFault) : Type 0 where
  pub index : ℕ
  pub fault_is : fault ≡ left_out tokens index
  pub cause : IsCause tokens (marked index)

abbrev pub DenoteNone : ℕ → List Token → FileFault → Type 0
DenoteNone n tokens fault = HasNoTree tokens fault ⊎ HasMarker tokens fault

abbrev pub source_stage : FileStage (List (List Token)) (List (List SourceModuleData))
source_stage = makes Denote DenoteNone
