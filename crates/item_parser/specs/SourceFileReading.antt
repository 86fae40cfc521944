-- What the result of reading the spec blocks of a file means.
use Rattle.std.specs.Prelude.{List, Result, Ok, Err}
use Rattle.base.specs.Pairs.{Paired}
use Rattle.syntax_tree.specs.FileData.{ModuleData}
use Rattle.syntax_tree.specs.SourceModuleData.{SourceModuleData}
use Rattle.syntax_tree.specs.Members.{IsSourceModule}
use Rattle.item_parser.specs.declared.source.fault.SpecFault.{SpecFault}
use Rattle.item_parser.specs.SpecFault.{IfNoSpec}
use Rattle.item_parser.specs.Reading.{AreOfNoModules}

abbrev pub MatchesFile : List ModuleData → Result (List SourceModuleData) SpecFault → Type 0
MatchesFile file (Ok source) = Paired IsSourceModule file source
MatchesFile file (Err fault) = IfNoSpec fault (AreOfNoModules file)
