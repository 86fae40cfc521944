-- No declaration is repeated. Source: The Move Book, "Modules and Scripts", "Uses and Aliases", "Functions" and
-- "Structs".
use Rattle.std.specs.Prelude.{◌≡◌, ℕ, List, Some, None}
use Rattle.base.specs.declared.rule.Rule.TheVariants.{TwiceDeclared}
use Rattle.syntax_tree.specs.SourceModuleData.{SourceModuleData}
use Rattle.scopes.specs.Program.{first_twice_of}
use Rattle.front_end.specs.Chain.{FileStage, allows}
use Rattle.front_end.specs.FileFault.{breaks}
use Rattle.front_end.specs.Named.{NamedData}
use Rattle.front_end.specs.declared.fault.FileFault.{FileFault}

-- nothing is declared twice
abbrev pub HasNoneTwice : List (List SourceModuleData) → Type 0
HasNoneTwice sources = first_twice_of sources ≡ None

-- the first declaration that repeats an earlier one begins at this offset of this file
pub record HasTwice (sources : List (List SourceModuleData)) (file : ℕ) (fault : FileFault) : Type 0 where
  pub offset : ℕ
  pub fault_is : fault ≡ breaks TwiceDeclared offset
  pub first : first_twice_of sources ≡ Some (file, offset)

abbrev pub twice_stage : FileStage NamedData NamedData
twice_stage = allows (λ given. HasNoneTwice given.sources) (λ given. HasTwice given.sources)
