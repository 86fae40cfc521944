-- The source that tokens denote: their file, with the tree of each spec block. Source: The Move Book, "Modules and
-- Scripts"; the Move Specification Language reference, "Spec Blocks and Conditions".
use Rattle.std.specs.Prelude.{List}
use Rattle.base.specs.Pairs.{Paired}
use Rattle.tokens.specs.declared.token.Token.{Token}
use Rattle.syntax_tree.specs.FileData.{ModuleData}
use Rattle.syntax_tree.specs.DenotedFiles.{IsFileOf}
use Rattle.syntax_tree.specs.SourceModuleData.{SourceModuleData}
use Rattle.syntax_tree.specs.Members.{IsSourceModule}

-- the tokens denote a file, and the source has the trees of its spec blocks
pub record IsSourceOf (source : List SourceModuleData) (tokens : List Token) : Type 0 where
  pub file : List ModuleData
  pub is_file : IsFileOf file tokens
  pub modules : Paired IsSourceModule file source

abbrev pub AreOfNoSource : List Token → Type 0
AreOfNoSource tokens = (source : List SourceModuleData) → IsSourceOf source tokens → ⊥
