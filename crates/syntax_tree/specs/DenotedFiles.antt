-- The file that tokens denote. Source: The Move Book, "Modules and Scripts"; MemberSpelling.antt and ProperMembers.antt
-- define the spelling and the proper trees.
use Rattle.std.specs.Prelude.{List}
use Rattle.tokens.specs.declared.token.Token.{Token}
use Rattle.syntax_tree.specs.Lexemes.{AreTokens}
use Rattle.syntax_tree.specs.FileData.{ModuleData}
use Rattle.syntax_tree.specs.MemberSpelling.{file_spelling}
use Rattle.syntax_tree.specs.ProperMembers.{IsProperFile}

-- the tokens spell this file, and it is a proper one
pub record IsFileOf (modules : List ModuleData) (tokens : List Token) : Type 0 where
  pub spelled : AreTokens tokens (file_spelling modules)
  pub proper : IsProperFile modules

abbrev pub AreOfNoFile : List Token → Type 0
AreOfNoFile tokens = (modules : List ModuleData) → IsFileOf modules tokens → ⊥
