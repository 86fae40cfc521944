-- The spec block that tokens denote. Source: the Move Specification Language reference, "Spec Blocks and Conditions";
-- ClauseSpelling.antt and ProperClauses.antt define the spelling and the proper trees.
use Rattle.std.specs.Prelude.{List}
use Rattle.tokens.specs.declared.token.Token.{Token}
use Rattle.syntax_tree.specs.Lexemes.{AreTokens}
use Rattle.syntax_tree.specs.declared.slot.Slot.{Slot}
use Rattle.syntax_tree.specs.declared.clause.Spec.{Spec}
use Rattle.syntax_tree.specs.ClauseSpelling.{spec_tree_spelling}
use Rattle.syntax_tree.specs.ProperClauses.{IsProperBlock}

-- the tokens spell this spec block, and it is a proper one of this kind
pub record IsSpecBlockOf (slot : Slot) (block : Spec) (tokens : List Token) : Type 0 where
  pub spelled : AreTokens tokens (spec_tree_spelling block)
  pub proper : IsProperBlock slot block

abbrev pub AreOfNoSpecBlock : Slot → List Token → Type 0
AreOfNoSpecBlock slot tokens = (block : Spec) → IsSpecBlockOf slot block tokens → ⊥
