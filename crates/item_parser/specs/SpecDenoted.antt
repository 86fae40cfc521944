-- The spec expression that tokens denote, and the faults if they denote none. Source: the Move Specification Language
-- reference, "Expressions"; the trees, and which of them are proper, are defined with the spec trees.
use Rattle.std.specs.Prelude.{List}
use Rattle.tokens.specs.declared.token.Token.{Token}
use Rattle.syntax_tree.specs.Lexemes.{AreTokens}
use Rattle.syntax_tree.specs.SpecExpressionData.{SpecExpressionData}
use Rattle.syntax_tree.specs.SpecExpressionSpelling.{spec_spelling}
use Rattle.syntax_tree.specs.ProperSpecExpressions.{IsProperSpec}
use Rattle.parser_base.specs.declared.explain.ParseFault.{ParseFault}
use Rattle.parser_base.specs.declared.explain.ParseFault.TheVariants.{Grammar, LeftOut, NoMemory}
use Rattle.parser_base.specs.Markers.{HoldNone, IsFirstMarker}

-- the tokens spell this spec expression, and it is proper
pub record IsSpecExpressionOf (expression : SpecExpressionData) (tokens : List Token) : Type 0 where
  pub spelled : AreTokens tokens (spec_spelling expression)
  pub proper : IsProperSpec expression

abbrev pub AreOfNoSpecExpression : List Token → Type 0
AreOfNoSpecExpression tokens = (expression : SpecExpressionData) → IsSpecExpressionOf expression tokens → ⊥

-- `Grammar` if the tokens denote no spec expression and hold no marker, `LeftOut` if they denote none and hold a
-- marker, with the first one; the position in `Grammar` is where the reader stopped
abbrev pub IsCause : List Token → ParseFault → Type 0
IsCause tokens (Grammar span) = AreOfNoSpecExpression tokens × HoldNone tokens
IsCause tokens (LeftOut index) = AreOfNoSpecExpression tokens × IsFirstMarker tokens index
IsCause tokens NoMemory = Unit {0}
