-- One step of the loop that reads operators and their operands.
use Rattle.std.proofs.Common.{◌≡◌, ℕ, suc, Bool, List, Some, None, sym, ap, ◌∙◌, length}
use Rattle.std.specs.Prelude.{option_and_then}
use Rattle.base.specs.declared.span.Span.{Span}
use Rattle.tokens.specs.declared.token.Token.{Token}
use Rattle.syntax_tree.specs.TypeTreeData.{SourceTypeData}
use Rattle.syntax_tree.specs.declared.spec_expression.operator.SpecOperator.{SpecOperator}
use Rattle.syntax_tree.specs.SpecExpressionData.{SpecExpressionData, SpecBinary}
use Rattle.syntax_tree.specs.ProperSpecExpressions.{right_level}
use Rattle.parser_base.specs.TokenReading.{Read}
use Rattle.parser_base.specs.ChainReading.{next_operator, chain_at, whole_chain_at}
use Rattle.parser_base.proofs.Steps.{bind_some}
use Rattle.parser_base.proofs.ChainSteps.{chain_is_stuck, chain_goes_on}
use Rattle.expression_parser.specs.OperatorReading.{spec_joints}
use Rattle.expression_parser.specs.SpecReading.{Reader, operand_at, operated_at}

module _ (types : List Token → Read SourceTypeData) (inner : Bool → ℕ → Reader) (packs : Bool) (minimum : ℕ) where
  pub operated_none : (ts : List Token) → operand_at types inner packs ts ≡ None → operated_at types inner packs minimum ts ≡ None
  unfolding operated_at
  operated_none ts e = ap (option_and_then (λ first. whole_chain_at spec_joints (inner packs) minimum first.0 first.1)) e

  pub operated_starts : (ts : List Token) (first : SpecExpressionData) (rest : List Token) (k : ℕ) → operand_at types inner packs ts ≡ Some (first, rest) → k ≡ suc (length rest) → operated_at types inner packs minimum ts ≡ chain_at spec_joints (inner packs) minimum k first rest
  unfolding operated_at
  operated_starts ts first rest k e h =
      bind_some (operand_at types inner packs ts) (λ first. whole_chain_at spec_joints (inner packs) minimum first.0 first.1) (first, rest) e ∙ ap (λ j. chain_at spec_joints (inner packs) minimum j first rest) (sym h)

  pub operated_is_stuck : (all : Read SpecExpressionData) (k n : ℕ) (left : SpecExpressionData) (ts us : List Token) (o : SpecOperator) (span : Span) (m : ℕ) → all ≡ chain_at spec_joints (inner packs) minimum k left ts → k ≡ suc n
      → next_operator spec_joints minimum left ts ≡ Some ((o, span), us) → m ≡ right_level o → inner packs m us ≡ None → all ≡ None
  operated_is_stuck all k n left ts us o span m before e h l i =
      chain_is_stuck spec_joints (inner packs) minimum all k n m left ts us (o, span) before e h l i

  pub operated_goes_on : (all : Read SpecExpressionData) (k n : ℕ) (left : SpecExpressionData) (ts us rest : List Token) (o : SpecOperator) (span : Span) (m : ℕ) (right whole : SpecExpressionData) → all ≡ chain_at spec_joints (inner packs) minimum k left ts → k ≡ suc n
      → next_operator spec_joints minimum left ts ≡ Some ((o, span), us) → m ≡ right_level o → inner packs m us ≡ Some (right, rest) → whole ≡ SpecBinary left o span right → all ≡ chain_at spec_joints (inner packs) minimum n whole rest
  operated_goes_on all k n left ts us rest o span m right whole before e h l i w =
      chain_goes_on spec_joints (inner packs) minimum all k n m left ts us rest (o, span) right whole before e h l i w
