-- Expressions satisfy the assumptions of the lemmas on operators.
use Rattle.std.proofs.Common.{◌≡◌, List, None, refl}
use Rattle.tokens.specs.declared.token.Token.{Token}
use Rattle.tokens.specs.declared.token.Punctuation.TheVariants.{Greater}
use Rattle.syntax_tree.specs.ExpressionData.{ExpressionData}
use Rattle.syntax_tree.specs.ExpressionSpelling.{expression_spelling}
use Rattle.syntax_tree.specs.ProperExpressions.{elsewhere, IsProperExpression}
use Rattle.parser_base.specs.Beginnings.{Begins}
use Rattle.parser_base.proofs.ChainLemmas.{Rules}
use Rattle.parser_base.specs.LeafReading.{after_glued}
use Rattle.parser_base.specs.OperatorReading.{joints}
use Rattle.parser_base.proofs.LeafLemmas.{after_glued-none}
use Rattle.parser_base.proofs.OpenLemmas.{expression_no_sign}
use Rattle.parser_base.proofs.OperatorLemmas.{RightSides, rules}

pub no_greater : (e : ExpressionData) (ts rest : List Token) → Begins (expression_spelling e) ts rest → IsProperExpression e → after_glued Greater ts ≡ None
no_greater e ts rest b p = after_glued-none Greater ts (expression_no_sign Greater refl elsewhere e ts rest b p)

pub sides : RightSides
sides = record { no_greater = no_greater }

abbrev pub expression_rules : Rules joints
expression_rules = rules sides
