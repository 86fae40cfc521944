use Rattle.std.proofs.Common.{refl, subst, rules}
use Rattle.item_parser.specs.SpecDenoted.{IsSpecExpressionOf, IsCause}
use Rattle.item_parser.proofs.SpecDenotedLemmas.{read_is_spec_expression, cause_is_known}
use Rattle.item_parser.proofs.spec.denoted.spec_expression.Goals as goal

pub returns-in-Ok-clause-denoted : goal.returns-in-Ok-clause-denoted
returns-in-Ok-clause-denoted c = subst (IsSpecExpressionOf c.in-Ok.expression) (search rules) (read_is_spec_expression _ _ _ c.in-Ok.ensures)

pub returns-in-Err-clause-refused : goal.returns-in-Err-clause-refused
returns-in-Err-clause-refused c = subst (λ ts. IsCause ts c.explain.result) (search rules) (cause_is_known _ _ _ _ refl c.in-Err.ensures c.explain.ensures)
