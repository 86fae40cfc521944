use Rattle.certificates.proofs.RewritingLemmas.{first_replaced, second_replaced}
use Rattle.certificates.proofs.rewriting.are_equals.Goals as goal

pub returns-then-is_replaced : goal.returns-then-is_replaced
returns-then-is_replaced c = first_replaced _ _ _ c.is_replaced.ensures c.if-is_replaced.true

pub returns : goal.returns
returns c = second_replaced _ _ _ _ c.is_replaced.ensures c.if-is_replaced.false c.is_replaced-2.ensures
