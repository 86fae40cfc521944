use Rattle.std.proofs.Common.{refl, subst}
use Rattle.std.specs.Prelude.{All}
use Rattle.tree_checks.specs.Numbers.{IsApplicationNumbered}
use Rattle.tree_checks.proofs.texts.partial.is_partial_text.Goals as goal

pub is_read-requires-clause-numbers : goal.is_read-requires-clause-numbers
is_read-requires-clause-numbers c = subst (All (IsApplicationNumbered c.args.pool.now)) c.as_slice.ensures.value (c.if-not-is_text_numbered.ensures refl)

pub is_read-requires-clause-named : goal.is_read-requires-clause-named
is_read-requires-clause-named c = c.if-not-is_chain_numbered.ensures refl

pub returns-clause-partial : goal.returns-clause-partial
returns-clause-partial c = λ p e. c.is_read.ensures.partial c.args.denial p c.requires.denial c.in_ok-walk.ensures.now_open e
