use Rattle.std.proofs.Common.{rules}
use Rattle.parser_base.proofs.BalanceLemmas.{skipping_ends, skipping_fails, skipping_goes_on, skipping_is_over}
use Rattle.parser_base.proofs.balanced.skip_balanced.Goals as goal

pub returns-then-is_end : goal.returns-then-is_end
returns-then-is_end c = skipping_ends _ _ _ _ c.in-Some.token.now c.in-Some.behind.now c.loop-token.invariant c.in-Some.ensures.cases.0 (search rules)

pub returns-then-not-branch : goal.returns-then-not-branch
returns-then-not-branch c = skipping_fails _ _ _ _ c.in-Some.token.now c.in-Some.behind.now c.loop-token.invariant c.in-Some.ensures.cases.0 (search rules) (search rules)

pub loop-token-preserved : goal.loop-token-preserved
loop-token-preserved c = skipping_goes_on _ _ _ _ _ c.in-Some.token.now c.in-Some.behind.now c.loop-token.invariant c.in-Some.ensures.cases.0 (search rules) (search rules)

pub returns : goal.returns
returns c = skipping_is_over _ _ _ _ c.loop-token.invariant c.in_default.ensures.cases
