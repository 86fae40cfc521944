use Rattle.std.proofs.Common.{rules}
use Rattle.parser_base.proofs.KeptLemmas.{heading_ends, heading_is_open, heading_fails, heading_goes_on, heading_is_over}
use Rattle.parser_base.proofs.kept.skip_head.Goals as goal

pub returns-then-is_none_open : goal.returns-then-is_none_open
returns-then-is_none_open c = heading_ends _ _ _ c.in-Some.token.now c.in-Some.behind.now c.loop-token.invariant c.in-Some.ensures.cases.0 (search rules) (search rules)

pub returns-then-is_sign : goal.returns-then-is_sign
returns-then-is_sign c = heading_is_open _ _ _ c.in-Some.token.now c.in-Some.behind.now c.loop-token.invariant c.in-Some.ensures.cases.0 (search rules) (search rules)

pub returns-then-not-branch : goal.returns-then-not-branch
returns-then-not-branch c = heading_fails _ _ _ c.in-Some.token.now c.in-Some.behind.now c.loop-token.invariant c.in-Some.ensures.cases.0 (search rules) (search rules)

pub loop-token-preserved : goal.loop-token-preserved
loop-token-preserved c = heading_goes_on _ _ _ _ c.in-Some.token.now c.in-Some.behind.now c.loop-token.invariant c.in-Some.ensures.cases.0 (search rules) (search rules)

pub returns : goal.returns
returns c = heading_is_over _ _ _ c.loop-token.invariant c.in_default.ensures.cases
