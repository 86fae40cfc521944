use Rattle.std.proofs.Common.{arith, rules, length, ◌-◌, ◌+◌}
use Rattle.parser_base.proofs.ListSteps.{fault_hands_on, IfNoTree-weaker}
use Rattle.parser_base.proofs.RepeatLemmas.{repeating_stops, repeating_is_over, repeating_fails, repeating_goes_on}
use Rattle.item_parser.specs.MemberReading.{member_at}
use Rattle.item_parser.specs.FileReading.{before_member, members_at}
use Rattle.item_parser.proofs.FileSteps.{no_member, one_member}
use Rattle.item_parser.proofs.module.read_members.Goals as goal

pub returns : goal.returns
unfolding members_at
returns c = repeating_is_over before_member (member_at c.args.budget) _ _ _ _ c.loop.invariant (omega arith)

pub returns-then-begins_with : goal.returns-then-begins_with
unfolding members_at
returns-then-begins_with c = repeating_stops before_member (member_at c.args.budget) _ _ _ (length c.args.tokens.now - (c.loop.counter + 1)) _ c.loop.invariant (omega arith) (no_member _ (search rules))

pub returns-in_err-member : goal.returns-in_err-member
unfolding members_at
returns-in_err-member c =
    fault_hands_on c.from_residual.result _ _ _ c.from_residual.ensures.1
    (IfNoTree-weaker _ (repeating_fails before_member (member_at c.args.budget) _ _ _ (length c.args.tokens.now - (c.loop.counter + 1)) _ _ c.loop.invariant (omega arith) (one_member _ (search rules))) c.in_err-member.ensures)

pub loop-preserved : goal.loop-preserved
loop-preserved c = repeating_goes_on before_member (member_at c.args.budget) _ _ _ _ _ _ _ _ _ c.loop.invariant (omega arith) (one_member _ (search rules)) c.in_ok-member.ensures c.in_ok-push.ensures.items
