use Rattle.std.proofs.Common.{◌≡◌, ◌-◌, length}
use Rattle.parser_base.specs.RepeatReading.{put_all, repeat_at}
use Rattle.item_parser.specs.MemberReading.{member_at}
use Rattle.item_parser.specs.FileReading.{before_member}
use Rattle.item_parser.proofs.module.read_members.Given as goal

abbrev pub invariant-loop : goal.invariant-loop
invariant-loop l =
    repeat_at before_member (member_at l.budget) (length l.tokens) l.tokens ≡ put_all l.members.items (repeat_at before_member (member_at l.budget) (length l.tokens - l.counter) l.rest)
