use Rattle.std.specs.Vec.Iter.{into_iter_items}
use Rattle.item_parser.specs.Reading.{HasNoMember}
use Rattle.item_parser.proofs.FaultLemmas.{hands_on}
use Rattle.base.proofs.PairLaws.{reading_more, reading_stop}
use Rattle.item_parser.proofs.source.module.read_members.Goals as goal

pub returns-in_err-read_member : goal.returns-in_err-read_member
returns-in_err-read_member c = λ names same.
    hands_on c.from_residual.result _ _ (HasNoMember names c.in-Some.member) _ c.from_residual.ensures.1
    (reading_stop c.in-Some.member (into_iter_items c.next.new.self) (c.loop-member.invariant names same) c.in-Some.ensures.steps.0) (c.in_err-read_member.ensures names same)

pub loop-member-preserved : goal.loop-member-preserved
loop-member-preserved c = λ names same.
    reading_more c.in-Some.member (into_iter_items c.next.new.self) c.in_ok-read_member.field-0 (c.loop-member.invariant names same) c.in-Some.ensures.steps.0 (c.in_ok-read_member.ensures names same) c.in_ok-push.ensures.items
