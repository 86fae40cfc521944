use Rattle.std.proofs.Common.{ap, subst, ◌∙◌, ◌++◌, take}
use Rattle.syntax_tree.specs.SourceData.{SourceMemberData}
use Rattle.sum_read.specs.FormFault.{IfNotBuilt}
use Rattle.syntax_tree.specs.Spans.{form_span}
use Rattle.base.specs.Names.{IsSetOf}
use Rattle.sum_module.specs.Members.{name_of_form, IsMember, IsUnbuilt}
use Rattle.sum_module.proofs.MemberLemmas.{reading_more, reading_stops}
use Rattle.sum_module.proofs.module.read_members.Goals as goal

pub returns-in-Err-NotBuilt : goal.returns-in-Err-NotBuilt
returns-in-Err-NotBuilt c =
    let members = c.args.members.now in
    let i = c.loop-member.member-index in
    let form = ap (λ (m : SourceMemberData). m.form) c.member.view_is ∙ ap (λ (m : SourceMemberData). m.form) c.member-item.is in
    reading_stops members c.in_ok-parameters.parameters.table i c.member-item.result c.loop-member.seen c.loop-member.found.items c.form_span.result.start c.loop-member-test.true c.loop-member.invariant
    (subst (IsUnbuilt members (take i members)) form (subst (λ fault. IfNotBuilt fault (IsUnbuilt members (take i members) c.member.inside.form)) c.in-Err-NotBuilt.field-0-is (c.in-Err-NotBuilt.ensures members (take i members) c.loop-member.invariant.table_is c.loop-member.invariant.seen_is)))
    (ap (λ p. p.start) (c.form_span.ensures ∙ ap form_span form))

pub loop-member-preserved : goal.loop-member-preserved
loop-member-preserved c =
    let members = c.args.members.now in
    let i = c.loop-member.member-index in
    let form = ap (λ (m : SourceMemberData). m.form) c.member.view_is ∙ ap (λ (m : SourceMemberData). m.form) c.member-item.is in
    reading_more members c.in_ok-parameters.parameters.table i c.member-item.result c.loop-member.seen c.add.new.self c.loop-member.found.items c.push.new.self.items c.in-Ok.read c.loop-member-test.true c.loop-member.invariant
    (subst (λ f. IsMember members (take i members) f c.in-Ok.read) form (c.in-Ok.ensures members (take i members) c.loop-member.invariant.table_is c.loop-member.invariant.seen_is))
    (λ names same. subst (λ f. IsSetOf c.add.new.self (names ++ name_of_form f)) form (c.in_ok-add.ensures names same)) c.in_ok-push-in-Ok.ensures.items
