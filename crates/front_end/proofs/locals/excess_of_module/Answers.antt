use Rattle.std.proofs.Common.{ap, sym, ◌∙◌}
use Rattle.syntax_tree.specs.SourceData.{SourceMemberData}
use Rattle.syntax_tree.specs.SourceModuleData.{SourceModuleData}
use Rattle.front_end.specs.LocalCounts.{excess_of_form, excess_of_member, first_of}
use Rattle.front_end.proofs.LocalLemmas.{none_is, none_more, some_at}
use Rattle.front_end.proofs.locals.excess_of_module.Goals as goal

pub returns-in-Some : goal.returns-in-Some
returns-in-Some c =
    let members = c.deref-member-items.ensures.value ∙ ap (λ (m : SourceModuleData). m.members) c.source_module.view_is in
    let form = ap (λ (m : SourceMemberData). m.form) c.member.view_is ∙ ap (λ (m : SourceMemberData). m.form) c.member-item.is in
    sym (ap (first_of excess_of_member) (sym members)
    ∙ some_at excess_of_member c.deref-member-items.result.now c.loop-member.member-index c.member-item.result c.in-Some.count c.loop-member-test.true c.loop-member.invariant
    (sym (ap excess_of_form form) ∙ sym c.in_ok-count.ensures ∙ c.in-Some.is))

pub loop-member-preserved : goal.loop-member-preserved
loop-member-preserved c =
    let form = ap (λ (m : SourceMemberData). m.form) c.member.view_is ∙ ap (λ (m : SourceMemberData). m.form) c.member-item.is in
    none_more excess_of_member c.deref-member-items.result.now c.loop-member.member-index c.member-item.result c.loop-member-test.true c.loop-member.invariant
    (sym (ap excess_of_form form) ∙ sym c.in_ok-count.ensures ∙ none_is c.in_ok-count.field-0 c.in_default.not-Some)
