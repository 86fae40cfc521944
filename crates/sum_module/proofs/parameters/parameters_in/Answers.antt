use Rattle.std.proofs.Common.{ap, sym, subst, ◌∙◌}
use Rattle.syntax_tree.specs.SourceData.{SourceMemberData}
use Rattle.sum_module.specs.Parameters.{IsAdded}
use Rattle.sum_module.proofs.TableLemmas.{table_grows, table_stays}
use Rattle.sum_module.proofs.parameters.parameters_in.Goals.{in-Function+in_ok-add_function, in_default}
use Rattle.sum_module.proofs.parameters.parameters_in.Goals as goal

pub loop-member-preserved : goal.loop-member-preserved
loop-member-preserved c =
    let form = ap (λ (m : SourceMemberData). m.form) c.member.view_is ∙ ap (λ (m : SourceMemberData). m.form) c.member-item.is in
    elim c.match-member.branch [
      | in-Function+in_ok-add_function w ↦ table_grows c.args.members.now c.loop-member.member-index c.member-item.result w.in-Function.function c.loop-member.table c.match-member.table c.loop-member-test.true c.loop-member.invariant
          (subst (IsAdded w.in-Function.function c.loop-member.table) (sym w.table-is) w.in_ok-add_function.ensures) (sym form ∙ w.in-Function.is)
      | in_default w ↦ table_stays c.args.members.now c.loop-member.member-index c.member-item.result c.loop-member.table c.match-member.table c.loop-member-test.true c.loop-member.invariant w.table-is
          (λ f e. w.in_default.not-Function f (form ∙ e))
    ]
