use Rattle.std.proofs.Common.{ap, sym, ◌∙◌, ◌∷◌, []}
use Rattle.syntax_tree.specs.FileData.{MemberData}
use Rattle.syntax_tree.specs.FunctionNames.{function_name}
use Rattle.base.specs.Names.{has}
use Rattle.item_parser.proofs.NameLemmas.{names_grow, names_stay, no_function}
use Rattle.item_parser.proofs.source.functions.function_names.Goals.{in-Function+in_ok-try_clone+in_ok-insert, in_default}
use Rattle.item_parser.proofs.source.functions.function_names.Goals as goal

pub loop-member-preserved : goal.loop-member-preserved
loop-member-preserved c =
    let item = ap (λ (m : MemberData). function_name m.form) (sym c.member-item.is) ∙ ap (λ (m : MemberData). function_name m.form) (sym c.member.view_is) in
    elim c.match-member.branch [
      | in-Function+in_ok-try_clone+in_ok-insert w ↦ names_grow c.args.members.now c.loop-member.member-index c.member-item.result w.in_ok-try_clone.field-0 c.loop-member.names c.match-member.names c.loop-member-test.true c.loop-member.invariant
          (λ q. ap (λ s. has s q) w.names-is ∙ w.in_ok-insert.ensures.updates.0 q)
          (item ∙ ap function_name w.in-Function.is ∙ ap (λ name. name ∷ []) (sym w.in_ok-try_clone.ensures))
      | in_default w ↦ names_stay c.args.members.now c.loop-member.member-index c.member-item.result c.loop-member.names c.match-member.names c.loop-member-test.true c.loop-member.invariant w.names-is
          (item ∙ no_function c.member.inside.form w.in_default.not-Function)
    ]
