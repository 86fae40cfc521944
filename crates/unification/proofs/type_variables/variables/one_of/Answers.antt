use Rattle.std.proofs.Common.{◌≡◌, ◌∙◌, Bool, length, sym, ap}
use Rattle.std.proofs.lemmas.Result.{IfOk-weaker}
use Rattle.unification.specs.Slots.{value}
use Rattle.unification.proofs.Growing.{grown_said, value_kept}
use Rattle.unification.proofs.type_variables.variables.one_of.Goals as goal

pub returns : goal.returns
returns c =
    let e : c.len-variable.result ≡ length c.args.slots.now.items = c.len-variable.ensures ∙ c.args.slots.now.ok.0 in
    IfOk-weaker c.has.result _ _
    (λ (answer : Bool) g. grown_said (λ t. value t c.args.left ≡ value t c.args.right) (λ t. t c.len-variable.result ≡ value t c.args.right) c.in_ok-add_bound.ensures.grows
    (λ t u same f. value_kept (length c.args.slots.now.items) t u c.args.left c.requires.left same ∙ f ∙ sym (value_kept (length c.args.slots.now.items) t u c.args.right c.requires.right same))
    (λ t m f. ap t e ∙ c.in_ok-add_bound.ensures.has t m ∙ f)
    (λ t m e'. sym (ap t e ∙ c.in_ok-add_bound.ensures.has t m) ∙ e')
    g)
    c.has.ensures
