use Rattle.std.proofs.Common.{◌≡◌, ◌∙◌, Bool, length, sym}
use Rattle.std.proofs.lemmas.Result.{IfOk-weaker}
use Rattle.unification.specs.Slots.{value}
use Rattle.unification.specs.Instances.{instance, arguments}
use Rattle.unification.proofs.Growing.{grown_said, instance_kept}
use Rattle.unification.proofs.type_variables.variables.has_instance.Goals as goal

pub returns : goal.returns
returns c = IfOk-weaker c.has.result _ _
    (λ (answer : Bool) g. grown_said
    (λ t. t c.args.variable ≡ instance (arguments t c.args.parameters.base c.args.parameters.count) c.args.of.now)
    (λ t. t c.args.variable ≡ value t c.in_ok-term.term) c.in_ok-term.ensures.grows
    (λ t u same f. same c.args.variable c.requires.variable ∙ f ∙ sym (instance_kept (length c.args.slots.now.items) t u c.args.parameters.base c.args.parameters.count c.args.of.now c.requires.parameters same))
    (λ t m f. f ∙ sym (c.in_ok-term.ensures.is t m))
    (λ t m e. e ∙ c.in_ok-term.ensures.is t m)
    g)
    c.has.ensures
