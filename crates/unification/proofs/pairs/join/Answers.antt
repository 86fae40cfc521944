use Rattle.std.proofs.Common.{◌≡◌, ◌∙◌, Bool, length, sym, arith}
use Rattle.std.proofs.lemmas.Result.{IfOk-weaker}
use Rattle.unification.specs.Slots.{value}
use Rattle.unification.proofs.Growing.{grown, grown_said, instance_kept}
use Rattle.unification.specs.Unifiers.{apply}
use Rattle.unification.proofs.pairs.join.Goals as goal

pub returns : goal.returns
returns c = IfOk-weaker c.one.result _ _
    (λ (answer : Bool) g. grown_said
    (λ t. apply c.args.variables t c.args.left.now ≡ apply c.args.variables t c.args.right.now)
    (λ t. value t c.in_ok-first.first ≡ value t c.in_ok-second.second)
    (grown c.in_ok-first.ensures.grows c.in_ok-second.ensures.grows)
    (λ t u same f. instance_kept (length c.args.slots.now.items) t u 0 c.args.variables c.args.left.now (omega (arith, c.requires.variables)) same ∙ f
    ∙ sym (instance_kept (length c.args.slots.now.items) t u 0 c.args.variables c.args.right.now (omega (arith, c.requires.variables)) same))
    (λ t m f. c.in_ok-first.ensures.is t (c.in_ok-second.ensures.grows.back t m tt).0 ∙ f ∙ sym (c.in_ok-second.ensures.is t m))
    (λ t m e. sym (c.in_ok-first.ensures.is t (c.in_ok-second.ensures.grows.back t m tt).0) ∙ e ∙ c.in_ok-second.ensures.is t m)
    g)
    c.one.ensures
