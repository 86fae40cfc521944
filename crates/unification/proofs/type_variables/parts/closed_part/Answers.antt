use Rattle.std.proofs.Common.{◌≡◌, ◌∙◌, arith, ap, sym}
use Rattle.unification.specs.Slots.{wrapped}
use Rattle.unification.proofs.Asking.{adds_said, wrapped_same, type_size_pos}
use Rattle.unification.proofs.type_variables.parts.closed_part.Goals as goal

pub returns-in_ok-ask_type-in-Some-clause-says : goal.returns-in_ok-ask_type-in-Some-clause-says
returns-in_ok-ask_type-in-Some-clause-says c = adds_said c.args.asks.now.items c.ask_type.new.asks.items
    (λ t. t c.args.part ≡ c.in-Some.inner.now)
    (λ t. wrapped c.args.wrap (t c.args.part) ≡ c.args.of.now)
    (λ t e. wrapped_same c.args.wrap (t c.args.part) c.in-Some.inner.now (e ∙ c.in-Some.ensures.some))
    (λ t e. ap (wrapped c.args.wrap) e ∙ sym c.in-Some.ensures.some)
    c.in_ok-ask_type-in-Some.ensures.adds

pub returns-in-None-clause-less : goal.returns-in-None-clause-less
returns-in-None-clause-less c = omega (arith, type_size_pos c.args.of.now)
