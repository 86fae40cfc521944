use Rattle.std.proofs.Common.{◌≡◌, ◌∙◌, ap, sym, refl}
use Rattle.std.proofs.lemmas.Result.{IfOk-weaker}
use Rattle.unification.specs.Slots.{value, wrapped}
use Rattle.unification.specs.Asks.{Says}
use Rattle.unification.proofs.Asking.{adds_said, says_said, wrapped_same}
use Rattle.unification.proofs.type_variables.parts.wrapped_parts.Goals as goal

pub returns-in_ok-ask-in-Made-clause-says : goal.returns-in_ok-ask-in-Made-clause-says
returns-in_ok-ask-in-Made-clause-says c = adds_said c.args.asks.now.items c.ask.new.asks.items
    (λ t. t c.args.part ≡ t c.in-Made.variable)
    (λ t. wrapped c.args.wrap (t c.args.part) ≡ value t c.args.other)
    (λ t e. wrapped_same c.args.wrap (t c.args.part) (t c.in-Made.variable) (e ∙ ap (value t) c.in-Made.is ∙ ap (λ w. wrapped w (t c.in-Made.variable)) (sym (c.if-same_wrap.ensures.0 refl))))
    (λ t e. ap (wrapped c.args.wrap) e ∙ ap (λ w. wrapped w (t c.in-Made.variable)) (c.if-same_wrap.ensures.0 refl) ∙ sym (ap (value t) c.in-Made.is))
    c.in_ok-ask-in-Made.ensures.adds

pub returns-in-Closed-clause-says : goal.returns-in-Closed-clause-says
returns-in-Closed-clause-says c = IfOk-weaker c.closed_part.result
    (Says c.args.asks.now.items (λ t. wrapped c.args.wrap (t c.args.part) ≡ c.in-Closed.of.now) c.closed_part.new.asks.items)
    (Says c.args.asks.now.items (λ t. wrapped c.args.wrap (t c.args.part) ≡ value t c.args.other) c.closed_part.new.asks.items)
    (says_said c.args.asks.now.items c.closed_part.new.asks.items
    (λ t. wrapped c.args.wrap (t c.args.part) ≡ c.in-Closed.of.now) (λ t. wrapped c.args.wrap (t c.args.part) ≡ value t c.args.other)
    (λ t e. e ∙ ap (value t) c.in-Closed.is) (λ t e. e ∙ sym (ap (value t) c.in-Closed.is)))
    c.closed_part.ensures.says
