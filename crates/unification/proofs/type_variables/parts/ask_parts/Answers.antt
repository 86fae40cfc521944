use Rattle.std.proofs.Common.{◌≡◌, ◌∙◌, ap, sym}
use Rattle.std.proofs.lemmas.Result.{IfOk-weaker}
use Rattle.base.specs.TypeData.{types_of}
use Rattle.unification.specs.Slots.{value, wrapped, grouped, list_at}
use Rattle.unification.specs.Asks.{Says}
use Rattle.unification.proofs.Asking.{says_said}
use Rattle.unification.proofs.type_variables.parts.ask_parts.Goals as goal

pub returns-in-Made-clause-says : goal.returns-in-Made-clause-says
returns-in-Made-clause-says c = IfOk-weaker c.wrapped_parts.result
    (Says c.args.asks.now.items (λ t. wrapped c.in-Made.wrap (t c.in-Made.part) ≡ value t c.args.right) c.wrapped_parts.new.asks.items)
    (Says c.args.asks.now.items (λ t. value t c.args.left ≡ value t c.args.right) c.wrapped_parts.new.asks.items)
    (says_said c.args.asks.now.items c.wrapped_parts.new.asks.items
    (λ t. wrapped c.in-Made.wrap (t c.in-Made.part) ≡ value t c.args.right) (λ t. value t c.args.left ≡ value t c.args.right)
    (λ t e. sym (ap (value t) c.in-Made.is) ∙ e) (λ t e. ap (value t) c.in-Made.is ∙ e))
    c.wrapped_parts.ensures.says

pub returns-in-Grouped-clause-says : goal.returns-in-Grouped-clause-says
returns-in-Grouped-clause-says c = IfOk-weaker c.grouped_with.result
    (Says c.args.asks.now.items (λ t. grouped c.in-Grouped.group (types_of (list_at t c.in-Grouped.first c.in-Grouped.count)) ≡ value t c.args.right) c.grouped_with.new.asks.items)
    (Says c.args.asks.now.items (λ t. value t c.args.left ≡ value t c.args.right) c.grouped_with.new.asks.items)
    (says_said c.args.asks.now.items c.grouped_with.new.asks.items
    (λ t. grouped c.in-Grouped.group (types_of (list_at t c.in-Grouped.first c.in-Grouped.count)) ≡ value t c.args.right) (λ t. value t c.args.left ≡ value t c.args.right)
    (λ t e. sym (ap (value t) c.in-Grouped.is) ∙ e) (λ t e. ap (value t) c.in-Grouped.is ∙ e))
    c.grouped_with.ensures.says
