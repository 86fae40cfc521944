use Rattle.std.proofs.Common.{◌≡◌, ◌∙◌, List, arith, ap, sym, length}
use Rattle.base.specs.TypeData.{TypeData, types_of}
use Rattle.unification.specs.Slots.{grouped, list_at}
use Rattle.unification.proofs.Asking.{adds_said, grouped_same, type_size_pos, length-list_at}
use Rattle.unification.proofs.type_variables.parts.closed_parts.Goals as goal

pub returns-in_ok-ask_types-in-Some-clause-says : goal.returns-in_ok-ask_types-in-Some-clause-says
returns-in_ok-ask_types-in-Some-clause-says c = adds_said c.args.asks.now.items c.ask_types.new.asks.items
    (λ t. list_at t c.args.first (length c.in-Some.types.now) ≡ c.in-Some.types.now)
    (λ t. grouped c.args.group (types_of (list_at t c.args.first c.args.count)) ≡ c.args.of.now)
    (λ t e. ap (list_at t c.args.first) c.if-types-count.true ∙ grouped_same c.args.group (list_at t c.args.first c.args.count) c.in-Some.types.now (e ∙ c.in-Some.ensures.some))
    (λ t e. ap (λ (ts : List TypeData). grouped c.args.group (types_of ts)) (ap (list_at t c.args.first) (sym c.if-types-count.true) ∙ e) ∙ sym c.in-Some.ensures.some)
    c.in_ok-ask_types-in-Some.ensures.adds

pub returns-else-types-count-clause-says : goal.returns-else-types-count-clause-says
returns-else-types-count-clause-says c t e = c.if-types-count.false
    (ap length (sym (grouped_same c.args.group (list_at t c.args.first c.args.count) c.in-Some.types.now (e ∙ c.in-Some.ensures.some))) ∙ length-list_at t c.args.first c.args.count)

pub returns-in-None-clause-less : goal.returns-in-None-clause-less
returns-in-None-clause-less c = omega (arith, type_size_pos c.args.of.now)
