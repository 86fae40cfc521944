use Rattle.std.proofs.Common.{◌≡◌, ◌∙◌, ℕ, List, ap, sym, refl, length}
use Rattle.std.proofs.lemmas.Result.{IfOk-weaker}
use Rattle.base.specs.TypeData.{TypeData, types_of}
use Rattle.unification.specs.Slots.{Typing, value, grouped, list_at}
use Rattle.unification.specs.Asks.{Says}
use Rattle.unification.proofs.Asking.{adds_said, says_said, grouped_same, length-list_at}
use Rattle.unification.proofs.type_variables.parts.grouped_with.Goals as goal
use Rattle.unification.proofs.type_variables.parts.grouped_with.Goals.{else-same_group-via-then-same_group+else-count-number, else-same_group-via-else-same_group}

pub returns-in_ok-ask_variables-in-Grouped-clause-says : goal.returns-in_ok-ask_variables-in-Grouped-clause-says
returns-in_ok-ask_variables-in-Grouped-clause-says c =
    let start = c.in-Grouped.start in
    let same : (t : Typing) → grouped c.args.group (types_of (list_at t start c.args.count)) ≡ value t c.args.other = λ t.
    c.if-same_group.ensures.one refl (types_of (list_at t start c.args.count))
    ∙ ap (λ (n : ℕ). grouped c.in-Grouped.maker (types_of (list_at t start n))) c.if-count-number.true
    ∙ sym (ap (value t) c.in-Grouped.is) in
    adds_said c.args.asks.now.items c.ask_variables.new.asks.items
    (λ t. list_at t c.args.first c.args.count ≡ list_at t start c.args.count)
    (λ t. grouped c.args.group (types_of (list_at t c.args.first c.args.count)) ≡ value t c.args.other)
    (λ t e. grouped_same c.args.group (list_at t c.args.first c.args.count) (list_at t start c.args.count) (e ∙ sym (same t)))
    (λ t e. ap (λ (ts : List TypeData). grouped c.args.group (types_of ts)) e ∙ same t)
    c.in_ok-ask_variables-in-Grouped.ensures.adds

pub returns-else-same_group-clause-says : goal.returns-else-same_group-clause-says
returns-else-same_group-clause-says c t e =
    let f : grouped c.args.group (types_of (list_at t c.args.first c.args.count)) ≡ grouped c.in-Grouped.maker (types_of (list_at t c.in-Grouped.start c.in-Grouped.number)) = e ∙ ap (value t) c.in-Grouped.is in
    elim c.else-same_group.branch [
      | else-same_group-via-then-same_group+else-count-number w ↦ w.if-count-number.false
          (sym (length-list_at t c.args.first c.args.count)
          ∙ ap length (grouped_same c.args.group (list_at t c.args.first c.args.count) (list_at t c.in-Grouped.start c.in-Grouped.number)
          (f ∙ sym (w.if-same_group.ensures.one refl (types_of (list_at t c.in-Grouped.start c.in-Grouped.number)))))
          ∙ length-list_at t c.in-Grouped.start c.in-Grouped.number)
      | else-same_group-via-else-same_group w ↦ w.if-same_group.ensures.none refl (types_of (list_at t c.args.first c.args.count)) (types_of (list_at t c.in-Grouped.start c.in-Grouped.number)) f
    ]

pub returns-in-Closed-clause-says : goal.returns-in-Closed-clause-says
returns-in-Closed-clause-says c = IfOk-weaker c.closed_parts.result
    (Says c.args.asks.now.items (λ t. grouped c.args.group (types_of (list_at t c.args.first c.args.count)) ≡ c.in-Closed.of.now) c.closed_parts.new.asks.items)
    (Says c.args.asks.now.items (λ t. grouped c.args.group (types_of (list_at t c.args.first c.args.count)) ≡ value t c.args.other) c.closed_parts.new.asks.items)
    (says_said c.args.asks.now.items c.closed_parts.new.asks.items
    (λ t. grouped c.args.group (types_of (list_at t c.args.first c.args.count)) ≡ c.in-Closed.of.now) (λ t. grouped c.args.group (types_of (list_at t c.args.first c.args.count)) ≡ value t c.args.other)
    (λ t e. e ∙ ap (value t) c.in-Closed.is) (λ t e. e ∙ sym (ap (value t) c.in-Closed.is)))
    c.closed_parts.ensures.says
