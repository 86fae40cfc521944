use Rattle.std.proofs.Common.{◌+◌, Option, sym, ◌∙◌, ap, subst, arith}
use Rattle.std.specs.Option.{option_map}
use Rattle.std.specs.Map.Iter.{deref_pair}
use Rattle.base.specs.declared.span.Span.{Span}
use Rattle.program.specs.Order.{IsFirstOrNone}
use Rattle.body_types.specs.Firsts.{FirstsBreak}
use Rattle.body_types.proofs.Firsts.{all_functions, next_function, no_function, nothing_there}
use Rattle.body_types.proofs.barred_uses.first.first_barred.Goals as goal
use Rattle.body_types.proofs.barred_uses.first.first_barred.Goals.{in-Some+in_ok-is_barred, in_default}

pub loop-number-init : goal.loop-number-init
loop-number-init c = no_function c.args.program.now

pub loop-number-preserved : goal.loop-number-preserved
loop-number-preserved c =
    let program = c.args.program.now in
    let n = c.loop-number.number in
    elim c.match-entry.branch [
      | in-Some+in_ok-is_barred w ↦
          subst (λ (o : Option Span). IsFirstOrNone (FirstsBreak program (n + 1)) o) (sym w.found-is)
          (next_function program n w.in-Some.id.now w.in-Some.function.now (sym w.in-Some.ensures) w.in_ok-is_barred.is_barred c.loop-number.found w.span_if-next.result w.earlier-found.result
          w.in_ok-is_barred.ensures w.span_if-next.ensures c.loop-number.invariant w.earlier-found.ensures)
      | in_default w ↦ absurd (nothing_there program.functions n (omega arith) (sym (ap (option_map deref_pair) w.in_default.is) ∙ c.entry.ensures))
    ]

pub returns : goal.returns
returns c = all_functions c.args.program.now c.loop-number.number c.loop-number.found (omega arith) c.loop-number.invariant
