use Rattle.std.proofs.Common.{◌+◌, Option, map, take, sym, ◌∙◌, ap, subst, arith}
use Rattle.std.specs.Option.{option_map}
use Rattle.std.specs.Map.Iter.{deref_pair}
use Rattle.base.specs.declared.span.Span.{Span}
use Rattle.scopes.specs.Visible.{IsFirstBarred, constant_code}
use Rattle.scopes.proofs.Among.{next_entry}
use Rattle.scopes.proofs.Each.{nothing_there}
use Rattle.scopes.proofs.visible.first.first_constant.Goals as goal
use Rattle.scopes.proofs.visible.first.first_constant.Goals.{in-Some+in_ok-next, in_default}

pub loop-number-preserved : goal.loop-number-preserved
loop-number-preserved c =
    let entries = c.args.program.now.constants in
    let n = c.loop-number.number in
    elim c.match-entry.branch [
      | in-Some+in_ok-next w ↦
          subst (λ (o : Option Span). IsFirstBarred c.args.program.now (map constant_code (take (n + 1) entries)) o) (sym w.found-is)
          (next_entry c.args.program.now constant_code entries n (w.in-Some.id.now, w.in-Some.constant.now) c.loop-number.found w.in_ok-next.next w.earlier-found.result
          (sym w.in-Some.ensures) c.loop-number.invariant w.in_ok-next.ensures w.earlier-found.ensures)
      | in_default w ↦ absurd (nothing_there entries n (omega arith) (sym (ap (option_map deref_pair) w.in_default.is) ∙ c.entry.ensures))
    ]
