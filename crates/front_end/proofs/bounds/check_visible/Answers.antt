use Rattle.std.proofs.Common.{refl, sym, subst, Some, None}
use Rattle.front_end.specs.Bounds.{HasBarred}
use Rattle.front_end.specs.FileFault.{IfInFile}
use Rattle.front_end.proofs.VisibleLemmas.{visible_or_first}
use Rattle.front_end.proofs.bounds.check_visible.Goals as goal

pub returns-in-None : goal.returns-in-None
returns-in-None c = visible_or_first c.args.program.now c.in_ok-named.named c.in_ok-typed.typed None c.in_ok-named.ensures c.in_ok-typed.ensures c.in-None.ensures

pub returns-in-Some : goal.returns-in-Some
returns-in-Some c =
    subst (λ fault. IfInFile fault (HasBarred c.args.program.now)) (sym c.breaks.ensures)
    (record {
      span = c.in-Some.span;
      file_is = refl;
      fault_is = refl;
      first = visible_or_first c.args.program.now c.in_ok-named.named c.in_ok-typed.typed (Some c.in-Some.span) c.in_ok-named.ensures c.in_ok-typed.ensures c.in-Some.ensures;
    })
