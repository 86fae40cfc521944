use Rattle.std.proofs.Common.{Option, subst}
use Rattle.base.specs.declared.span.Span.{Span}
use Rattle.program.specs.Order.{IsFirstOrNone}
use Rattle.typing_rules.specs.Faults.{BreaksAbility, BreaksAcquires}
use Rattle.type_check.proofs.typing.check_abilities.Goals as goal

pub returns-in-None : goal.returns-in-None
returns-in-None c =
    let program = c.args.program.now in
    record {
      determined = c.requires.determined;
      able = subst (λ (o : Option Span). IsFirstOrNone (BreaksAbility program) o) c.in_default.is c.in_ok-span.ensures;
      listed = subst (λ (o : Option Span). IsFirstOrNone (BreaksAcquires program) o) c.in-None.is c.in_ok-acquires_fault.ensures;
    }

pub returns-in-Some-2 : goal.returns-in-Some-2
returns-in-Some-2 c =
    let program = c.args.program.now in (
      c.requires.determined,
      subst (λ (o : Option Span). IsFirstOrNone (BreaksAbility program) o) c.in_default.is c.in_ok-span.ensures,
      subst (λ (o : Option Span). IsFirstOrNone (BreaksAcquires program) o) c.in-Some-2.is c.in_ok-acquires_fault.ensures,
    )
