use Rattle.std.proofs.Common.{Option, subst}
use Rattle.base.specs.declared.span.Span.{Span}
use Rattle.program.specs.Order.{IsFirstOrNone}
use Rattle.typing_rules.specs.Faults.{BreaksTyping, IsUnsettled}
use Rattle.type_check.proofs.typing.determined_by.Goals as goal

pub returns-in-None-Some-clause-determined : goal.returns-in-None-Some-clause-determined
returns-in-None-Some-clause-determined c = λ program untyped unsettled. (
  subst (λ (o : Option Span). IsFirstOrNone (BreaksTyping program) o) c.in-None-Some.is-0 untyped,
  subst (λ (o : Option Span). IsFirstOrNone (IsUnsettled program) o) c.in-None-Some.is-1 unsettled,
)

pub returns-in-None-None-clause-determined : goal.returns-in-None-None-clause-determined
returns-in-None-None-clause-determined c = λ program untyped unsettled. record {
  typed = subst (λ (o : Option Span). IsFirstOrNone (BreaksTyping program) o) c.in-None-None.is-0 untyped;
  settled = subst (λ (o : Option Span). IsFirstOrNone (IsUnsettled program) o) c.in-None-None.is-1 unsettled;
}
