-- First spans, rule by rule.
use Rattle.std.specs.Prelude.{Option, Some, None, if◌then◌else◌, Bool}
use Rattle.base.specs.declared.span.Span.{Span}
use Rattle.program.specs.Order.{IsFirstOrNone, IsEarlier}
use Rattle.type_check.specs.declared.code.faults.CodeFaults.{CodeFaults}

-- the first span of those that have no typing, and of those that are ambiguous
pub record AreFaults (Untyped Unsettled : Span → Type 0) (faults : CodeFaults) : Type 0 where
  pub untyped : IsFirstOrNone Untyped faults.untyped
  pub unsettled : IsFirstOrNone Unsettled faults.unsettled

-- of two, rule by rule, the earlier span
pub record AreEarlier (left right found : CodeFaults) : Type 0 where
  pub untyped : IsEarlier left.untyped right.untyped found.untyped
  pub unsettled : IsEarlier left.unsettled right.unsettled found.unsettled

-- the span, if a rule is broken
abbrev pub span_if : Bool → Span → Option Span
span_if broken span = if broken then Some span else None
