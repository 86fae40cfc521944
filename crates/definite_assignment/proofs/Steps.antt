-- The first function that breaks a rule, function by function, and the fault.
use Rattle.std.proofs.Common.{◌≡◌, ℕ, ◌+◌, ◌≤◌, Bool, [], length, take, Option, Some, None, if◌then◌else◌}
use Rattle.std.specs.Prelude.{◌↔◌, IsTrue, slice_get}
use Rattle.base.specs.declared.span.Span.{Span}
use Rattle.base.specs.declared.types.FunctionId.{FunctionId}
use Rattle.program.specs.declared.declaration.Function.{Function}
use Rattle.program.specs.declared.program.Program.{Program}
use Rattle.program.specs.Order.{IsFirstOrNone, IsEarlier}
use Rattle.typing_rules.specs.Events.{Rule, Unassigned, Undropped}
use Rattle.definite_assignment.specs.Flow.{BreaksAmong, BreaksLocals, FlowSays, FunctionBreaks, fault_of}
use Rattle.definite_assignment.proofs.Firsts.{next, none_yet, of_all}

abbrev span_of : (FunctionId × Function) → Span
span_of d = d.1.span

module _ (program : Program) (rule : Rule) where
  abbrev IsSo : (FunctionId × Function) → Type 0
  IsSo d = FunctionBreaks program rule d.1

  pub no_function : IsFirstOrNone (BreaksAmong program rule []) None
  no_function = none_yet span_of IsSo

  pub next_function : (n : ℕ) (id : FunctionId) (f : Function) (b : Bool) (found one o : Option Span) → slice_get program.functions n ≡ Some (id, f)
      → (IsTrue b ↔ FunctionBreaks program rule f) → one ≡ (if b then Some f.span else None)
      → IsFirstOrNone (BreaksAmong program rule (take n program.functions)) found → IsEarlier found one o
      → IsFirstOrNone (BreaksAmong program rule (take (n + 1) program.functions)) o
  next_function n id f b found one o at v is first e = next span_of IsSo program.functions n (id, f) b found one o at v is first e

  pub all_functions : (n : ℕ) (found : Option Span) → length program.functions ≤ n → IsFirstOrNone (BreaksAmong program rule (take n program.functions)) found → IsFirstOrNone (BreaksLocals program rule) found
  all_functions n found b first = of_all span_of IsSo program.functions n found b first

neither : (program : Program) (rule : Rule) (span : Span) → ((p : Span) → BreaksLocals program Unassigned p → ⊥) → ((p : Span) → BreaksLocals program Undropped p → ⊥) → BreaksLocals program rule span → ⊥
neither program Unassigned span a b h = a span h
neither program Undropped span a b h = b span h

pub says : (program : Program) (unassigned undropped : Option Span) → IsFirstOrNone (BreaksLocals program Unassigned) unassigned → IsFirstOrNone (BreaksLocals program Undropped) undropped
    → FlowSays program (fault_of unassigned undropped)
says program (Some span) undropped a b = a
says program None (Some span) a b = (a, b)
says program None None a b = λ rule span h. neither program rule span a b h
