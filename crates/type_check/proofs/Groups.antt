-- The first faults of a group of declarations, one by one, rule by rule.
use Rattle.std.proofs.Common.{◌≡◌, ℕ, ◌+◌, ◌≤◌, List, [], length, take, Option, Some, None, sym, subst}
use Rattle.std.specs.Prelude.{slice_get}
use Rattle.std.specs.Bool.{Decides}
use Rattle.base.specs.declared.span.Span.{Span}
use Rattle.program.specs.Order.{IsFirstOrNone}
use Rattle.type_check.specs.Split.{OneAt}
use Rattle.type_check.specs.CodeFaults.{AreEarlier, AreFaults, span_if}
use Rattle.type_check.specs.declared.code.faults.CodeFaults.{CodeFaults}
use Rattle.type_check.specs.declared.code.judged.BrokenRules.{BrokenRules}
use Rattle.type_check.proofs.CodeFirsts.{next, none_yet, of_all}

module _ {A : Type 0} (span_of : A → Span) (Breaks IsOpen : A → Type 0) where
  abbrev pub AreFaultsOf : List A → CodeFaults → Type 0
  AreFaultsOf xs faults = AreFaults (OneAt span_of Breaks xs) (OneAt span_of IsOpen xs) faults

  pub none_in : (faults : CodeFaults) → faults.untyped ≡ None → faults.unsettled ≡ None → AreFaultsOf [] faults
  none_in faults a b = record {
    untyped = subst (λ (o : Option Span). IsFirstOrNone (OneAt span_of Breaks []) o) (sym a) (none_yet span_of Breaks);
    unsettled = subst (λ (o : Option Span). IsFirstOrNone (OneAt span_of IsOpen []) o) (sym b) (none_yet span_of IsOpen);
  }

  pub next_in : (xs : List A) (n : ℕ) (x : A) (broken : BrokenRules) (found one all : CodeFaults) → slice_get xs n ≡ Some x → Decides broken.untyped (Breaks x) → Decides broken.unsettled (IsOpen x)
      → one.untyped ≡ span_if broken.untyped (span_of x) → one.unsettled ≡ span_if broken.unsettled (span_of x)
      → AreFaultsOf (take n xs) found → AreEarlier found one all → AreFaultsOf (take (n + 1) xs) all
  next_in xs n x broken found one all at breaks ambiguous here too are earlier = record {
    untyped = next span_of Breaks xs n x broken.untyped found.untyped one.untyped all.untyped at breaks here are.untyped earlier.untyped;
    unsettled = next span_of IsOpen xs n x broken.unsettled found.unsettled one.unsettled all.unsettled at ambiguous too are.unsettled earlier.unsettled;
  }

  pub all_in : (xs : List A) (n : ℕ) (found : CodeFaults) → length xs ≤ n → AreFaultsOf (take n xs) found → AreFaultsOf xs found
  all_in xs n found past are = record {
    untyped = of_all span_of Breaks xs n found.untyped past are.untyped;
    unsettled = of_all span_of IsOpen xs n found.unsettled past are.unsettled;
  }
