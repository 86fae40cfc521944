use Rattle.std.proofs.Common.{ℕ, ◌<◌, ◌≡◌, pos, IfSome, IfNone}
use Rattle.std.specs.Prelude.{All}
use Rattle.linear_arith.specs.Inequality.{coefficient}
use Rattle.linear_arith.specs.Stages.{IsLeft}
use Rattle.linear_arith.specs.declared.elimination.Derived.{Derived}
use Rattle.linear_arith.proofs.elimination.Elimination.next_unknown.Given as goal

abbrev pub invariant-loop-unknown : goal.invariant-loop-unknown
invariant-loop-unknown l = record {
  some : IfSome l.best (λ best. (best < l.width) × IsLeft l.self.live.items best);
  none : IfNone l.best ((k : ℕ) → k < l.unknown → All (λ (made : Derived). coefficient k made.row ≡ pos 0) l.self.live.items);
}
