use Rattle.std.proofs.Common.{length, drop}
use Rattle.unification.specs.Grown.{Grows}
use Rattle.type_solver.specs.Equations.{EachSolved, EquationsWithin}
use Rattle.type_solver.proofs.step.apply_all.Given as goal

abbrev pub invariant-loop-equation : goal.invariant-loop-equation
invariant-loop-equation l = record {
  grows : Grows l.fn.slots.items (λ t. EachSolved t l.equations) l.slots.items (λ t. EachSolved t (drop l.equation-index l.equations));
  within : EquationsWithin (length l.slots.items) (drop l.equation-index l.equations);
}
