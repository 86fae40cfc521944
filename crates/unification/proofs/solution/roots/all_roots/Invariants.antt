use Rattle.unification.specs.Roots.{AreRoots}
use Rattle.unification.proofs.solution.roots.all_roots.Given as goal

abbrev pub invariant-loop-variable : goal.invariant-loop-variable
invariant-loop-variable l = AreRoots l.slots l.roots.items l.variable
