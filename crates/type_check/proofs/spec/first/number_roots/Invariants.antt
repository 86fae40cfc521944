use Rattle.type_check.specs.Known.{IsKeyed, listed}
use Rattle.type_check.specs.Numbered.{AreNumbered}
use Rattle.type_check.proofs.spec.first.number_roots.Given as goal

abbrev pub invariant-loop-one : goal.invariant-loop-one
invariant-loop-one l = record {
  keyed : IsKeyed l.known;
  numbered : AreNumbered (listed l.known) l.judged l.roots.items l.one-index;
}
