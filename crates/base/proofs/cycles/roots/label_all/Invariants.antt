use Rattle.std.proofs.Common.{◌≡◌, []}
use Rattle.base.specs.Labelling.{IsLabelling, NoneIsOpen}
use Rattle.base.proofs.cycles.roots.label_all.Given as goal

abbrev pub invariant-loop-position : goal.invariant-loop-position
invariant-loop-position l = record {
  labels : IsLabelling l.sources l.order l.position l.given.labels.items [] NoneIsOpen;
  work : l.given.work.items ≡ [];
}
