use Rattle.std.proofs.Common.{◌≡◌, ◌≤◌, reverse, Some}
use Rattle.base.specs.Labelling.{IsLabelling, IsFrom, label, waiting}
use Rattle.base.proofs.cycles.roots.Labels.label_next.Given as goal

abbrev pub invariant-loop-source : goal.invariant-loop-source
invariant-loop-source l = record {
  labels : IsLabelling l.sources l.order l.position l.self.labels.items (reverse l.self.work.items) (IsFrom l.node l.source-index);
  own : label l.self.labels.items l.node ≡ Some l.position;
  less : waiting l.self.labels.items l.self.work.items ≤ waiting l.fn.self.labels.items l.fn.self.work.items;
}
