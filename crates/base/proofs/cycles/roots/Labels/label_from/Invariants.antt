use Rattle.std.proofs.Common.{reverse}
use Rattle.base.specs.Labelling.{IsLabelling, NoneIsOpen, waiting}
use Rattle.base.proofs.cycles.roots.Labels.label_from.Given as goal

abbrev pub invariant-loop-node : goal.invariant-loop-node
invariant-loop-node l = IsLabelling l.sources l.order l.position l.self.labels.items (reverse l.self.work.items) NoneIsOpen

abbrev pub decreases-loop-node : goal.decreases-loop-node
decreases-loop-node l = waiting l.self.labels.items l.self.work.items
