use Rattle.std.proofs.Common.{drop}
use Rattle.axiom_instances.proofs.TemplateLemmas.{Making}
use Rattle.axiom_instances.proofs.template.make.Given as goal

abbrev pub invariant-loop-node : goal.invariant-loop-node
invariant-loop-node l = Making l.fn.pool l.pool l.given l.numbers.items l.nodes (drop l.node-index l.nodes)
