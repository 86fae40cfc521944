use Rattle.std.proofs.Common.{◌≡◌, [], take}
use Rattle.congruence_closure.proofs.classes.Classes.of.Given as goal

abbrev pub invariant-loop-node : goal.invariant-loop-node
invariant-loop-node l = record {
  nodes : l.classes.nodes ≡ take l.node-index l.nodes;
  equations : l.classes.equations ≡ [];
}

abbrev pub invariant-loop-equation : goal.invariant-loop-equation
invariant-loop-equation l = record {
  nodes : l.classes.nodes ≡ l.nodes;
  equations : l.classes.equations ≡ take l.equation-index l.equations;
}
