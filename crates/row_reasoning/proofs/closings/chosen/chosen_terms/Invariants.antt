use Rattle.std.proofs.Common.{take, nat_eq}
use Rattle.indexmap.specs.IndexMap.{get}
use Rattle.row_reasoning.specs.Shallowest.{AreShallowest}
use Rattle.row_reasoning.proofs.closings.chosen.chosen_terms.Given as goal

abbrev pub invariant-loop-term : goal.invariant-loop-term
invariant-loop-term l = AreShallowest l.pool l.names (take l.term-index l.terms) (get nat_eq l.chosen)
