use Rattle.indexmap.specs.IndexMap.{get}
use Rattle.term_pool.specs.NodeCodes.{same_node}
use Rattle.congruence_closure.specs.Signatures.{class_in}
use Rattle.congruence_closure.specs.States.{AreEntered}
use Rattle.congruence_closure.proofs.TableLemmas.{IsAmongFirst}
use Rattle.congruence_closure.proofs.classes.table.enter_each.Given as goal

abbrev pub invariant-loop-number : goal.invariant-loop-number
invariant-loop-number l = record {
  entered : AreEntered l.nodes (class_in l.classes) (get same_node l.fn.table) l.fn.waiting.items (get same_node l.table) l.waiting.items (IsAmongFirst l.numbers l.number-index);
}
