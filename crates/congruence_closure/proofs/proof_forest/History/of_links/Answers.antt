use Rattle.congruence_closure.proofs.StepLemmas.{begun}
use Rattle.congruence_closure.proofs.proof_forest.History.of_links.Goals as goal

pub loop-number-init : goal.loop-number-init
loop-number-init c = record {
  long = c.in_ok-history.ensures.long;
  history = begun c.args.links.now c.args.count c.in_ok-history.history c.in_ok-history.ensures;
}
