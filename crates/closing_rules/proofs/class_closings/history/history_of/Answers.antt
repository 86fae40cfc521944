use Rattle.std.proofs.Common.{length, refl, subst}
use Rattle.congruence_closure.specs.Histories.{IsHistory}
use Rattle.closing_rules.proofs.AnswerLemmas.{among_lent}
use Rattle.closing_rules.proofs.class_closings.history.history_of.Goals as goal

pub of_links-requires : goal.of_links-requires
of_links-requires c = among_lent c.args.classes.now c.shown.ensures c.nodes-nodes.result.now c.links-links.result.now c.nodes-nodes.ensures c.links-links.ensures (length c.nodes-nodes.result.now) refl

pub returns : goal.returns
returns c = subst (λ links. IsHistory links (length links) c.in_ok-history.history) c.links-links.ensures c.in_ok-history.ensures
