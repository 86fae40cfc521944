use Rattle.std.proofs.Common.{length, nat_eq, refl, sym, subst}
use Rattle.indexmap.specs.IndexMap.{get}
use Rattle.congruence_closure.specs.Histories.{IsHistory}
use Rattle.row_reasoning.proofs.PositionLemmas.{stand_known, other_known, stand_linked, unknown_found}
use Rattle.row_reasoning.proofs.differences.walk.push_unknown.Goals as goal

pub node-from-requires : goal.node-from-requires
node-from-requires c = stand_known c.args.pool.now c.args.choice.classes.now c.args.choice.names.now (get nat_eq c.args.choice.chosen.now) c.args.one c.args.other c.requires.unknown

pub node-to-requires : goal.node-to-requires
node-to-requires c = other_known c.args.pool.now c.args.choice.classes.now c.args.choice.names.now (get nat_eq c.args.choice.chosen.now) c.args.one c.args.other c.requires.unknown

pub path-requires-clause-history : goal.path-requires-clause-history
path-requires-clause-history c = subst (λ ls. IsHistory ls (length ls) c.args.choice.history.now) (sym c.links-links.ensures) c.requires.history

pub path-requires-clause-linked : goal.path-requires-clause-linked
path-requires-clause-linked c = stand_linked c.args.pool.now c.args.choice.classes.now c.args.choice.names.now (get nat_eq c.args.choice.chosen.now) c.args.one c.args.other c.node-from.result c.node-to.result (length c.links-links.result.now) c.links-links.result.now c.requires.unknown c.node-from.ensures.found c.node-to.ensures.found c.links-links.ensures refl

pub returns : goal.returns
returns c = unknown_found c.args.pool.now c.args.choice.classes.now c.args.choice.names.now (get nat_eq c.args.choice.chosen.now) c.requires.over c.args.way.items c.args.one c.args.other c.requires.position c.requires.unknown
    (record { way = c.args.way; from = c.node-from.result; to = c.node-to.result; route = c.in_ok-route.route }) (length c.links-links.result.now) c.links-links.result.now c.args.found.now.items c.push.new.self.items refl c.node-from.ensures.found c.node-to.ensures.found c.links-links.ensures refl c.in_ok-route.ensures c.in_ok-push.ensures.items
