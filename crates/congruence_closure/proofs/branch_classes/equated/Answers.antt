use Rattle.std.proofs.Common.{nat_eq}
use Rattle.indexmap.specs.IndexMap.{get}
use Rattle.congruence_closure.specs.Known.{NoEquation}
use Rattle.congruence_closure.proofs.WalkLemmas.{pair_within}
use Rattle.congruence_closure.proofs.OverLemmas.{equated_by, none_put, sides_put, equation_known}
use Rattle.congruence_closure.proofs.branch_classes.equated.Goals as goal

pub join-requires-clause-left : goal.join-requires-clause-left
join-requires-clause-left c = (pair_within c.in_ok-left-in-Some.ensures.walked c.in_ok-right-in-Some.ensures.walked).0

pub join-requires-clause-right : goal.join-requires-clause-right
join-requires-clause-right c = (pair_within c.in_ok-left-in-Some.ensures.walked c.in_ok-right-in-Some.ensures.walked).1

pub returns-in_ok-right-in-Some-clause-equated : goal.returns-in_ok-right-in-Some-clause-equated
returns-in_ok-right-in-Some-clause-equated c = equated_by c.args.pool.now c.args.number c.in-Some.left c.in-Some.right c.args.before.classes c.node_of.new.nodes.classes c.node_of-in-Some.new.nodes.classes c.node_of-in-Some-2.new.nodes.classes (get nat_eq c.args.known.now) (get nat_eq c.node_of.new.known) (get nat_eq c.node_of-in-Some.new.known) (get nat_eq c.node_of-in-Some-2.new.known) c.in_ok-node_of.field-0 c.in_ok-left-in-Some.left c.in_ok-right-in-Some.right c.join.result c.in-Some.ensures c.in_ok-node_of.ensures.equations c.in_ok-left-in-Some.ensures.equations c.in_ok-right-in-Some.ensures.equations c.in_ok-node_of.ensures.walked c.in_ok-node_of.ensures.found c.in_ok-left-in-Some.ensures.walked c.in_ok-right-in-Some.ensures.walked c.join.ensures.nodes c.join.ensures.equations

pub returns-in_ok-right-in-Some-clause-numbered : goal.returns-in_ok-right-in-Some-clause-numbered
returns-in_ok-right-in-Some-clause-numbered c = equation_known c.args.pool.now c.args.number c.in-Some.left c.in-Some.right c.args.before.classes.nodes c.node_of.new.nodes.classes.nodes c.node_of-in-Some.new.nodes.classes.nodes c.node_of-in-Some-2.new.nodes.classes.nodes c.args.before.numbers.items c.node_of.new.nodes.numbers.items c.node_of-in-Some.new.nodes.numbers.items c.node_of-in-Some-2.new.nodes.numbers.items (get nat_eq c.node_of.new.known) (get nat_eq c.node_of-in-Some.new.known) (get nat_eq c.node_of-in-Some-2.new.known) c.in_ok-node_of.field-0 c.in_ok-left-in-Some.left c.in_ok-right-in-Some.right c.join.result c.in-Some.ensures c.in_ok-node_of.ensures.numbered c.in_ok-left-in-Some.ensures.numbered c.in_ok-right-in-Some.ensures.numbered c.join.ensures.nodes c.join.ensures.numbers

pub returns-in_ok-right-in-Some-clause-sides : goal.returns-in_ok-right-in-Some-clause-sides
returns-in_ok-right-in-Some-clause-sides c = sides_put c.args.pool.now c.args.number c.in-Some.left c.in-Some.right c.node_of.new.nodes.classes.nodes c.node_of-in-Some.new.nodes.classes.nodes c.node_of-in-Some-2.new.nodes.classes.nodes c.node_of.new.nodes.numbers.items c.node_of-in-Some.new.nodes.numbers.items c.node_of-in-Some-2.new.nodes.numbers.items (get nat_eq c.node_of-in-Some.new.known) (get nat_eq c.node_of-in-Some-2.new.known) c.args.before.classes.equations c.node_of.new.nodes.classes.equations c.node_of-in-Some.new.nodes.classes.equations c.node_of-in-Some-2.new.nodes.classes.equations c.in_ok-left-in-Some.left c.in_ok-right-in-Some.right c.join.result c.in-Some.ensures c.in_ok-node_of.ensures.equations c.in_ok-left-in-Some.ensures.equations c.in_ok-right-in-Some.ensures.equations c.in_ok-left-in-Some.ensures.numbered c.in_ok-right-in-Some.ensures.numbered c.join.ensures.nodes c.join.ensures.numbers c.join.ensures.equations

pub returns-in-None-clause-sides : goal.returns-in-None-clause-sides
returns-in-None-clause-sides c = none_put c.args.pool.now c.node_of.new.nodes.classes.nodes c.node_of.new.nodes.numbers.items c.args.number c.args.before.classes.equations c.node_of.new.nodes.classes.equations c.in_ok-node_of.ensures.equations

pub returns-in-None-clause-equated : goal.returns-in-None-clause-equated
returns-in-None-clause-equated c = record {
  node = c.in_ok-node_of.field-0;
  walked = c.in_ok-node_of.ensures.walked;
  found = c.in_ok-node_of.ensures.found;
  equations = NoEquation c.in_ok-node_of.ensures.equations c.in-None.ensures.none;
}
