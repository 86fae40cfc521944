use Rattle.congruence_closure.proofs.WalkLemmas.{leaf_by, bound_by}
use Rattle.congruence_closure.proofs.NumberLemmas.{leaf_numbered, bound_numbered}
use Rattle.congruence_closure.proofs.branch_classes.leaves.add_leaf.Goals as goal

pub returns-in_ok-parameter-in-Some-clause-added :
    goal.returns-in_ok-parameter-in-Some-clause-added
returns-in_ok-parameter-in-Some-clause-added c = bound_by c.args.nodes.now.classes.nodes c.add.new.nodes.classes.nodes c.add-in-Some.new.nodes.classes.nodes c.args.bound.now c.args.head c.in-Some.n c.in_ok-parameter-in-Some.parameter c.add-in-Some.result c.requires.nodes c.in-Some.ensures c.in_ok-parameter-in-Some.ensures.number c.in_ok-parameter-in-Some.ensures.nodes c.add-in-Some.ensures.number c.add-in-Some.ensures.nodes

pub returns-in-None-clause-added : goal.returns-in-None-clause-added
returns-in-None-clause-added c = leaf_by c.args.nodes.now.classes.nodes c.add-in-None.new.nodes.classes.nodes c.args.bound.now c.args.head c.add-in-None.result c.requires.nodes c.in-None.ensures c.add-in-None.ensures.number c.add-in-None.ensures.nodes

pub returns-in_ok-parameter-in-Some-clause-numbered :
    goal.returns-in_ok-parameter-in-Some-clause-numbered
returns-in_ok-parameter-in-Some-clause-numbered c = bound_numbered c.args.nodes.now.classes.nodes c.add.new.nodes.classes.nodes c.add-in-Some.new.nodes.classes.nodes c.args.nodes.now.numbers.items c.add.new.nodes.numbers.items c.add-in-Some.new.nodes.numbers.items c.args.bound.now c.args.number c.in-Some.n c.in_ok-parameter-in-Some.parameter c.args.head c.add-in-Some.result c.in-Some.ensures c.in_ok-parameter-in-Some.ensures.number c.in_ok-parameter-in-Some.ensures.nodes c.in_ok-parameter-in-Some.ensures.numbers c.add-in-Some.ensures.number c.add-in-Some.ensures.nodes c.add-in-Some.ensures.numbers

pub returns-in-None-clause-numbered : goal.returns-in-None-clause-numbered
returns-in-None-clause-numbered c = leaf_numbered c.args.nodes.now.classes.nodes c.add-in-None.new.nodes.classes.nodes c.args.nodes.now.numbers.items c.add-in-None.new.nodes.numbers.items c.args.number c.args.head c.add-in-None.result c.add-in-None.ensures.number c.add-in-None.ensures.nodes c.add-in-None.ensures.numbers
