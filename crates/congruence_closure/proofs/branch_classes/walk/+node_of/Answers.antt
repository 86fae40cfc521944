use Rattle.std.proofs.Common.{◌-◌, ◌∙◌, sym, subst, nat_eq, arith}
use Rattle.std.proofs.lemmas.List.Elements.{All-get_or}
use Rattle.indexmap.specs.IndexMap.{get}
use Rattle.congruence_closure.proofs.WalkLemmas.{grown_then, leaf_walked, quantified_walked, noted, one_walked, pair_within, two_walked, triple_within, three_walked, quantified_added}
use Rattle.congruence_closure.specs.Numbers.{StandsIn}
use Rattle.congruence_closure.proofs.NumberLemmas.{known_then, found_made, leaf_known, known_of_new, noted_made, one_numbered, two_numbered, three_numbered, quantified_numbered}
use Rattle.congruence_closure.proofs.branch_classes.walk.+node_of.Goals as goal

pub make-returns-in-Some-Leaf-clause-walked : goal.make-returns-in-Some-Leaf-clause-walked
make-returns-in-Some-Leaf-clause-walked t c = leaf_walked c.args.pool.now c.args.bound.now c.args.number c.args.nodes.now.classes.nodes c.add_leaf.new.nodes.classes.nodes c.in-Some-Leaf.head c.in-Some-Leaf.field-0 (get nat_eq c.args.known.now) c.add_leaf.result c.requires.nodes c.requires.known c.in-Some-Leaf.field-0-is c.in-Some-Leaf.ensures c.add_leaf.ensures.added

pub make-returns-in-Some-clause-walked : goal.make-returns-in-Some-clause-walked
make-returns-in-Some-clause-walked t c = quantified_walked c.args.pool.now c.args.bound.now c.args.number c.args.nodes.now.classes.nodes c.quantified.new.nodes.classes.nodes c.in-Some-Two.head c.in-Some-Two.a c.in-Some-Two.b c.in-Some.n c.in-Some-Two.field-0 (get nat_eq c.args.known.now) c.quantified.result c.requires.nodes c.requires.known c.in-Some-Two.field-0-is c.in-Some-Two.ensures (c.in-Some.ensures c.args.bound.now) c.quantified.ensures.added

pub node_of-returns-clause-walked : goal.node_of-returns-clause-walked
node_of-returns-clause-walked t c = noted c.args.pool.now c.args.bound.now c.args.number c.in_ok-node.node c.args.nodes.now.classes.nodes c.make.new.nodes.classes.nodes (get nat_eq c.args.known.now) (get nat_eq c.make.new.known) (get nat_eq c.note.new.table) (sym c.look_up.ensures ∙ c.in_default.is) c.in_ok-node.ensures.walked c.in_ok-note.ensures

pub one-returns-clause-walked : goal.one-returns-clause-walked
one-returns-clause-walked t c = one_walked c.args.pool.now c.args.bound.now c.args.number c.args.nodes.now.classes.nodes c.node_of.new.nodes.classes.nodes c.add.new.nodes.classes.nodes c.args.head c.args.a c.in_ok-a.a (get nat_eq c.args.known.now) (get nat_eq c.node_of.new.known) c.add.result c.requires.made (grown_then c.in_ok-walk_list.ensures.grown c.in_ok-a.ensures.walked.grown) c.in_ok-a.ensures.walked.is c.in_ok-a.ensures.found c.add.ensures.number c.add.ensures.nodes

pub quantified-add-requires : goal.quantified-add-requires
quantified-add-requires t c = pair_within c.in_ok-a.ensures.walked c.in_ok-b.ensures.walked

pub quantified-returns-clause-added : goal.quantified-returns-clause-added
quantified-returns-clause-added t c = quantified_added c.args.pool.now c.args.outside.now c.as_slice.result.now c.as_slice-2.result.now c.args.number c.args.nodes.now.classes.nodes c.node_of.new.nodes.classes.nodes c.node_of-2.new.nodes.classes.nodes c.add.new.nodes.classes.nodes c.args.head c.args.variable c.args.a c.args.b c.in_ok-a.a c.in_ok-b.b _ _ _ _ c.add.result c.requires.made c.requires.binds (c.as_slice.ensures.value ∙ c.in_ok-bound.ensures) (c.as_slice-2.ensures.value ∙ c.in_ok-bound.ensures) c.in_ok-a.ensures.walked c.in_ok-b.ensures.walked c.add.ensures.number c.add.ensures.nodes

pub three-add-requires : goal.three-add-requires
three-add-requires t c = triple_within c.in_ok-a.ensures.walked c.in_ok-b.ensures.walked c.in_ok-c.ensures.walked

pub three-returns-clause-walked : goal.three-returns-clause-walked
three-returns-clause-walked t c = three_walked c.args.pool.now c.args.bound.now c.args.number c.args.nodes.now.classes.nodes c.node_of.new.nodes.classes.nodes c.node_of-2.new.nodes.classes.nodes c.node_of-3.new.nodes.classes.nodes c.add.new.nodes.classes.nodes c.args.head c.args.a c.args.b c.args.c c.in_ok-a.a c.in_ok-b.b c.in_ok-c.c (get nat_eq c.args.known.now) (get nat_eq c.node_of.new.known) (get nat_eq c.node_of-2.new.known) (get nat_eq c.node_of-3.new.known) c.add.result c.requires.made c.in_ok-a.ensures.walked c.in_ok-a.ensures.found c.in_ok-b.ensures.walked c.in_ok-b.ensures.found c.in_ok-c.ensures.walked c.in_ok-c.ensures.found c.add.ensures.number c.add.ensures.nodes

pub two-add-requires : goal.two-add-requires
two-add-requires t c = pair_within c.in_ok-a.ensures.walked c.in_ok-b.ensures.walked

pub two-returns-clause-walked : goal.two-returns-clause-walked
two-returns-clause-walked t c = two_walked c.args.pool.now c.args.bound.now c.args.number c.args.nodes.now.classes.nodes c.walk_list.new.nodes.classes.nodes c.node_of.new.nodes.classes.nodes c.node_of-2.new.nodes.classes.nodes c.add.new.nodes.classes.nodes c.args.head c.args.a c.args.b c.in_ok-a.a c.in_ok-b.b (get nat_eq c.args.known.now) (get nat_eq c.walk_list.new.known) (get nat_eq c.node_of.new.known) (get nat_eq c.node_of-2.new.known) c.add.result c.requires.made c.requires.plain c.in_ok-walk_list.ensures.grown c.in_ok-a.ensures.walked c.in_ok-a.ensures.found c.in_ok-b.ensures.walked c.in_ok-b.ensures.found c.add.ensures.number c.add.ensures.nodes

pub make-returns-in-Some-Leaf-clause-numbered : goal.make-returns-in-Some-Leaf-clause-numbered
make-returns-in-Some-Leaf-clause-numbered t c = leaf_known c.args.pool.now c.args.number c.args.nodes.now.classes.nodes c.add_leaf.new.nodes.classes.nodes c.args.nodes.now.numbers.items c.add_leaf.new.nodes.numbers.items c.in-Some-Leaf.head c.in-Some-Leaf.field-0 (get nat_eq c.args.known.now) c.add_leaf.result c.requires.numbered c.requires.made_for c.in-Some-Leaf.field-0-is c.in-Some-Leaf.ensures c.add_leaf.ensures.numbered

pub make-returns-in-Some-clause-numbered : goal.make-returns-in-Some-clause-numbered
make-returns-in-Some-clause-numbered t c = known_of_new c.args.pool.now c.args.number c.args.nodes.now.classes.nodes c.quantified.new.nodes.classes.nodes c.args.nodes.now.numbers.items c.quantified.new.nodes.numbers.items (get nat_eq c.args.known.now) c.quantified.result c.requires.numbered c.requires.made_for c.quantified.ensures.numbered

pub node_of-returns-clause-numbered : goal.node_of-returns-clause-numbered
node_of-returns-clause-numbered t c = noted_made c.args.pool.now c.args.number c.in_ok-node.node c.args.nodes.now.classes.nodes c.make.new.nodes.classes.nodes c.args.nodes.now.numbers.items c.make.new.nodes.numbers.items (get nat_eq c.make.new.known) (get nat_eq c.note.new.table) c.in_ok-node.ensures.numbered c.in_ok-note.ensures

pub one-returns-clause-numbered : goal.one-returns-clause-numbered
one-returns-clause-numbered t c = one_numbered c.args.pool.now c.args.number c.args.nodes.now.classes.nodes c.walk_list.new.nodes.classes.nodes c.node_of.new.nodes.classes.nodes c.add.new.nodes.classes.nodes c.args.nodes.now.numbers.items c.walk_list.new.nodes.numbers.items c.node_of.new.nodes.numbers.items c.add.new.nodes.numbers.items c.args.head c.args.a c.in_ok-a.a (get nat_eq c.walk_list.new.known) (get nat_eq c.node_of.new.known) c.add.result c.requires.made c.in_ok-walk_list.ensures.numbered c.in_ok-a.ensures.numbered c.add.ensures.number c.add.ensures.nodes c.add.ensures.numbers

pub two-returns-clause-numbered : goal.two-returns-clause-numbered
two-returns-clause-numbered t c = two_numbered c.args.pool.now c.args.number c.args.nodes.now.classes.nodes c.walk_list.new.nodes.classes.nodes c.node_of.new.nodes.classes.nodes c.node_of-2.new.nodes.classes.nodes c.add.new.nodes.classes.nodes c.args.nodes.now.numbers.items c.walk_list.new.nodes.numbers.items c.node_of.new.nodes.numbers.items c.node_of-2.new.nodes.numbers.items c.add.new.nodes.numbers.items c.args.head c.args.a c.args.b c.in_ok-a.a c.in_ok-b.b (get nat_eq c.walk_list.new.known) (get nat_eq c.node_of.new.known) (get nat_eq c.node_of-2.new.known) c.add.result c.requires.made c.in_ok-walk_list.ensures.numbered c.in_ok-a.ensures.numbered c.in_ok-b.ensures.numbered c.add.ensures.number c.add.ensures.nodes c.add.ensures.numbers

pub three-returns-clause-numbered : goal.three-returns-clause-numbered
three-returns-clause-numbered t c = three_numbered c.args.pool.now c.args.number c.args.nodes.now.classes.nodes c.node_of.new.nodes.classes.nodes c.node_of-2.new.nodes.classes.nodes c.node_of-3.new.nodes.classes.nodes c.add.new.nodes.classes.nodes c.args.nodes.now.numbers.items c.node_of.new.nodes.numbers.items c.node_of-2.new.nodes.numbers.items c.node_of-3.new.nodes.numbers.items c.add.new.nodes.numbers.items c.args.head c.args.a c.args.b c.args.c c.in_ok-a.a c.in_ok-b.b c.in_ok-c.c (get nat_eq c.node_of.new.known) (get nat_eq c.node_of-2.new.known) (get nat_eq c.node_of-3.new.known) c.add.result c.requires.made c.in_ok-a.ensures.numbered c.in_ok-b.ensures.numbered c.in_ok-c.ensures.numbered c.add.ensures.number c.add.ensures.nodes c.add.ensures.numbers

pub quantified-returns-clause-numbered : goal.quantified-returns-clause-numbered
quantified-returns-clause-numbered t c = quantified_numbered c.args.pool.now c.args.number c.args.nodes.now.classes.nodes c.node_of.new.nodes.classes.nodes c.node_of-2.new.nodes.classes.nodes c.add.new.nodes.classes.nodes c.args.nodes.now.numbers.items c.node_of.new.nodes.numbers.items c.node_of-2.new.nodes.numbers.items c.add.new.nodes.numbers.items c.args.head c.args.a c.args.b c.in_ok-a.a c.in_ok-b.b _ _ c.add.result c.requires.made c.in_ok-a.ensures.numbered c.in_ok-b.ensures.numbered c.add.ensures.number c.add.ensures.nodes c.add.ensures.numbers

pub node_of-returns-in-Some-clause-numbered : goal.node_of-returns-in-Some-clause-numbered
node_of-returns-in-Some-clause-numbered t c = found_made c.args.pool.now c.args.number c.in-Some.node c.args.nodes.now.classes.nodes c.args.nodes.now.numbers.items (get nat_eq c.args.known.now) c.requires.numbered c.requires.made_for (sym c.look_up.ensures ∙ c.in-Some.is)

pub walk_list-loop-rest-preserved : goal.walk_list-loop-rest-preserved
walk_list-loop-rest-preserved t c =
    let within = c.loop-rest.invariant.within in
    let some = c.loop-rest-test.true in
    record {
      equations = c.in_ok-node_of.ensures.equations ∙ c.loop-rest.invariant.equations;
      grown = grown_then c.loop-rest.invariant.grown c.in_ok-node_of.ensures.walked.grown;
      numbered = known_then c.loop-rest.invariant.numbered (subst (λ it. StandsIn c.args.pool.now it c.args.list) (sym c.index.ensures) (All-get_or (λ it. StandsIn c.args.pool.now it c.args.list) c.in_ok-lists.lists.items (c.loop-rest.rest - 1) _ (omega (arith, within, some)) c.in_ok-lists.ensures.inside)) c.in_ok-node_of.ensures.numbered.grown;
      within = omega (arith, within, some);
    }
