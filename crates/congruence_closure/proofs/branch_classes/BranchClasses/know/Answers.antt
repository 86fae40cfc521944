use Rattle.std.proofs.Common.{nat_eq, refl, sym, subst, []}
use Rattle.indexmap.specs.IndexMap.{get}
use Rattle.congruence_closure.specs.Numbers.{AreNumbered, AreMadeFor}
use Rattle.congruence_closure.specs.Known.{BranchClassesData, node_in, AreKnown, IsOver, Keeps}
use Rattle.congruence_closure.proofs.OverLemmas.{known_within, over_walked, keeps_known}
use Rattle.congruence_closure.proofs.branch_classes.BranchClasses.know.Goals as goal

pub node_of-requires-clause-known : goal.node_of-requires-clause-known
node_of-requires-clause-known c = subst (λ (d : BranchClassesData). AreKnown c.args.pool.now d.classes.nodes [] (node_in d)) (sym c.self.view_is) c.requires.over.known

pub node_of-requires-clause-numbered : goal.node_of-requires-clause-numbered
node_of-requires-clause-numbered c = subst (λ (d : BranchClassesData). AreNumbered c.args.pool.now d.classes.nodes d.numbers) (sym c.self.view_is) c.requires.over.numbered

pub node_of-requires-clause-made_for : goal.node_of-requires-clause-made_for
node_of-requires-clause-made_for c = subst (λ (d : BranchClassesData). AreMadeFor c.args.pool.now d.classes.nodes d.numbers (node_in d)) (sym c.self.view_is) c.requires.over.made

pub invariant_of-result : goal.invariant_of-result
invariant_of-result c = known_within c.args.pool.now c.node_of.new.nodes.classes.nodes (get nat_eq c.node_of.new.known) c.in_ok-node_of.ensures.walked.grown.known

pub returns-clause-over : goal.returns-clause-over
returns-clause-over c =
    let s = c.self.inside in
    let old : BranchClassesData = record { classes = s.nodes.classes; numbers = s.nodes.numbers.items; known = s.known.entries; entries = s.entries.items } in
    let new : BranchClassesData = record { classes = c.node_of.new.nodes.classes; numbers = c.node_of.new.nodes.numbers.items; known = c.node_of.new.known.entries; entries = s.entries.items } in
    over_walked c.args.pool.now old new c.args.number c.in_ok-node_of.field-0 (subst (λ (d : BranchClassesData). IsOver c.args.pool.now d) (sym c.self.view_is) c.requires.over) c.in_ok-node_of.ensures.equations refl c.in_ok-node_of.ensures.walked c.in_ok-node_of.ensures.numbered

pub returns-clause-keeps : goal.returns-clause-keeps
returns-clause-keeps c =
    let s = c.self.inside in
    let old : BranchClassesData = record { classes = s.nodes.classes; numbers = s.nodes.numbers.items; known = s.known.entries; entries = s.entries.items } in
    let new : BranchClassesData = record { classes = c.node_of.new.nodes.classes; numbers = c.node_of.new.nodes.numbers.items; known = c.node_of.new.known.entries; entries = s.entries.items } in
    subst (λ (d : BranchClassesData). Keeps d new) c.self.view_is (keeps_known old new c.in_ok-node_of.ensures.walked.grown.stays)
