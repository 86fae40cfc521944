use Rattle.std.proofs.Common.{nat_eq, sym, subst, []}
use Rattle.indexmap.specs.IndexMap.{get}
use Rattle.congruence_closure.specs.Numbers.{AreNumbered, AreMadeFor}
use Rattle.congruence_closure.specs.Known.{BranchClassesData, node_in, AreKnown, IsOver, AreInEntries, Keeps}
use Rattle.congruence_closure.proofs.OverLemmas.{known_within, over_entry, still_inside, keeps_known}
use Rattle.congruence_closure.proofs.branch_classes.BranchClasses.with_entry.Goals as goal

pub equated-requires-clause-known : goal.equated-requires-clause-known
equated-requires-clause-known c = subst (λ (d : BranchClassesData). AreKnown c.args.pool.now d.classes.nodes [] (node_in d)) (sym c.self.view_is) c.requires.over.known

pub equated-requires-clause-numbered : goal.equated-requires-clause-numbered
equated-requires-clause-numbered c = subst (λ (d : BranchClassesData). AreNumbered c.args.pool.now d.classes.nodes d.numbers) (sym c.self.view_is) c.requires.over.numbered

pub equated-requires-clause-made_for : goal.equated-requires-clause-made_for
equated-requires-clause-made_for c = subst (λ (d : BranchClassesData). AreMadeFor c.args.pool.now d.classes.nodes d.numbers (node_in d)) (sym c.self.view_is) c.requires.over.made

pub invariant_of-result : goal.invariant_of-result
invariant_of-result c = known_within c.args.pool.now c.in_ok-nodes.nodes.classes.nodes (get nat_eq c.equated.new.known) c.in_ok-nodes.ensures.equated.walked.grown.known

pub returns-clause-over : goal.returns-clause-over
returns-clause-over c =
    let s = c.self.inside in
    let old : BranchClassesData = record { classes = s.nodes.classes; numbers = s.nodes.numbers.items; known = s.known.entries; entries = s.entries.items } in
    let new : BranchClassesData = record { classes = c.in_ok-nodes.nodes.classes; numbers = c.in_ok-nodes.nodes.numbers.items; known = c.equated.new.known.entries; entries = c.push.new.self.items } in
    over_entry c.args.pool.now old new c.args.number (subst (λ (d : BranchClassesData). IsOver c.args.pool.now d) (sym c.self.view_is) c.requires.over) c.in_ok-push.ensures.items c.in_ok-nodes.ensures.equated c.in_ok-nodes.ensures.numbered c.in_ok-nodes.ensures.sides

pub returns-clause-keeps : goal.returns-clause-keeps
returns-clause-keeps c =
    let s = c.self.inside in
    let old : BranchClassesData = record { classes = s.nodes.classes; numbers = s.nodes.numbers.items; known = s.known.entries; entries = s.entries.items } in
    let new : BranchClassesData = record { classes = c.in_ok-nodes.nodes.classes; numbers = c.in_ok-nodes.nodes.numbers.items; known = c.equated.new.known.entries; entries = c.push.new.self.items } in
    subst (λ (d : BranchClassesData). Keeps d new) c.self.view_is (keeps_known old new c.in_ok-nodes.ensures.equated.walked.grown.stays)

pub returns-clause-inside : goal.returns-clause-inside
returns-clause-inside c =
    let s = c.self.inside in
    let old : BranchClassesData = record { classes = s.nodes.classes; numbers = s.nodes.numbers.items; known = s.known.entries; entries = s.entries.items } in
    let new : BranchClassesData = record { classes = c.in_ok-nodes.nodes.classes; numbers = c.in_ok-nodes.nodes.numbers.items; known = c.equated.new.known.entries; entries = c.push.new.self.items } in
    subst (λ (d : BranchClassesData). AreInEntries c.args.pool.now d → AreInEntries c.args.pool.now new) c.self.view_is (still_inside c.args.pool.now old new c.args.number (subst (λ (d : BranchClassesData). IsOver c.args.pool.now d) (sym c.self.view_is) c.requires.over) c.in_ok-push.ensures.items c.in_ok-nodes.ensures.numbered)
