use Rattle.std.proofs.Common.{◌≡◌, ◌<◌, List, ℕ, Vec, length, get_or, sym, subst}
use Rattle.base.specs.GraphReachability.{IsWithin, AreRoots}
use Rattle.base.specs.Labelling.{label, root_of}
use Rattle.base.proofs.EdgeLemmas.{sources_within}
use Rattle.base.proofs.RootLemmas.{both_ok, roots_read}
use Rattle.base.proofs.cycles.components.component_roots.Goals as goal

pub walk_all-requires : goal.walk_all-requires
walk_all-requires c = subst (λ (g : List (List ℕ)). IsWithin g) (sym c.sides.ensures.targets) c.sides.ensures.mirrored.within

pub label_all-requires-clause-within : goal.label_all-requires-clause-within
label_all-requires-clause-within c = sources_within c.args.graph.now c.sides.result.1.now c.sides.ensures.mirrored

pub returns : goal.returns
returns c =
    let labels = c.as_slice-2.result.now in
    let order = c.as_slice-3.result.now in
    both_ok c.roots_of.result
    (λ (roots : Vec ℕ _). length roots.items ≡ length labels)
    (λ (roots : Vec ℕ _). (i : ℕ) → i < length labels → get_or roots.items i 0 ≡ root_of order (label labels i))
    (λ (roots : Vec ℕ _). AreRoots c.args.graph.now roots.items)
    (λ roots long each.
    roots_read c.args.graph.now c.sides.result.0.now c.sides.result.1.now c.in_ok-walk.walk.marks.items c.in_ok-walk.walk.order.items c.as_slice.result.now order c.in_ok-labels.labels.items labels
    c.sides.ensures.targets c.sides.ensures.mirrored c.in_ok-walk.ensures.walk c.in_ok-walk.ensures.seen c.as_slice.ensures.value c.as_slice-3.ensures.value c.in_ok-labels.ensures c.as_slice-2.ensures.value
    roots.items long each)
    c.roots_of.ensures.len c.roots_of.ensures.roots
