use Rattle.std.proofs.Common.{ℕ, ◌+◌, List, length, Option, Vec, refl, sym, ◌∙◌, ap, subst, arith}
use Rattle.base.specs.GraphReachability.{IsWithin}
use Rattle.base.proofs.EdgeLemmas.{sources_within}
use Rattle.base.proofs.ReachLemmas.{targets_are, target_within}
use Rattle.base.proofs.OnCycleLemmas.{AreFound, read_cycle, cycle_read, none_found, one_found, not_found, all_found, not_true}
use Rattle.base.proofs.cycles.on_cycle.all_on_cycle.Goals as goal
use Rattle.base.proofs.cycles.on_cycle.all_on_cycle.Goals.{then-is_label_among+in_ok-push, else-is_label_among}

pub walk_all-requires : goal.walk_all-requires
walk_all-requires c = subst (λ (g : List (List ℕ)). IsWithin g) (sym c.sides.ensures.targets) c.sides.ensures.mirrored.within

pub label_all-requires-clause-within : goal.label_all-requires-clause-within
label_all-requires-clause-within c = sources_within c.args.graph.now c.sides.result.1.now c.sides.ensures.mirrored

pub is_label_among-requires : goal.is_label_among-requires
is_label_among-requires c =
    let graph = c.sides.result.0.now in
    let within : IsWithin graph = subst (λ (g : List (List ℕ)). IsWithin g) (sym c.sides.ensures.targets) c.sides.ensures.mirrored.within in
    let t = targets_are graph c.loop-i.i c.index-targets-i.result c.as_slice-in-loop-i.result.now c.loop-i-test.true c.index-targets-i.is c.as_slice-in-loop-i.ensures in
    let g = ap (λ (xs : List (List ℕ)). length xs) c.sides.ensures.targets in
    let v = ap (λ (xs : List (Option ℕ)). length xs) c.as_slice-in-loop-i-2.ensures.value in
    λ k b. target_within graph c.loop-i.i k c.as_slice-in-loop-i.result.now (length c.as_slice-in-loop-i-2.result.now) within t b (v ∙ c.in_ok-labels.ensures.long ∙ c.sides.ensures.mirrored.same ∙ sym g)

pub loop-i-init : goal.loop-i-init
loop-i-init c = subst (λ (items : List ℕ). AreFound c.args.graph.now items 0) (sym c.new-found.ensures.items) (none_found c.args.graph.now)

pub loop-i-preserved : goal.loop-i-preserved
loop-i-preserved c =
    let graph = c.args.graph.now in
    let found = c.loop-i.found.items in
    let i = c.loop-i.i in
    elim c.if-is_label_among.branch [
      | then-is_label_among+in_ok-push w ↦
          subst (λ (v : Vec ℕ _). AreFound graph v.items (i + 1)) (sym w.found-is)
          (subst (λ (items : List ℕ). AreFound graph items (i + 1)) (sym w.in_ok-push.ensures.items)
          (one_found graph found i
          (read_cycle c.args.graph.now c.sides.result.0.now c.sides.result.1.now c.in_ok-walk.walk.marks.items c.in_ok-walk.walk.order.items c.as_slice.result.now c.in_ok-labels.labels.items c.as_slice-in-loop-i-2.result.now c.sides.ensures.targets c.sides.ensures.mirrored c.in_ok-walk.ensures.walk c.in_ok-walk.ensures.seen c.as_slice.ensures.value c.in_ok-labels.ensures c.as_slice-in-loop-i-2.ensures.value c.loop-i.i c.loop-i-test.true c.index-targets-i.result c.as_slice-in-loop-i.result.now c.index-targets-i.is c.as_slice-in-loop-i.ensures c.index.result.now c.index.ensures (w.if-is_label_among.ensures.0 refl))
          c.loop-i.invariant))
      | else-is_label_among w ↦
          subst (λ (v : Vec ℕ _). AreFound graph v.items (i + 1)) (sym w.found-is)
          (not_found graph found i
          (λ o. not_true (w.if-is_label_among.ensures.1 (cycle_read c.args.graph.now c.sides.result.0.now c.sides.result.1.now c.in_ok-walk.walk.marks.items c.in_ok-walk.walk.order.items c.as_slice.result.now c.in_ok-labels.labels.items c.as_slice-in-loop-i-2.result.now c.sides.ensures.targets c.sides.ensures.mirrored c.in_ok-walk.ensures.walk c.in_ok-walk.ensures.seen c.as_slice.ensures.value c.in_ok-labels.ensures c.as_slice-in-loop-i-2.ensures.value c.loop-i.i c.loop-i-test.true c.index-targets-i.result c.as_slice-in-loop-i.result.now c.index-targets-i.is c.as_slice-in-loop-i.ensures c.index.result.now c.index.ensures o)))
          c.loop-i.invariant)
    ]

pub returns : goal.returns
returns c = all_found c.args.graph.now c.loop-i.found.items c.loop-i.i (let e = ap (λ (xs : List (List ℕ)). length xs) c.sides.ensures.targets in let l = c.loop-i-test.false in omega arith) c.loop-i.invariant
