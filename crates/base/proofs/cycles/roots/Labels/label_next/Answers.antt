use Rattle.std.proofs.Common.{arith, ◌≡◌, ℕ, ◌<◌, ◌+◌, inl, List, [], length, reverse, get_or, set, Some, None, refl, sym, ◌∙◌, ap, subst}
use Rattle.std.proofs.lemmas.List.{get_or_read}
use Rattle.base.specs.Labelling.{label, IsLabelling, IsFrom}
use Rattle.base.proofs.ReachLemmas.{targets_are, target_within, reverse_push}
use Rattle.base.proofs.LabelLemmas.{label_open, label_close, label_pass, label_source, label_kept, waiting_set, none_of, some_of}
use Rattle.base.proofs.cycles.roots.Labels.label_next.Goals as goal
use Rattle.base.proofs.cycles.roots.Labels.label_next.Goals.{then-is_none+in_ok-push, else-is_none}

pub loop-source-init : goal.loop-source-init
loop-source-init c = record {
  labels = label_open c.args.sources.now c.args.order.now c.args.position c.args.self.now.labels.items c.args.node (reverse c.args.self.now.work.items) c.requires.labels;
  own = c.requires.labels.pending c.args.node (inl refl);
  less = omega arith;
}

pub index-requires : goal.index-requires
index-requires c =
    let t = targets_are c.args.sources.now c.args.node c.index-sources-node.result c.as_slice-source-items.result.now c.requires.node c.index-sources-node.is c.as_slice-source-items.ensures in
    let l = c.loop-source-test.true in
    let r = target_within c.args.sources.now c.args.node c.loop-source.source-index c.as_slice-source-items.result.now (length c.loop-source.self.labels.items) c.requires.within t l c.loop-source.invariant.labels.long in
    omega arith

pub index_mut-requires : goal.index_mut-requires
index_mut-requires c =
    let t = targets_are c.args.sources.now c.args.node c.index-sources-node.result c.as_slice-source-items.result.now c.requires.node c.index-sources-node.is c.as_slice-source-items.ensures in
    let l = c.loop-source-test.true in
    let r = target_within c.args.sources.now c.args.node c.loop-source.source-index c.as_slice-source-items.result.now (length c.loop-source.self.labels.items) c.requires.within t l c.loop-source.invariant.labels.long in
    omega arith

pub loop-source-preserved : goal.loop-source-preserved
loop-source-preserved c =
    let sources = c.args.sources.now in
    let order = c.args.order.now in
    let node = c.args.node in
    let position = c.args.position in
    let slice = c.as_slice-source-items.result.now in
    let labels = c.loop-source.self.labels.items in
    let work = reverse c.loop-source.self.work.items in
    let next = c.loop-source.source-index in
    let source = get_or slice next 0 in
    let inv = c.loop-source.invariant in
    let t = targets_are sources node c.index-sources-node.result slice c.requires.node c.index-sources-node.is c.as_slice-source-items.ensures in
    let q = ap (λ (xs : List ℕ). length xs) t in
    let l = c.loop-source-test.true in
    let m : c.loop-source.source-index < length (get_or c.args.sources.now c.args.node []) = omega arith in
    let inside = target_within sources node next slice (length labels) c.requires.within t l inv.labels.long in
    let is : get_or (get_or sources node []) next 0 ≡ source = ap (λ (xs : List ℕ). get_or xs next 0) (sym t) in
    let read : c.index.result.now ≡ label labels source = get_or_read labels source _ inside c.index.ensures None in
    elim c.if-is_none.branch [
      | then-is_none+in_ok-push w ↦ (
          let fresh : label labels source ≡ None = sym read ∙ none_of _ w.if-is_none.ensures in
          let e = reverse_push c.loop-source.self.work.items w.push.new.self.items source w.in_ok-push.ensures.items in
          let less = waiting_set labels c.loop-source.self.work.items w.push.new.self.items source position inside fresh w.in_ok-push.ensures.items in
          let before = inv.less in
          rw w.self-is (record {
            labels = subst (λ (p : List ℕ). IsLabelling sources order position (set labels source (Some position)) p (IsFrom node (next + 1))) (sym e) (label_source sources order position labels node work next source inv.own m is inside fresh inv.labels);
            own = label_kept labels source node position position fresh inv.own;
            less = omega arith;
          }))
      | else-is_none w ↦ (
          let had = some_of _ w.if-is_none.ensures in
          let h : label labels (get_or (get_or sources node []) next 0) ≡ Some had.0 = ap (λ (x : ℕ). label labels x) is ∙ sym read ∙ had.1 in
          rw w.self-is (record {
            labels = label_pass sources order position labels node work next had.0 inv.own h inv.labels;
            own = inv.own;
            less = inv.less;
          }))
    ]

pub returns-clause-labels : goal.returns-clause-labels
returns-clause-labels c =
    let t = targets_are c.args.sources.now c.args.node c.index-sources-node.result c.as_slice-source-items.result.now c.requires.node c.index-sources-node.is c.as_slice-source-items.ensures in
    let q = ap (λ (xs : List ℕ). length xs) t in
    let l = c.loop-source-test.false in
    label_close c.args.sources.now c.args.order.now c.args.position c.loop-source.self.labels.items c.args.node (reverse c.loop-source.self.work.items) c.loop-source.source-index (omega arith) c.loop-source.invariant.labels
