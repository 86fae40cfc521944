use Rattle.std.proofs.Common.{arith, ◌≡◌, ℕ, ◌<◌, inl, List, ◌∷◌, length, reverse, get_or, set, Some, None, refl, sym, ◌∙◌, ap, subst}
use Rattle.std.proofs.lemmas.List.{get_or_read}
use Rattle.base.specs.Labelling.{label, IsIn, NoneIsOpen, IsLabelling}
use Rattle.base.proofs.ReachLemmas.{reverse_push}
use Rattle.base.proofs.LabelLemmas.{label_root, label_skip, labelled_within, none_of, some_of}
use Rattle.base.proofs.cycles.roots.Labels.label_from.Goals as goal

pub returns-then-is_some-clause-labels : goal.returns-then-is_some-clause-labels
returns-then-is_some-clause-labels c =
    let labels = c.args.self.now.labels.items in
    let root = get_or c.args.order.now c.args.position 0 in
    let long = c.requires.labels.long in
    let number = c.requires.numbers c.args.position c.requires.position in
    let inside : get_or c.args.order.now c.args.position 0 < length c.args.self.now.labels.items = omega arith in
    let read : c.index.result.now ≡ label labels root = get_or_read labels root _ inside c.index.ensures None in
    let had = some_of _ (sym c.if-is_some.ensures) in
    label_skip c.args.sources.now c.args.order.now c.args.position labels c.requires.position c.requires.labels had.0 (sym read ∙ had.1)

pub loop-node-init : goal.loop-node-init
loop-node-init c =
    let sources = c.args.sources.now in
    let order = c.args.order.now in
    let position = c.args.position in
    let labels = c.args.self.now.labels.items in
    let root = get_or c.args.order.now c.args.position 0 in
    let long = c.requires.labels.long in
    let number = c.requires.numbers c.args.position c.requires.position in
    let inside : get_or c.args.order.now c.args.position 0 < length c.args.self.now.labels.items = omega arith in
    let read : c.index.result.now ≡ label labels root = get_or_read labels root _ inside c.index.ensures None in
    let fresh : label labels root ≡ None = sym read ∙ none_of _ (sym c.if-is_some.ensures) in
    let e = reverse_push c.args.self.now.work.items c.push.new.self.items root c.in_ok-push.ensures.items ∙ ap (λ (p : List ℕ). root ∷ reverse p) c.requires.work in
    subst (λ (p : List ℕ). IsLabelling sources order position (set labels root (Some position)) p NoneIsOpen) (sym e) (label_root sources order position labels c.requires.position c.requires.labels number fresh)

pub label_next-requires-clause-node : goal.label_next-requires-clause-node
label_next-requires-clause-node c =
    let work = reverse c.loop-node.self.work.items in
    let e = reverse_push c.pop.new.self.items c.loop-node.self.work.items c.in-Some.node c.in-Some.ensures.items in
    let h = c.loop-node.invariant.pending c.in-Some.node (subst (λ (p : List ℕ). IsIn c.in-Some.node p) (sym e) (inl refl)) in
    let b = labelled_within c.loop-node.self.labels.items c.in-Some.node c.args.position h in
    let long = c.loop-node.invariant.long in
    omega arith
