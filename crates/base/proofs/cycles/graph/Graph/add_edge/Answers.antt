use Rattle.std.proofs.Common.{ℕ, ◌<◌, ◌-◌, ◌++◌, List, [], ◌∷◌, length, get_or, set, take, sym, ◌∙◌, ap, subst}
use Rattle.std.proofs.lemmas.List.{get_or_read, get_or-set_same}
use Rattle.base.specs.GraphReachability.{AreMirrored}
use Rattle.base.proofs.EdgeLemmas.{mirrored_pushed, restored, unchanged, on_ok, on_err, below_same}
use Rattle.base.proofs.cycles.graph.Graph.add_edge.Goals as goal

pub invariant_of-self-then-is_err : goal.invariant_of-self-then-is_err
invariant_of-self-then-is_err c =
    let targets = c.self.inside.targets.items in
    let sources = c.self.inside.sources.items in
    let to = c.args.to in
    let once = c.push.new.self in
    let size = ap (λ (xs : List (List ℕ)). length xs) c.self.view_is in
    let within : c.args.to < length c.self.inside.sources.items = below_same to (length sources) (length c.args.self.now) (c.self.invariant.same ∙ size) c.requires.to in
    let kept = unchanged targets c.args.from c.index_mut-2.result.now c.push-added.new.self c.index_mut-2.ensures.value (on_err c.push-added.result _ (sym c.if-is_err.ensures.value) c.push-added.ensures.err) in
    let again = c.index_mut-then-is_err.ensures.value ∙ get_or-set_same sources to once c.index_mut-then-is_err.result.now within in
    let back = restored sources to c.index_mut.result.now once c.drop_last.new.self c.args.from within c.index_mut.ensures.value c.in_ok-push.ensures.ok (c.drop_last.ensures ∙ ap (λ (xs : List ℕ). take (length xs - 1) xs) again) in
    subst (λ (g : List (List ℕ)). AreMirrored g (set (set sources to once) to c.drop_last.new.self)) (sym kept)
    (subst (λ (s : List (List ℕ)). AreMirrored targets s) (sym back) c.self.invariant)

pub invariant_of-self-else-is_err : goal.invariant_of-self-else-is_err
invariant_of-self-else-is_err c =
    let targets = c.self.inside.targets.items in
    let sources = c.self.inside.sources.items in
    let from = c.args.from in
    let to = c.args.to in
    let size = ap (λ (xs : List (List ℕ)). length xs) c.self.view_is in
    let f : c.args.from < length c.self.inside.targets.items = below_same from (length targets) (length c.args.self.now) size c.requires.from in
    let t : c.args.to < length c.self.inside.targets.items = below_same to (length targets) (length c.args.self.now) size c.requires.to in
    let s = below_same to (length sources) (length targets) c.self.invariant.same t in
    let added = on_ok c.push-added.result _ (sym c.if-is_err.ensures.value) c.push-added.ensures.ok ∙ ap (λ (xs : List ℕ). xs ++ to ∷ []) (get_or_read targets from c.index_mut-2.result.now f c.index_mut-2.ensures.value []) in
    let mirrored = c.in_ok-push.ensures.ok ∙ ap (λ (xs : List ℕ). xs ++ from ∷ []) (get_or_read sources to c.index_mut.result.now s c.index_mut.ensures.value []) in
    subst (λ (x : List ℕ). AreMirrored (set targets from x) (set sources to c.push.new.self)) (sym added)
    (subst (λ (x : List ℕ). AreMirrored (set targets from (get_or targets from [] ++ to ∷ [])) (set sources to x)) (sym mirrored)
    (mirrored_pushed targets sources from to f t c.self.invariant))
