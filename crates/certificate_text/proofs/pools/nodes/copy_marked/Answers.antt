use Rattle.std.proofs.Common.{ℕ, List, length, sym, ap, ◌∙◌, subst, arith}
use Rattle.std.proofs.lemmas.List.{length_push}
use Rattle.std.proofs.lemmas.Option.{slice_get_within}
use Rattle.term_pool.specs.Pools.{HasParts, IsMade}
use Rattle.certificate_text.specs.Marks.{IsMarked}
use Rattle.certificate_text.specs.Nodes.{node_anew, AreNumbers}
use Rattle.certificate_text.proofs.NodeLemmas.{parts_anew, numbers_more}
use Rattle.certificate_text.proofs.pools.nodes.copy_marked.Goals as goal

pub copy_node-requires : goal.copy_node-requires
copy_node-requires c = λ m. (
    let ns = c.args.pool.now in
    let ms = c.loop-node.made in
    let ks = c.loop-node.numbers.items in
    let n = c.in-Some.node in
    let long = sym c.as_slice.ensures.len ∙ ap length c.as_slice.ensures.value in
    let made : IsMade ns (length ks) n = subst (λ k. IsMade ns k n) (c.len.ensures ∙ long) c.in-Some.ensures in
    let marked : IsMarked c.args.marks.now (length ks) = subst (IsMarked c.args.marks.now) (c.len-in-Some.ensures ∙ long) m in
    subst (λ (xs : List ℕ). HasParts ms (length ms) (node_anew xs n)) (sym c.as_slice.ensures.value)
    (parts_anew ns ms c.args.marks.now ks c.loop-node.invariant.numbers c.requires.inside n made marked))

pub loop-node-smaller : goal.loop-node-smaller
loop-node-smaller c =
    let w = slice_get_within c.args.pool.now c.len.result c.in-Some.node c.in-Some.ensures.found in
    let long = sym c.as_slice.ensures.len ∙ ap length c.as_slice.ensures.value in
    let at = c.len.ensures ∙ long in
    let more = ap length c.in_ok-push.ensures.items ∙ length_push c.loop-node.numbers.items c.in_ok-number.number in
    omega (arith, w, at, more)

pub loop-node-preserved : goal.loop-node-preserved
loop-node-preserved c =
    let ns = c.args.pool.now in
    let ms = c.loop-node.made in
    let later = c.copy_node.new.made in
    let marks = c.args.marks.now in
    let ks = c.loop-node.numbers.items in
    let n = c.in-Some.node in
    let k = c.in_ok-number.number in
    let long = sym c.as_slice.ensures.len ∙ ap length c.as_slice.ensures.value in
    let at = c.len.ensures ∙ long in
    let made : IsMade ns (length ks) n = subst (λ j. IsMade ns j n) at c.in-Some.ensures in
    let put : IsMarked marks (length ks) → IsMade later k (node_anew ks n) = λ m. subst (λ (xs : List ℕ). IsMade later k (node_anew xs n)) c.as_slice.ensures.value (c.in_ok-number.ensures.is (subst (IsMarked marks) (sym (c.len-in-Some.ensures ∙ long)) m)) in
    let w = slice_get_within ns c.len.result n c.in-Some.ensures.found in
    let more = ap length c.in_ok-push.ensures.items ∙ length_push ks k in
    record {
      numbers = subst (AreNumbers ns later marks) (sym c.in_ok-push.ensures.items) (numbers_more ns ms marks ks c.loop-node.invariant.numbers c.requires.inside later c.copy_node.ensures.extends n k made put);
      within = omega (arith, w, at, more);
    }
