use Rattle.std.proofs.Common.{◌≡◌, ◌<◌, ◌≤◌, ◌+◌, ◌-◌, ◌∙◌, ◌++◌, ◌∷◌, [], ℕ, All, ap, sym, subst, length, take, slice_index_or, rules, arith, length-append}
use Rattle.std.proofs.Math.Seq.{get_or-append_seam}
use Rattle.program.specs.Trees.{at, trees, tree_of}
use Rattle.code_tree.specs.Passes.{applied}
use Rattle.code_tree.specs.Growing.{AreMade, nodes_made, nodes_of_node}
use Rattle.code_tree.proofs.Made.{limit_more, below_more, made_more, count_more, count_within, whole_made}
use Rattle.code_tree.proofs.pass.apply.apply.Goals as goal

pub returns-in_err-place-clause-limit : goal.returns-in_err-place-clause-limit
returns-in_err-place-clause-limit g c =
    limit_more (λ n. (n ≡ 50001) × (50000 < length c.loop-index.made.nodes + nodes_of_node (g.P.Pass.makes c.loop-index.pass) c.node.result.now)) _ c.from_residual.result (search rules) (λ n x. (
      x.0,
      let a = x.1 in
          let b = c.loop-index.invariant.count in
          let d = count_within (g.P.Pass.makes c.args.pass.now) c.args.code.now.nodes c.loop-index.index c.node.result.now c.node.ensures.node in
          let f = ap (λ m. nodes_of_node m c.node.result.now) c.loop-index.invariant.same in
          omega (arith, a, b, d, f),
    ))

pub loop-index-preserved : goal.loop-index-preserved
loop-index-preserved g c =
    let made = g.P.Pass.makes c.args.pass.now in
    let source = c.args.code.now.nodes in
    let e = c.in_ok-push.ensures.ok in
    let i = c.loop-index.invariant in
    let grown = c.in_ok-place.ensures.grown in
    record {
      places = let l = ap length e in let a = length-append c.loop-index.places (c.in_ok-place.place ∷ []) in let p = i.places in omega (arith, l, a, p);
      below = subst (λ ps. All (λ p. p < length c.node_code.new.code.nodes) ps) (sym e) (below_more c.loop-index.places (length c.loop-index.made.nodes) (length c.node_code.new.code.nodes) c.in_ok-place.place i.below (let x = grown.count in omega (arith, x)) c.in_ok-place.ensures.place);
      are_made = subst (λ ps. AreMade made source c.node_code.new.code.nodes ps) (sym e) (made_more made source _ c.loop-index.made.nodes c.node_code.new.code.nodes c.loop-index.places c.in_ok-place.place i.are_made i.below grown (
          c.in_ok-place.ensures.tree source (subst (λ ps. AreMade (g.P.Pass.makes c.loop-index.pass) source c.loop-index.made.nodes ps) (sym c.as_slice.ensures) (subst (λ m. AreMade m source c.loop-index.made.nodes c.loop-index.places) (sym i.same) i.are_made))
          ∙ ap (λ m. applied m (tree_of (trees source) c.node.result.now)) i.same
          ∙ ap (applied made) (sym c.node.ensures.tree ∙ ap (at (trees source)) (sym i.places))));
      within = c.in_ok-place.ensures.within;
      count =
          let a = grown.count in
          let b = i.count in
          let d = count_more made source c.loop-index.index c.node.result.now c.node.ensures.node in
          let f = ap (λ m. nodes_of_node m c.node.result.now) i.same in
          omega (arith, a, b, d, f);
      last = λ less.
          let j : c.loop-index.index + 1 - 1 ≡ length c.loop-index.places = let p = i.places in omega (arith, p) in
          ap (λ ps. slice_index_or ps (c.loop-index.index + 1 - 1) 0 + 1) e
          ∙ ap (λ k. slice_index_or (c.loop-index.places ++ c.in_ok-place.place ∷ []) k 0 + 1) j
          ∙ ap (λ v. v + 1) (get_or-append_seam c.loop-index.places c.in_ok-place.place [] 0)
          ∙ c.in_ok-place.ensures.last;
      same = c.node_code.ensures.same ∙ i.same;
      never_falls = let a = i.never_falls in let b = c.node_code.ensures.never_falls in omega (arith, a, b);
    }

pub returns-clause-tree : goal.returns-clause-tree
returns-clause-tree g c =
    let made = g.P.Pass.makes c.args.pass.now in
    let source = c.args.code.now.nodes in
    let i = c.loop-index.invariant in
    let n : c.loop-index.index ≡ length source = let a = c.loop-index-test.false in let b = c.loop-index.auto.index-end in let d = c.len-index-end.ensures in omega (arith, a, b, d) in
    whole_made made source c.loop-index.made.nodes c.loop-index.places i.are_made (i.places ∙ n)
    (subst (λ j. 0 < j → slice_index_or c.loop-index.places (j - 1) 0 + 1 ≡ length c.loop-index.made.nodes) n i.last)
    (λ z. i.count ∙ ap (λ j. nodes_made made (take j source)) (n ∙ z))
