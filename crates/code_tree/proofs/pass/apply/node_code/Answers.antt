use Rattle.std.proofs.Common.{◌<◌, ◌∙◌, All, ap, sym, subst, length, map}
use Rattle.program.specs.Trees.{IsBelow, at, trees, tree_of, trees_of}
use Rattle.program.specs.declared.arena.Node.TheVariants.{Many}
use Rattle.code_tree.specs.Passes.{applied, applied_many}
use Rattle.code_tree.proofs.Made.{ok_more, parts_below, many_made}
use Rattle.code_tree.proofs.pass.apply.node_code.Goals as goal

pub many_code-requires : goal.many_code-requires
many_code-requires g c =
    let below : All (λ p. p < length c.args.places.now) c.in-Many.parts = subst (IsBelow (length c.args.places.now)) c.in-Many.is c.requires.below in
    subst (λ ps. All (λ p. p < length c.args.code.now.nodes) ps) (sym c.in_ok-parts-in-Many.ensures)
    (parts_below c.args.places.now c.as_slice.result.now (length c.args.code.now.nodes) c.requires.places (subst (All (λ p. p < length c.args.places.now)) (sym c.as_slice.ensures) below))

pub returns-in_ok-parts-in-Many-clause-tree : goal.returns-in_ok-parts-in-Many-clause-tree
returns-in_ok-parts-in-Many-clause-tree g c = ok_more _ _ c.many_code.result c.many_code.ensures.tree (λ index h source k.
    let below : All (λ p. p < length c.args.places.now) c.in-Many.parts = subst (IsBelow (length c.args.places.now)) c.in-Many.is c.requires.below in
    h
    ∙ ap (λ ps. applied_many (g.P.Pass.makes c.args.pass.now) c.in-Many.many (trees_of (map (at (trees c.args.code.now.nodes)) ps))) c.in_ok-parts-in-Many.ensures
    ∙ many_made (g.P.Pass.makes c.args.pass.now) source c.args.code.now.nodes c.args.places.now c.as_slice.result.now c.in-Many.many k (subst (All (λ p. p < length c.args.places.now)) (sym c.as_slice.ensures) below)
    ∙ ap (λ ps. applied (g.P.Pass.makes c.args.pass.now) (tree_of (trees source) (Many c.in-Many.many ps))) c.as_slice.ensures
    ∙ ap (λ n. applied (g.P.Pass.makes c.args.pass.now) (tree_of (trees source) n)) (sym c.in-Many.is))
