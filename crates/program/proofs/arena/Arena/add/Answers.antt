use Rattle.std.proofs.Common.{◌≡◌, ◌∷◌, [], length, arith, length-append}
use Rattle.program.specs.Trees.{IsBelow}
use Rattle.program.proofs.Present.{below-push, trees-push, stays-push}
use Rattle.program.proofs.arena.Arena.add.Goals as goal

pub invariant_of-self-2 : goal.invariant_of-self-2
invariant_of-self-2 g c =
    let same : c.self.inside.nodes.items ≡ c.args.self.now.nodes = λ i. (c.self.view_is i).nodes in
    let below : IsBelow (length c.self.inside.nodes.items) c.args.node = rw same c.requires in
    rw (c.in_ok-push_both.ensures.nodes, c.in_ok-push_both.ensures.spans) (below-push c.self.inside.nodes.items c.args.node c.self.invariant.0 below, omega (arith, c.self.invariant.1, length-append c.self.inside.spans.items (c.args.span ∷ []), length-append c.self.inside.nodes.items (c.args.node ∷ [])))

pub returns-clause-trees : goal.returns-clause-trees
returns-clause-trees g c =
    let same : c.self.inside.nodes.items ≡ c.args.self.now.nodes = λ i. (c.self.view_is i).nodes in
    rw (c.in_ok-push_both.ensures.nodes, ← same) (trees-push c.self.inside.nodes.items c.args.node)

pub returns-clause-stays : goal.returns-clause-stays
returns-clause-stays g c =
    let same : c.self.inside.nodes.items ≡ c.args.self.now.nodes = λ i. (c.self.view_is i).nodes in
    rw (c.in_ok-push_both.ensures.nodes, ← same) (stays-push c.self.inside.nodes.items c.args.node)
