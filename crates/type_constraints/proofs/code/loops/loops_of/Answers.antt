use Rattle.std.proofs.Common.{◌∙◌, ℕ, List, subst, sym}
use Rattle.program.specs.Trees.{trees}
use Rattle.type_constraints.specs.CodeKnown.{TellsSizes}
use Rattle.type_constraints.proofs.Covered.{tells_more}
use Rattle.type_constraints.proofs.code.loops.loops_of.Goals as goal

pub loop-index-preserved : goal.loop-index-preserved
loop-index-preserved c =
    let sizes : TellsSizes c.as_slice.result.now (trees c.args.body.now.nodes) =
    subst (λ (xs : List ℕ). TellsSizes xs (trees c.args.body.now.nodes)) (sym c.as_slice.ensures.value) c.in_ok-sizes.ensures.known in
    record {
      len = c.mark_node.ensures.len ∙ c.loop-index.invariant.len;
      known = tells_more c.loop-index.known.items c.mark_node.new.known.items c.args.body.now.nodes c.loop-index.index c.node.result.now c.node.ensures.node c.mark_node.ensures.len c.loop-index.invariant.known
          (c.mark_node.ensures.marked c.args.body.now.nodes sizes);
    }
