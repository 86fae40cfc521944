use Rattle.std.proofs.Common.{◌+◌, ◌∷◌, [], List, length, take, subst, sym, ap, ◌∙◌, arith, length-append}
use Rattle.typing_rules.specs.Pieces.{pieces}
use Rattle.definite_assignment.specs.declared.summary.Summary.{Summary}
use Rattle.definite_assignment.specs.Summaries.{AllStand}
use Rattle.definite_assignment.proofs.PassLaws.{stand_next}
use Rattle.definite_assignment.proofs.pass.summaries.Goals as goal

pub loop-index-preserved : goal.loop-index-preserved
loop-index-preserved c =
    let base = c.args.base in
    let types = c.args.types.now in
    let nodes = c.args.body.now.nodes in
    let k = c.loop-index.index in
    let found = c.loop-index.found.items in
    let next = c.node_summary-next.result in
    let before = pieces types (take k nodes) in
    let seen = subst (λ (ss : List Summary). AllStand base ss before) (sym c.deref.ensures.value) c.loop-index.invariant.stand in
    let one = c.node_summary-next.ensures before seen in
    let items = c.in_ok-push.ensures.items in
    record {
      stand = subst (λ (ss : List Summary). AllStand base ss (pieces types (take (k + 1) nodes))) (sym items)
          (stand_next base types nodes k c.node.result.now found next c.node.ensures.node c.loop-index.invariant.stand one);
      count = ap length items ∙ omega (arith, length-append found (next ∷ []), c.loop-index.invariant.count);
    }
