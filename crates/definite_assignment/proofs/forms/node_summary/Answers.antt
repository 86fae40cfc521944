use Rattle.std.proofs.Common.{◌≡◌, ℕ, List, map, refl, subst, None}
use Rattle.program.specs.declared.arena.Node.TheVariants.{Unary, Binary, If, Many}
use Rattle.typing_rules.specs.Pieces.{CodeNode, piece_at, piece_of, many_flow, many_binds}
use Rattle.definite_assignment.specs.declared.summary.Summary.{Summary}
use Rattle.definite_assignment.specs.Shown.{Means, Shows}
use Rattle.definite_assignment.specs.Summaries.{Stands}
use Rattle.definite_assignment.proofs.forms.node_summary.Goals as goal

pub returns-in-Unary : goal.returns-in-Unary
returns-in-Unary c = λ done all.
    let n = c.in-Unary.part in
    let one = all.each n c.summary_at-part.result.now c.summary_at-part.ensures in
    let summary : Summary = record { effects = c.unary_effects.result; binds = c.unary_binds.result; local = None } in
    let e : Unary c.in-Unary.form n ≡ c.args.node.now = cc in
    subst (λ (node : CodeNode). Stands c.args.base summary (piece_of c.args.types.now done node)) e
    (record {
      flow = record { shown = (c.unary_effects.ensures n (piece_at done n) one).shown };
      binds = c.unary_binds.ensures c.args.base (piece_at done n) one;
      local = refl;
    })

pub returns-in-Binary : goal.returns-in-Binary
returns-in-Binary c = λ done all.
    let n = c.in-Binary.left in
    let m = c.in-Binary.right in
    let one = all.each n c.summary_at-left.result.now c.summary_at-left.ensures in
    let two = all.each m c.summary_at-right.result.now c.summary_at-right.ensures in
    let summary : Summary = record { effects = c.binary_effects.result; binds = c.binary_binds.result; local = None } in
    let e : Binary c.in-Binary.form n m ≡ c.args.node.now = cc in
    subst (λ (node : CodeNode). Stands c.args.base summary (piece_of c.args.types.now done node)) e
    (record {
      flow = record { shown = (c.binary_effects.ensures n (piece_at done n) (piece_at done m) one two).shown };
      binds = c.binary_binds.ensures c.args.base (piece_at done n) one;
      local = refl;
    })

pub returns-in-If : goal.returns-in-If
returns-in-If c = λ done all.
    let a = c.in-If.condition in
    let b = c.in-If.yes in
    let d = c.in-If.no in
    let one = all.each a c.summary_at-condition.result.now c.summary_at-condition.ensures in
    let two = all.each b c.summary_at-yes.result.now c.summary_at-yes.ensures in
    let three = all.each d c.summary_at-no.result.now c.summary_at-no.ensures in
    let either = c.either.ensures c.args.base (piece_at done b).flow (piece_at done d).flow two.flow three.flow in
    let summary : Summary = record { effects = c.then.result; binds = c.none.result; local = None } in
    let e : If a b d ≡ c.args.node.now = cc in
    subst (λ (node : CodeNode). Stands c.args.base summary (piece_of c.args.types.now done node)) e
    (record {
      flow = record { shown = (c.then.ensures c.args.base (piece_at done a).flow _ one.flow either).shown };
      binds = record { meant = λ i h. c.none.ensures i };
      local = refl;
    })

pub returns-in-Many : goal.returns-in-Many
returns-in-Many c = λ done all.
    let form = c.in-Many.form in
    let parts = c.in-Many.parts in
    let summary : Summary = record { effects = c.many_effects.result; binds = c.many_binds.result; local = None } in
    let flow = subst (λ (xs : List ℕ). Shows c.args.base c.many_effects.result (many_flow form (map (piece_at done) xs))) c.as_slice.ensures (c.many_effects.ensures c.args.base done all) in
    let binds = subst (λ (xs : List ℕ). Means c.args.base c.many_binds.result (many_binds form (map (piece_at done) xs))) c.as_slice-in-Many.ensures (c.many_binds.ensures c.args.base done all) in
    let e : Many form parts ≡ c.args.node.now = cc in
    subst (λ (node : CodeNode). Stands c.args.base summary (piece_of c.args.types.now done node)) e
    (record { flow = record { shown = flow.shown }; binds = binds; local = refl })
