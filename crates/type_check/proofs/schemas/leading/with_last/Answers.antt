use Rattle.std.proofs.Common.{ℕ, true, false, List, [], ◌∷◌, ◌++◌, length, ◌∙◌, ap, subst, arith}
use Rattle.std.proofs.lemmas.List.{append_assoc, take_all}
use Rattle.base.specs.declared.marked_cycles.edge.MarkedEdge.{MarkedEdge}
use Rattle.type_check.specs.Leading.{HasLast, edge}
use Rattle.type_check.proofs.LeadingLaws.{last_begins, last_more, more_marked, more_unmarked}
use Rattle.type_check.proofs.SchemasLists.{taken_next}
use Rattle.type_check.proofs.schemas.leading.with_last.Goals as goal
use Rattle.type_check.proofs.schemas.leading.with_last.Goals.{then-marks-number+in_ok-push-3, else-marks-number}

pub loop-edge-init : goal.loop-edge-init
loop-edge-init c = c.new-all.ensures.items

pub loop-edge-preserved : goal.loop-edge-preserved
loop-edge-preserved c =
    let n = c.loop-edge.edge-index in
    taken_next c.args.edges.now c.loop-edge.all.items c.push.new.self.items n _ c.loop-edge-test.true c.in_ok-push.ensures.items c.loop-edge.invariant

pub loop-number-init : goal.loop-number-init
loop-number-init c = last_begins c.args.edges.now c.args.marks.now c.loop-edge.all.items _ (c.loop-edge.invariant ∙ take_all c.loop-edge.edge-index c.args.edges.now c.loop-edge-test.false)

pub loop-number-preserved : goal.loop-number-preserved
loop-number-preserved c =
    let edges = c.args.edges.now in
    let marks = c.args.marks.now in
    let n = c.loop-number.number in
    let last = length marks in
    elim c.if-marks-number.branch [
      | then-marks-number+in_ok-push-3 w ↦
          last_more edges marks c.loop-number.all.items c.if-marks-number.all.items (edge last n true ∷ edge n last false ∷ []) last n c.loop-number.invariant
          (more_marked marks last n w.if-marks-number.true)
          (ap (λ v. v.items) w.all-is ∙ w.in_ok-push-3.ensures.items ∙ ap (λ (es : List MarkedEdge). es ++ edge n last false ∷ []) c.in_ok-push-2.ensures.items
          ∙ append_assoc c.loop-number.all.items (edge last n true ∷ []) (edge n last false ∷ []))
      | else-marks-number w ↦
          last_more edges marks c.loop-number.all.items c.if-marks-number.all.items (edge last n true ∷ []) last n c.loop-number.invariant
          (more_unmarked marks last n w.if-marks-number.false) (ap (λ v. v.items) w.all-is ∙ c.in_ok-push-2.ensures.items)
    ]

pub returns : goal.returns
returns c =
    let past = c.loop-number-test.false in
    let bound = c.loop-number.auto in
    subst (λ (n : ℕ). HasLast c.args.edges.now c.args.marks.now c.loop-number.all.items (length c.args.marks.now) n) (omega (arith, past, bound)) c.loop-number.invariant
