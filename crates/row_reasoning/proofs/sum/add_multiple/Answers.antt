use Rattle.std.proofs.Common.{◌≡◌, ◌∙◌, ap, sym, nat_eq, rules, arith}
use mir.Val.{SFits}
use mir.Syntax.{w128}
use Rattle.std.proofs.lemmas.Int.{to_z-of_z}
use Rattle.indexmap.specs.IndexMap.{insert_entry}
use Rattle.row_reasoning.proofs.CoefficientLemmas.{added_more, added_leaves}
use Rattle.row_reasoning.proofs.sum.add_multiple.Goals as goal
use Rattle.row_reasoning.proofs.sum.add_multiple.Goals.{in-Some+in-Some-plus_product+in_ok-insert, in_default}

pub returns-in_default-plus_product : goal.returns-in_default-plus_product
returns-in_default-plus_product c =
    let f : SFits w128 c.args.factor = c.ranges.factor in
    let n : SFits w128 c.in-Some.number.now = search rules in
    let t : SFits w128 c.coefficient-total.result = search rules in
    added_leaves c.args.factor c.args.first.now.entries c.args.second.now.entries c.loop-position.first.entries c.loop-position.first.entries c.loop-position.position (c.in-Some.class.now, c.in-Some.number.now) c.len-position-end.ensures.unique (sym c.in-Some.ensures.entry) (simp to_z-of_z at c.loop-position.invariant) c.coefficient-total.result c.coefficient-total.ensures (simp to_z-of_z at c.in_default-plus_product.ensures)

pub loop-position-preserved : goal.loop-position-preserved
loop-position-preserved c = elim c.match-get_index.branch [
  | in-Some+in-Some-plus_product+in_ok-insert w ↦
      let f : SFits w128 c.args.factor = c.ranges.factor in
      let n : SFits w128 w.in-Some.number.now = search rules in
      let t : SFits w128 w.coefficient-total.result = search rules in
      let s : SFits w128 w.in-Some-plus_product.sum = search rules in
      let put : c.match-get_index.first.entries ≡ insert_entry nat_eq c.loop-position.first.entries w.in-Some.class.now w.in-Some-plus_product.sum = ap (λ m. m.entries) w.first-is ∙ (simp to_z-of_z at w.in_ok-insert.ensures.entries) in
      simp to_z-of_z (added_more c.args.factor c.args.first.now.entries c.args.second.now.entries c.loop-position.first.entries c.match-get_index.first.entries c.loop-position.position (w.in-Some.class.now, w.in-Some.number.now) c.len-position-end.ensures.unique (sym w.in-Some.ensures.entry) (simp to_z-of_z at c.loop-position.invariant) w.coefficient-total.result w.in-Some-plus_product.sum w.coefficient-total.ensures (simp to_z-of_z at w.in-Some-plus_product.ensures) put)
  | in_default w ↦ (let no = w.in_default.ensures.found.1 (omega (arith, c.len-position-end.ensures.len)) in absurd (cc))
]
