use Rattle.std.proofs.Common.{◌≡◌, ◌∙◌, ap, sym, subst, take, not, rules, arith}
use mir.Val.{SFits}
use mir.Syntax.{w128}
use Rattle.std.proofs.lemmas.Int.{to_z-of_z}
use Rattle.std.proofs.lemmas.List.{take_all}
use Rattle.row_reasoning.specs.Sums.{signed}
use Rattle.row_reasoning.specs.Rows.{IsPut, IsWritten}
use Rattle.row_reasoning.proofs.CoefficientLemmas.{take_found, not_before}
use Rattle.row_reasoning.proofs.PutLemmas.{IsWriting, writing_begun, writing_more, entry_fits, constant_fits}
use Rattle.row_reasoning.proofs.RowLemmas.{written_made}
use Rattle.row_reasoning.proofs.rows.row_of.Goals as goal
use Rattle.row_reasoning.proofs.rows.row_of.Goals.{in-Some+in_ok-put, in_default}

pub loop-position-init : goal.loop-position-init
loop-position-init c = writing_begun c.args.classes.now.keys c.args.sum.now.is_negated c.in_ok-numbers.numbers.items c.len.ensures.unique (c.in_ok-numbers.ensures.len ∙ c.len.ensures.len) c.in_ok-numbers.ensures.zero

pub signed-requires : goal.signed-requires
signed-requires c =
    let n : SFits w128 c.in-Some.number.now = search rules in
    simp to_z-of_z (entry_fits c.args.sum.now c.requires c.loop-position.position (c.in-Some.class.now, c.in-Some.number.now) c.len-position-end.ensures.unique (sym c.in-Some.ensures.entry))

pub loop-position-preserved : goal.loop-position-preserved
loop-position-preserved c = elim c.match-get_index.branch [
  | in-Some+in_ok-put w ↦
      let n : SFits w128 w.in-Some.number.now = search rules in
      let s : SFits w128 w.signed.result = search rules in
      let put : IsPut c.loop-position.classes.keys c.loop-position.numbers.items w.in-Some.class.now w.signed.result w.put.new.classes.keys w.put.new.numbers.items = simp to_z-of_z at w.in_ok-put.ensures in
      let same : w.signed.result ≡ signed c.args.sum.now.is_negated w.in-Some.number.now = simp to_z-of_z at w.signed.ensures in
      let there : IsPut c.loop-position.classes.keys c.loop-position.numbers.items w.in-Some.class.now (signed c.args.sum.now.is_negated w.in-Some.number.now) c.match-get_index.classes.keys c.match-get_index.numbers.items =
      subst (λ ls. IsPut c.loop-position.classes.keys c.loop-position.numbers.items w.in-Some.class.now (signed c.args.sum.now.is_negated w.in-Some.number.now) ls c.match-get_index.numbers.items) (ap (λ k. k.keys) (sym w.classes-is))
      (subst (λ ds. IsPut c.loop-position.classes.keys c.loop-position.numbers.items w.in-Some.class.now (signed c.args.sum.now.is_negated w.in-Some.number.now) w.put.new.classes.keys ds) (ap (λ v. v.items) (sym w.numbers-is))
      (subst (λ z. IsPut c.loop-position.classes.keys c.loop-position.numbers.items w.in-Some.class.now z w.put.new.classes.keys w.put.new.numbers.items) same put)) in
      subst (λ es. IsWriting c.args.classes.now.keys c.args.sum.now.is_negated es c.match-get_index.classes.keys c.match-get_index.numbers.items) (sym (take_found c.args.sum.now.coefficients.entries c.loop-position.position (w.in-Some.class.now, w.in-Some.number.now) (sym w.in-Some.ensures.entry)))
      (writing_more c.args.classes.now.keys c.args.sum.now.is_negated (take c.loop-position.position c.args.sum.now.coefficients.entries) c.loop-position.classes.keys c.match-get_index.classes.keys c.loop-position.numbers.items c.match-get_index.numbers.items (w.in-Some.class.now, w.in-Some.number.now) c.loop-position.invariant (not_before c.args.sum.now.coefficients.entries c.loop-position.position (w.in-Some.class.now, w.in-Some.number.now) c.len-position-end.ensures.unique (sym w.in-Some.ensures.entry)) there)
  | in_default w ↦ (let none = w.in_default.ensures.found.1 (omega (arith, c.len-position-end.ensures.len)) in absurd (cc))
]

pub signed-bound-requires : goal.signed-bound-requires
signed-bound-requires c =
    let n : SFits w128 c.args.sum.now.constant = search rules in
    simp to_z-of_z (constant_fits c.args.sum.now c.requires)

pub returns : goal.returns
returns c =
    let n : SFits w128 c.args.sum.now.constant = search rules in
    let s : SFits w128 c.signed-bound.result = search rules in
    let all : take c.loop-position.position c.args.sum.now.coefficients.entries ≡ c.args.sum.now.coefficients.entries = take_all c.loop-position.position c.args.sum.now.coefficients.entries (omega (arith, c.len-position-end.ensures.len)) in
    let whole : IsWriting c.args.classes.now.keys c.args.sum.now.is_negated c.args.sum.now.coefficients.entries c.loop-position.classes.keys c.loop-position.numbers.items = subst (λ es. IsWriting c.args.classes.now.keys c.args.sum.now.is_negated es c.loop-position.classes.keys c.loop-position.numbers.items) all c.loop-position.invariant in
    let bound : c.signed-bound.result ≡ signed (not c.args.sum.now.is_negated) c.args.sum.now.constant = simp to_z-of_z at c.signed-bound.ensures in
    subst (IsWritten c.args.classes.now.keys c.loop-position.classes.keys c.args.sum.now) (sym (simp to_z-of_z at c.new.ensures))
    (written_made c.args.classes.now.keys c.loop-position.classes.keys c.args.sum.now c.loop-position.numbers.items c.signed-bound.result whole bound)
