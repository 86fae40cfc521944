use Rattle.std.proofs.Common.{◌≡◌, ℕ, ◌+◌, ◌-◌, ◌<◌, List, length, take, pos, ◌<ℤ◌, refl, sym, ap, ◌∙◌, subst, arith}
use Rattle.std.proofs.lemmas.Bool.{false≢true}
use Rattle.std.proofs.lemmas.Int.{ints}
use Rattle.std.proofs.lemmas.Result.{err_from_is_err_and}
use Rattle.linear_arith.specs.Choice.{AreCompatible, MeetsStage}
use Rattle.linear_arith.specs.Stages.{IsFittingStage, IsWhole, unknowns_of}
use Rattle.linear_arith.specs.Values.{IsChosen, AreValues}
use Rattle.linear_arith.specs.declared.elimination.Stage.{Stage}
use Rattle.linear_arith.specs.declared.rows.Fraction.{Fraction}
use Rattle.linear_arith.proofs.ChoiceLemmas.{AreChosen}
use Rattle.linear_arith.proofs.ValueLemmas.{AreBegun, none_begun, one_begun, skip_begun, chosen_first, values_first, compatible_back, chosen_back, values_back, choosing_at, all_chosen, stage_fits, solved}
use Rattle.linear_arith.proofs.solver.values.Goals as goal
use Rattle.linear_arith.proofs.solver.values.Goals.{then-is_kept+in_ok-push, else-is_kept}

pub loop-unknown-init : goal.loop-unknown-init
loop-unknown-init c = none_begun c.args.stages.now c.in_ok-values.values.items c.in_ok-values.ensures.items

pub loop-unknown-preserved : goal.loop-unknown-preserved
loop-unknown-preserved c =
    let stages = c.args.stages.now in
    let u = c.loop-unknown.unknown in
    let old = c.loop-unknown.values.items in
    elim c.if-is_kept.branch [
      | then-is_kept+in_ok-push w ↦
          let zero : Fraction = record { unknown = u; numerator = pos 0; denominator = pos 1 } in
          let one : pos 0 <ℤ pos 1 = omega (arith, ints) in
          subst (λ (vs : List Fraction). AreBegun stages (u + 1) vs) (sym (rw w.values-is w.in_ok-push.ensures.items)) (one_begun stages u old zero c.loop-unknown.invariant refl refl refl one (c.is_kept.ensures.0 w.if-is_kept.true))
      | else-is_kept w ↦ subst (λ (vs : List Fraction). AreBegun stages (u + 1) vs) (sym (rw w.values-is refl)) (skip_begun stages u old c.loop-unknown.invariant (λ h. false≢true (sym w.if-is_kept.false ∙ c.is_kept.ensures.1 h)))
    ]

pub loop-i-init : goal.loop-i-init
loop-i-init c = λ all.
    let end : c.loop-unknown.unknown ≡ c.args.system.now.width = omega arith in
    let width = c.args.system.now.width in
    let stages = c.args.stages.now in
    let values = c.loop-unknown.values.items in
    let begun = subst (λ (n : ℕ). AreBegun stages n values) end c.loop-unknown.invariant in
    (chosen_first width c.args.system.now.rows.now stages values all begun, values_first width c.args.system.now.rows.now stages values all begun)

pub loop-i-preserved : goal.loop-i-preserved
loop-i-preserved c = λ all.
    let width = c.args.system.now.width in
    let rows = c.args.system.now.rows.now in
    let stages = c.args.stages.now in
    let values = c.loop-i.values.items in
    let value = c.in_ok-value.value in
    let stage = c.index-stages-i.result in
    let j = c.loop-i.i - 1 in
    let lt : j < length stages = omega arith in
    let whole : c.loop-i.i ≡ j + 1 = omega arith in
    let now = c.loop-i.invariant all in
    let before = subst (λ (n : ℕ). AreChosen width all.found (unknowns_of (take n stages)) values) whole now.0 in
    let chosen = subst (λ (n : ℕ). AreValues all.found (unknowns_of stages) (unknowns_of (take n stages)) values) whole now.1 in
    let same = c.in_ok-value.ensures.unknown ∙ ap (λ (s : Stage). s.unknown) c.index-stages-i.is in
    let meets : MeetsStage stage values value = rw c.as_slice.ensures.value at c.in_ok-value.ensures.met in
    let at : IsChosen all.found (unknowns_of (take j stages)) values value = subst (λ (vs : List Fraction). IsChosen all.found (unknowns_of (take j stages)) vs value) c.as_slice.ensures.value (c.in_ok-value.ensures.chosen all.found (unknowns_of (take j stages)) (subst (λ (s : Stage). IsWhole all.found (unknowns_of (take j stages)) s) (sym c.index-stages-i.is) (all.whole j stage lt))) in
    let next = chosen_back width rows stages values value j stage all lt before same c.in_ok-value.ensures.positive (subst (λ (s : Stage). MeetsStage s values value) c.index-stages-i.is meets) in
    let more = values_back width rows stages values value j stage all lt before chosen same at in
    subst (λ (vs : List Fraction). AreChosen width all.found (unknowns_of (take j stages)) vs × AreValues all.found (unknowns_of stages) (unknowns_of (take j stages)) vs) (sym c.in_ok-push-2.ensures.items) (next, more)

pub value_at-requires-clause-values : goal.value_at-requires-clause-values
value_at-requires-clause-values c = rw c.as_slice.ensures.value (c.loop-i.invariant c.requires).0.positive

pub value_at-requires-clause-compatible : goal.value_at-requires-clause-compatible
value_at-requires-clause-compatible c =
    let width = c.args.system.now.width in
    let stages = c.args.stages.now in
    let values = c.loop-i.values.items in
    let j = c.loop-i.i - 1 in
    let lt : j < length stages = omega arith in
    let whole : c.loop-i.i ≡ j + 1 = omega arith in
    let before = subst (λ (n : ℕ). AreChosen width c.requires.found (unknowns_of (take n stages)) values) whole (c.loop-i.invariant c.requires).0 in
    let compatible = compatible_back width c.args.system.now.rows.now stages values j c.index-stages-i.result c.requires lt before in
    subst (λ (vs : List Fraction). AreCompatible c.index-stages-i.result vs) (sym c.as_slice.ensures.value) (subst (λ (s : Stage). AreCompatible s values) (sym c.index-stages-i.is) compatible)

pub value_at-requires-clause-fits : goal.value_at-requires-clause-fits
value_at-requires-clause-fits c =
    let lt : c.loop-i.i - 1 < length c.args.stages.now = omega arith in
    let stage = c.index-stages-i.result in
    subst (λ (s : Stage). IsFittingStage s) (sym c.index-stages-i.is) (stage_fits c.args.system.now.width c.args.system.now.rows.now _ (c.requires.of_stages (c.loop-i.i - 1) stage lt))

pub returns-clause-ok : goal.returns-clause-ok
returns-clause-ok c =
    let none : c.loop-i.i ≡ 0 = omega arith in
    solved c.args.system.now.width c.args.system.now.rows.now c.args.stages.now c.loop-i.values.items c.requires (subst (λ (n : ℕ). AreChosen c.args.system.now.width c.requires.found (unknowns_of (take n c.args.stages.now)) c.loop-i.values.items) none (c.loop-i.invariant c.requires).0)

pub returns-clause-chosen : goal.returns-clause-chosen
returns-clause-chosen c =
    let none : c.loop-i.i ≡ 0 = omega arith in
    let width = c.args.system.now.width in
    let stages = c.args.stages.now in
    let values = c.loop-i.values.items in
    let now = c.loop-i.invariant c.requires in
    all_chosen width c.args.system.now.rows.now stages values c.requires
    (subst (λ (n : ℕ). AreChosen width c.requires.found (unknowns_of (take n stages)) values) none now.0)
    (subst (λ (n : ℕ). AreValues c.requires.found (unknowns_of stages) (unknowns_of (take n stages)) values) none now.1)

pub returns-in_err-value-clause-err : goal.returns-in_err-value-clause-err
returns-in_err-value-clause-err c =
    let p = err_from_is_err_and c.from_residual-in_err-value.result c.from_residual-in_err-value.ensures.1 in
    let width = c.args.system.now.width in
    let rows = c.args.system.now.rows.now in
    let stages = c.args.stages.now in
    let values = c.loop-i.values.items in
    let j = c.loop-i.i - 1 in
    let stage = c.index-stages-i.result in
    let lt : j < length stages = omega arith in
    let us = unknowns_of (take c.loop-i.i stages) in
    let v = subst (λ (vs : List Fraction). AreValues c.requires.found (unknowns_of stages) us vs) (sym c.as_slice.ensures.value) (c.loop-i.invariant c.requires).1 in
    let choosing = choosing_at width rows stages c.as_slice.result.now us c.requires v in
    let whole = subst (λ (s : Stage). IsWhole c.requires.found (unknowns_of (take j stages)) s) (sym c.index-stages-i.is) (c.requires.whole j stage lt) in
    rw (p.1, p.2) (c.in_err-value.ensures.err rows choosing (unknowns_of (take j stages)) whole)
