use Rattle.std.proofs.Common.{◌≡◌, ◌<◌, length, ◌∷◌, ◌++◌, [], ℤ, pos, false, get_or, sym, ap, ◌∙◌, subst, arith, rules, FitsSigned, to_z, of_z}
use Rattle.std.specs.Int.{w128}
use Rattle.linear_arith.specs.Fits.{Fits}
use Rattle.row_reasoning.specs.Sums.{signed}
use Rattle.row_reasoning.specs.declared.rows.RowOrigin.{RowOrigin}
use Rattle.row_reasoning.proofs.KeptLemmas.{signed_fits}
use Rattle.row_reasoning.proofs.WordLemmas.{word_is, zero_word, zero_is, fits_positive}
use Rattle.row_reasoning.proofs.CitedLemmas.{AreCitedSoFar, cited_begun, cited_same, cited_more, cited_nowhere, cited_done}
use Rattle.row_reasoning.proofs.closings.multiples.multiples.Goals as goal

abbrev no_origin : RowOrigin
no_origin = record { entry = 0; is_turned = false }

pub loop-i-init : goal.loop-i-init
loop-i-init c = subst (AreCitedSoFar c.args.origins.now c.args.multipliers.now c.args.positions.now 0) (sym c.new-cited.ensures.items) (cited_begun c.args.origins.now c.args.multipliers.now c.args.positions.now)

pub loop-i-preserved-then-multiplier-eq0 : goal.loop-i-preserved-then-multiplier-eq0
loop-i-preserved-then-multiplier-eq0 c =
    let i = c.loop-i.i in
    let m = get_or c.args.multipliers.now i (pos 0) in
    let one = c.requires.one_each in
    let w = c.loop-i-test.true in
    let v : i < length c.args.multipliers.now = omega (arith, one, w) in
    let word : FitsSigned w128 m = search rules in
    let fits : Fits m = fits_positive m (c.requires.positive i (pos 0) v) word in
    cited_same c.args.origins.now c.args.multipliers.now c.args.positions.now i c.loop-i.cited.items no_origin (pos 0) w v (zero_word m fits c.if-multiplier-eq0.true) c.loop-i.invariant

pub loop-i-preserved-in_default : goal.loop-i-preserved-in_default
loop-i-preserved-in_default c =
    let i = c.loop-i.i in
    let m = get_or c.args.multipliers.now i (pos 0) in
    let one = c.requires.one_each in
    let w = c.loop-i-test.true in
    let v : i < length c.args.multipliers.now = omega (arith, one, w) in
    cited_nowhere c.args.origins.now c.args.multipliers.now c.args.positions.now i c.loop-i.cited.items no_origin (pos 0) w v (λ e. c.if-multiplier-eq0.false (zero_is m e)) (sym c.in_default.ensures)

pub signed-requires : goal.signed-requires
signed-requires c =
    let i = c.loop-i.i in
    let m = get_or c.args.multipliers.now i (pos 0) in
    let one = c.requires.one_each in
    let w = c.loop-i-test.true in
    let v : i < length c.args.multipliers.now = omega (arith, one, w) in
    let word : FitsSigned w128 m = search rules in
    let fits : Fits m = fits_positive m (c.requires.positive i (pos 0) v) word in
    subst Fits (sym (word_is m fits)) fits

pub loop-i-preserved : goal.loop-i-preserved
loop-i-preserved c =
    let i = c.loop-i.i in
    let m = get_or c.args.multipliers.now i (pos 0) in
    let origin = get_or c.args.origins.now i no_origin in
    let one = c.requires.one_each in
    let w = c.loop-i-test.true in
    let v : i < length c.args.multipliers.now = omega (arith, one, w) in
    let in_word : FitsSigned w128 m = search rules in
    let f : Fits m = fits_positive m (c.requires.positive i (pos 0) v) in_word in
    let is : c.signed.result ≡ signed origin.is_turned m = c.signed.ensures ∙ ap (signed origin.is_turned) (word_is m f) in
    let word : to_z w128 (of_z w128 c.signed.result) ≡ signed origin.is_turned m = word_is c.signed.result (subst Fits (sym is) (signed_fits origin.is_turned m f)) ∙ is in
    cited_more c.args.origins.now c.args.multipliers.now c.args.positions.now i c.loop-i.cited.items c.push.new.self.items no_origin (pos 0) c.in-Some.position w v (λ e. c.if-multiplier-eq0.false (zero_is m e)) (sym c.in-Some.ensures)
    (c.in_ok-push.ensures.items ∙ ap (λ (z : ℤ). c.loop-i.cited.items ++ record { entry = c.in-Some.position; multiplier = z } ∷ []) word) c.loop-i.invariant

pub returns : goal.returns
returns c = cited_done c.args.origins.now c.args.multipliers.now c.args.positions.now c.loop-i.i c.loop-i.cited.items c.loop-i-test.false (let one = c.requires.one_each in let w = c.loop-i-test.false in omega (arith, one, w)) c.loop-i.invariant
