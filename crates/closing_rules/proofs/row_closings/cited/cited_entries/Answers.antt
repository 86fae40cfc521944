use Rattle.std.proofs.Common.{◌<◌, length, pos, false, get_or, arith, rules, FitsSigned}
use Rattle.std.specs.Int.{w128}
use Rattle.linear_arith.specs.Fits.{Fits}
use Rattle.row_reasoning.specs.declared.rows.RowOrigin.{RowOrigin}
use Rattle.row_reasoning.proofs.WordLemmas.{zero_word, fits_positive}
use Rattle.closing_rules.proofs.CitedLemmas.{cited_zero, cited_done}
use Rattle.closing_rules.proofs.row_closings.cited.cited_entries.Goals as goal

abbrev no_origin : RowOrigin
no_origin = record { entry = 0; is_turned = false }

pub loop-i-preserved-then-multiplier-eq0 : goal.loop-i-preserved-then-multiplier-eq0
loop-i-preserved-then-multiplier-eq0 c =
    let i = c.loop-i.i in
    let m = get_or c.args.multipliers.now i (pos 0) in
    let one = c.requires.one_each in
    let w = c.loop-i-test.true in
    let v : i < length c.args.multipliers.now = omega (arith, one, w) in
    let word : FitsSigned w128 m = search rules in
    let fits : Fits m = fits_positive m (c.requires.positive i (pos 0) v) word in
    cited_zero c.args.origins.now c.args.multipliers.now c.args.count i no_origin (pos 0) w v c.loop-i.cited.items (zero_word m fits c.if-multiplier-eq0.true) c.loop-i.invariant

pub returns : goal.returns
returns c = cited_done c.args.origins.now c.args.multipliers.now c.args.count c.loop-i.i c.loop-i.cited.items c.loop-i-test.false c.loop-i.invariant
