use Rattle.std.proofs.Common.{◌≡◌, ◌<◌, length, get_or, refl, ap, ◌∙◌, arith}
use Rattle.std.proofs.lemmas.List.{get_or_default}
use Rattle.congruence_closure.specs.Signatures.{class_in, renamed}
use Rattle.congruence_closure.proofs.StateLemmas.{renaming_start, renaming_turn, renaming_end}
use Rattle.congruence_closure.proofs.classes.state.rename.Goals as goal

pub loop-number-init : goal.loop-number-init
loop-number-init c = record { renaming = renaming_start c.args.classes.now c.args.numbers.now c.args.from c.args.to }

pub loop-number-preserved : goal.loop-number-preserved
loop-number-preserved c =
    let n = c.loop-number.number-index in
    let x = get_or c.args.numbers.now n 0 in
    let ds = c.loop-number.classes in
    let early : c.loop-number.number-index < length c.args.numbers.now = c.loop-number-test.true in
    let number = c.requires.numbers n early in
    let long = c.loop-number.invariant.renaming.long in
    let inside : get_or c.args.numbers.now c.loop-number.number-index 0 < length c.loop-number.classes = omega (arith, number, long) in
    let read : get_or ds x 0 ≡ class_in ds x = get_or_default ds x 0 x inside in
    record {
      renaming = renaming_turn c.args.classes.now ds c.args.numbers.now n c.args.from c.args.to x c.renamed.result c.requires.apart early refl inside (c.renamed.ensures ∙ ap (renamed c.args.from c.args.to) read) c.loop-number.invariant.renaming;
    }

pub returns : goal.returns
returns c =
    let over = c.loop-number-test.false in
    renaming_end c.args.classes.now c.loop-number.classes c.args.numbers.now c.loop-number.number-index c.args.from c.args.to (omega (arith, over)) c.requires.from c.requires.all c.loop-number.invariant.renaming
