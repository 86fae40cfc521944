use Rattle.std.proofs.Common.{ap, sym, ◌∙◌, ◌-◌, ◌/◌, drop, arith}
use Rattle.std.proofs.Math.ListN.{length-set}
use Rattle.report.proofs.Hexadecimal.{hexadecimal_onto, hexadecimal_onto-start, hexadecimal_onto-none, hexadecimal_onto-first, hexadecimal_onto-more, drop-set_before}
use Rattle.report.proofs.text.encode_hexadecimal.Goals as goal

pub loop-start-init : goal.loop-start-init
loop-start-init c = record { within = omega arith; whole = c.told-out; value = hexadecimal_onto-start c.args.number c.args.out.now c.told-out }

pub loop-start-preserved : goal.loop-start-preserved
loop-start-preserved c =
    let l = c.loop-start in
    let written = drop-set_before l.out l.start c.hexadecimal_digit.result _ (omega arith) (omega (arith, l.invariant.whole)) c.hexadecimal_digit.ensures in
    record {
      within = omega arith;
      whole = length-set l.out (l.start - 1) c.hexadecimal_digit.result ∙ l.invariant.whole;
      value = ap (hexadecimal_onto (l.start - 1) (l.rest / 16)) written ∙ sym (hexadecimal_onto-more l.rest (drop l.start l.out) l.start (omega arith) c.if-rest-eq0.false) ∙ l.invariant.value;
    }

pub returns-after-loop-start-clause-value : goal.returns-after-loop-start-clause-value
returns-after-loop-start-clause-value c =
    let l = c.loop-start in
    sym (hexadecimal_onto-none l.rest (drop l.start l.out) l.start (omega arith)) ∙ l.invariant.value

pub returns-then-rest-eq0-clause-value : goal.returns-then-rest-eq0-clause-value
returns-then-rest-eq0-clause-value c =
    let l = c.loop-start in
    drop-set_before l.out l.start c.hexadecimal_digit.result _ (omega arith) (omega (arith, l.invariant.whole)) c.hexadecimal_digit.ensures
    ∙ sym (hexadecimal_onto-first l.rest (drop l.start l.out) l.start (omega arith) c.if-rest-eq0.true) ∙ l.invariant.value
