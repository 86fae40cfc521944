use Rattle.std.proofs.Common.{List, length, refl, sym, ◌∙◌, ap, arith}
use Rattle.std.specs.Prelude.{slice_get}
use Rattle.std.proofs.lemmas.Option.{slice_get_read}
use Rattle.program.specs.declared.clause.LoopClause.{LoopClause}
use Rattle.type_check.proofs.RootLaws.{all_loops, more_loops, no_loops}
use Rattle.type_check.proofs.spec.loops.judge_with.Goals as goal

pub loop-one-init : goal.loop-one-init
loop-one-init c = no_loops c.args.program.now c.args.function.now c.args.locals.now c.new-judged.result.items c.new-judged.ensures.items

pub loop-one-preserved : goal.loop-one-preserved
loop-one-preserved c =
    let n = c.loop-one.one-index in
    let items = c.as_slice-one-items.result.now in
    let at = slice_get_read items (length items) n c.one-item.result refl c.loop-one-test.true c.one-item.is in
    more_loops c.args.program.now c.args.function.now c.args.locals.now c.loop-one.judged.items c.push.new.self.items n c.one-item.result c.in_ok-known.known
    (ap (λ (ls : List LoopClause). slice_get ls n) (sym c.as_slice-one-items.ensures) ∙ at)
    (c.in_ok-known.ensures.says c.one-item.result.clause.block) c.in_ok-known.ensures.span_is c.in_ok-push.ensures.items c.loop-one.invariant

pub returns : goal.returns
returns c =
    let past = c.loop-one-test.false in
    let bound = c.loop-one.auto.one-index-end in
    let size = ap (λ (ls : List LoopClause). length ls) c.as_slice-one-items.ensures in
    all_loops c.args.program.now c.args.function.now c.args.locals.now c.loop-one.judged.items c.loop-one.one-index (omega (arith, past, bound, size)) c.loop-one.invariant
