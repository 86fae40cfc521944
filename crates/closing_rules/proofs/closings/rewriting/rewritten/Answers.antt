use Rattle.std.proofs.Common.{sym, subst, arith}
use Rattle.std.proofs.lemmas.List.{take_all}
use Rattle.term_pool.specs.Items.{TermSort, formula_in}
use Rattle.term_pool.proofs.GrowthLemmas.{extends_itself, extends_then}
use Rattle.explanations.specs.Chains.{IsAt}
use Rattle.congruence_closure.specs.Numbers.{number_at}
use Rattle.explanations.specs.Replacing.{after_all}
use Rattle.explanations.proofs.GrowthLemmas.{keeps_then, begin_grown}
use Rattle.explanations.proofs.RouteLemmas.{at_index}
use Rattle.explanations.proofs.ReplacingLemmas.{after_none, replace_grown, found_at, left_at}
use Rattle.closing_rules.specs.Rewriting.{source_item}
use Rattle.explanations.proofs.ChainLemmas.{keeps_itself}
use Rattle.closing_rules.proofs.ClosingsRewritingLemmas.{source_at}
use Rattle.closing_rules.proofs.closings.rewriting.rewritten.Goals as goal

pub loop-difference-init : goal.loop-difference-init
loop-difference-init c = record {
  extends = extends_itself c.args.pool.now;
  positions = c.requires.positions;
  keeps = keeps_itself c.args.chain.now;
  at = subst (λ x. IsAt c.args.pool.now c.args.chain.now c.args.source (formula_in x)) (sym (after_none c.args.pool.now c.args.numbers.now (source_item c.args.pool.now c.args.chain.now c.args.source) c.args.differences.now)) (source_at c.args.pool.now c.args.chain.now c.args.source c.requires.source);
  chain = λ b h can. h;
}

pub replace-requires-clause-source : goal.replace-requires-clause-source
replace-requires-clause-source c =
    let found = at_index c.args.differences.now c.loop-difference.difference-index c.difference-item.result c.difference-item.result c.loop-difference-test.true c.difference-item.is in
    found_at c.args.pool.now c.loop-difference.pool c.loop-difference.invariant.extends c.args.chain.now c.loop-difference.chain c.args.numbers.now (source_item c.args.pool.now c.args.chain.now c.args.source) c.args.differences.now c.requires.replaced.in_turn c.loop-difference.difference-index c.difference-item.result (c.requires.replaced.each c.loop-difference.difference-index c.difference-item.result found).is found c.loop-difference.position c.loop-difference.invariant.at

pub replace-requires-clause-replaced : goal.replace-requires-clause-replaced
replace-requires-clause-replaced c =
    let found = at_index c.args.differences.now c.loop-difference.difference-index c.difference-item.result c.difference-item.result c.loop-difference-test.true c.difference-item.is in
    replace_grown c.args.pool.now c.loop-difference.pool c.loop-difference.invariant.extends c.args.chain.now c.loop-difference.chain c.loop-difference.invariant.keeps c.args.numbers.now c.args.equations.now c.difference-item.result (c.requires.replaced.each c.loop-difference.difference-index c.difference-item.result found)

pub replace-requires-clause-positions : goal.replace-requires-clause-positions
replace-requires-clause-positions c = c.loop-difference.invariant.positions

pub loop-difference-preserved : goal.loop-difference-preserved
loop-difference-preserved c =
    let found = at_index c.args.differences.now c.loop-difference.difference-index c.difference-item.result c.difference-item.result c.loop-difference-test.true c.difference-item.is in
    let can = c.requires.replaced.each c.loop-difference.difference-index c.difference-item.result found in
    record {
      extends = extends_then c.loop-difference.invariant.extends c.replace.ensures.extends;
      positions = c.in_ok-next.ensures.positions;
      keeps = keeps_then c.args.chain.now c.loop-difference.chain c.replace.new.chain c.loop-difference.invariant.keeps c.in_ok-next.ensures.keeps;
      at = left_at c.args.pool.now c.loop-difference.pool c.replace.new.pool c.loop-difference.invariant.extends c.replace.new.chain c.args.numbers.now (source_item c.args.pool.now c.args.chain.now c.args.source) c.args.differences.now c.loop-difference.difference-index _ c.difference-item.result can.is found (omega arith) c.in_ok-next.next c.in_ok-next.ensures.at;
      chain = λ b h begin. c.in_ok-next.ensures.chain b (c.loop-difference.invariant.chain b h begin) (begin_grown c.args.pool.now c.loop-difference.pool c.loop-difference.invariant.extends b c.args.chain.now c.loop-difference.chain c.loop-difference.invariant.keeps (number_at c.args.numbers.now c.difference-item.result.from) TermSort can.is.from_term (begin.each c.loop-difference.difference-index c.difference-item.result found));
    }

pub returns-clause-at : goal.returns-clause-at
returns-clause-at c =
    subst (λ ds. IsAt c.loop-difference.pool c.loop-difference.chain c.loop-difference.position (formula_in (after_all c.args.pool.now c.args.numbers.now (source_item c.args.pool.now c.args.chain.now c.args.source) ds))) (take_all c.loop-difference.difference-index c.args.differences.now c.loop-difference-test.false) c.loop-difference.invariant.at
