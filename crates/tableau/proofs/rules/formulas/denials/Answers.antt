use Rattle.std.proofs.Common.{get_or}
use Rattle.term_pool.proofs.GrowthLemmas.{extends_then}
use Rattle.tableau.proofs.NumberLemmas.{number_stays, denials_more}
use Rattle.tableau.proofs.rules.formulas.denials.Goals as goal

pub denial-requires : goal.denial-requires
denial-requires c =
    number_stays c.args.pool.now c.loop-formula.pool c.loop-formula.invariant.extends (get_or c.args.formulas.now c.loop-formula.formula-index 0) (c.requires.each c.loop-formula.formula-index 0 c.loop-formula-test.true)

pub loop-formula-preserved : goal.loop-formula-preserved
loop-formula-preserved c = record {
  extends = extends_then c.loop-formula.invariant.extends c.denial.ensures.extends;
  are = rw c.in_ok-push.ensures.items (denials_more c.args.pool.now c.loop-formula.pool c.denial.new.pool c.loop-formula.invariant.extends c.denial.ensures.extends c.args.formulas.now c.loop-formula.numbers.items c.loop-formula.formula-index c.in_ok-denial.field-0 c.requires c.loop-formula-test.true c.loop-formula.invariant.are c.in_ok-denial.ensures.is);
}
