use Rattle.std.proofs.Common.{map, take}
use Rattle.fol.specs.FormulaData.{NotFormula}
use Rattle.term_pool.specs.Pools.{Extends}
use Rattle.tableau.specs.Numbers.{formula_at, AreNumbersOf}
use Rattle.tableau.proofs.rules.formulas.denials.Given as goal

abbrev pub invariant-loop-formula : goal.invariant-loop-formula
invariant-loop-formula l = record {
  extends : Extends l.fn.pool l.pool;
  are : AreNumbersOf l.pool (map NotFormula (map (formula_at l.fn.pool) (take l.formula-index l.formulas))) l.numbers.items;
}
