use Rattle.std.proofs.Common.{refl, subst}
use Rattle.std.specs.Prelude.{All}
use Rattle.std.proofs.lemmas.List.{take_all}
use Rattle.std.proofs.lemmas.List.Elements.{All-more}
use Rattle.tableau.specs.PoolBranches.{IsFormulaNumber}
use Rattle.tree_checks.proofs.texts.numbers.are_formulas.Goals as goal

pub loop-number-preserved : goal.loop-number-preserved
loop-number-preserved c =
    All-more (IsFormulaNumber c.args.pool.now) c.args.numbers.now c.loop-number.number-index 0 c.loop-number-test.true c.loop-number.invariant (c.if-not-is_formula.ensures refl)

pub returns : goal.returns
returns c = λ e. record { each = subst (All (IsFormulaNumber c.args.pool.now)) (take_all c.loop-number.number-index c.args.numbers.now c.loop-number-test.false) c.loop-number.invariant }
