use Rattle.std.proofs.Common.{refl, get_or}
use Rattle.std.proofs.lemmas.List.Elements.{All-more}
use Rattle.certificates.specs.Due.{IsShallow}
use Rattle.tableau.specs.Numbers.{formula_at}
use Rattle.tableau.proofs.StandLemmas.{not_all, all_taken, shallow_at, too_deep_at}
use Rattle.tableau.proofs.rules.stands.are_shallow.Goals as goal

pub returns-then-depth-gt-MOST_DEPTH : goal.returns-then-depth-gt-MOST_DEPTH
returns-then-depth-gt-MOST_DEPTH c = (
  λ e. absurd (cc),
  λ all. absurd (not_all IsShallow (formula_at c.args.pool.now) c.args.formulas.now c.loop-formula.formula-index c.loop-formula-test.true (too_deep_at c.args.pool.now (get_or c.args.formulas.now c.loop-formula.formula-index 0) c.depth.result (c.requires.each c.loop-formula.formula-index 0 c.loop-formula-test.true) c.depth.ensures c.if-depth-gt-MOST_DEPTH.true) all),
)

pub loop-formula-preserved : goal.loop-formula-preserved
loop-formula-preserved c =
    All-more (λ n. IsShallow (formula_at c.args.pool.now n)) c.args.formulas.now c.loop-formula.formula-index 0 c.loop-formula-test.true c.loop-formula.invariant (shallow_at c.args.pool.now (get_or c.args.formulas.now c.loop-formula.formula-index 0) c.depth.result (c.requires.each c.loop-formula.formula-index 0 c.loop-formula-test.true) c.depth.ensures c.if-depth-gt-MOST_DEPTH.false)

pub returns : goal.returns
returns c = (
  λ e. all_taken IsShallow (formula_at c.args.pool.now) c.args.formulas.now c.loop-formula.formula-index c.loop-formula-test.false c.loop-formula.invariant,
  λ all. refl,
)
