use Rattle.fol.specs.FormulaData.{NotFormula}
use Rattle.term_pool.specs.declared.node.One.TheVariants.{Not}
use Rattle.term_pool.proofs.GrowthLemmas.{if_ok, one_made}
use Rattle.tableau.specs.Numbers.{formula_at}
use Rattle.tableau.proofs.NumberLemmas.{number_of_item}
use Rattle.tableau.proofs.rules.formulas.denial.Goals as goal

pub returns-clause-is : goal.returns-clause-is
returns-clause-is c =
    if_ok c.insert.result (λ k m. number_of_item c.insert.new.self (NotFormula (formula_at c.args.pool.now c.args.formula)) k (one_made Not c.insert.ensures.extends (record { earlier = c.requires.within; sort = c.requires.sort }) m)) c.insert.ensures.is
