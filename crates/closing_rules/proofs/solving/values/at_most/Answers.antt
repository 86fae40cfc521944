use Rattle.fol.specs.FormulaData.{LeFormula}
use Rattle.fol.specs.declared.operators.Comparison.TheVariants.{Le}
use Rattle.term_pool.specs.declared.node.Two.TheVariants.{Compare}
use Rattle.term_pool.proofs.GrowthLemmas.{if_ok, two_made}
use Rattle.tableau.proofs.NumberLemmas.{number_of_item}
use Rattle.row_reasoning.specs.Numbers.{term_at}
use Rattle.closing_rules.proofs.solving.values.at_most.Goals as goal

pub returns-clause-is : goal.returns-clause-is
returns-clause-is c =
    if_ok c.insert.result (λ k m. number_of_item c.insert.new.self (LeFormula (term_at c.args.pool.now c.args.lesser) (term_at c.args.pool.now c.args.greater)) k (two_made (Compare Le) c.insert.ensures.extends (record { earlier = c.requires.lesser.within; sort = c.requires.lesser.sort }, record { earlier = c.requires.greater.within; sort = c.requires.greater.sort }) m)) c.insert.ensures.is
