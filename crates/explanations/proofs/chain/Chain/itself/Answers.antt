use Rattle.std.proofs.Common.{ap}
use Rattle.fol.specs.FormulaData.{EqFormula}
use Rattle.fol.specs.declared.operators.Comparison.TheVariants.{Eq}
use Rattle.term_pool.specs.Items.{formula_in}
use Rattle.term_pool.specs.declared.node.Two.TheVariants.{Compare}
use Rattle.term_pool.proofs.GrowthLemmas.{two_made}
use Rattle.explanations.specs.Chains.{term_at}
use Rattle.explanations.proofs.ChainLemmas.{at_end, keeps_more, chain_stays, itself_grown}
use Rattle.explanations.proofs.chain.Chain.itself.Goals as goal

pub returns-in-Some-clause-at : goal.returns-in-Some-clause-at
returns-in-Some-clause-at c =
    let it = two_made (Compare Eq) c.insert.ensures.extends (c.requires.term, c.requires.term) c.in_ok-formula.ensures.is in
    record { number = c.in_ok-formula.formula; found = c.in-Some.ensures; is = ap formula_in it.is }

pub returns-in-Some-clause-chain : goal.returns-in-Some-clause-chain
returns-in-Some-clause-chain c = λ b h can. chain_stays c.args.pool.now c.insert.new.self c.insert.ensures.extends b c.args.self.now h

pub returns-in_ok-position-in-None-clause-keeps : goal.returns-in_ok-position-in-None-clause-keeps
returns-in_ok-position-in-None-clause-keeps c = keeps_more c.args.self.now c.add.new.self c.in_ok-formula.formula c.in_ok-position-in-None.ensures.formulas c.in_ok-position-in-None.ensures.variable

pub returns-in_ok-position-in-None-clause-at : goal.returns-in_ok-position-in-None-clause-at
returns-in_ok-position-in-None-clause-at c =
    let it = two_made (Compare Eq) c.insert.ensures.extends (c.requires.term, c.requires.term) c.in_ok-formula.ensures.is in
    at_end c.insert.new.self c.args.self.now c.add.new.self c.in_ok-formula.formula c.in_ok-position-in-None.position (EqFormula (term_at c.args.pool.now c.args.term) (term_at c.args.pool.now c.args.term)) c.in_ok-position-in-None.ensures.formulas c.in_ok-position-in-None.ensures.position (ap formula_in it.is)

pub returns-in_ok-position-in-None-clause-chain : goal.returns-in_ok-position-in-None-clause-chain
returns-in_ok-position-in-None-clause-chain c = λ b h can.
    itself_grown c.args.pool.now c.insert.new.self c.insert.ensures.extends b c.args.self.now c.add.new.self (term_at c.args.pool.now c.args.term) c.in_ok-formula.formula c.one_number.ensures
    (two_made (Compare Eq) c.insert.ensures.extends (c.requires.term, c.requires.term) c.in_ok-formula.ensures.is)
    c.in-None.ensures c.in_ok-position-in-None.ensures.formulas c.in_ok-position-in-None.ensures.steps c.in_ok-position-in-None.ensures.variable h can
