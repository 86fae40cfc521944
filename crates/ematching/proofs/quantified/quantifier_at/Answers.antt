use Rattle.ematching.proofs.QuantifiedLemmas.{quantifier_found}
use Rattle.ematching.proofs.quantified.quantifier_at.Goals as goal

pub returns-in-Some : goal.returns-in-Some
returns-in-Some c =
    quantifier_found c.args.pool.now c.args.formula c.in-Some.node c.in-Some.ensures c.requires.sort c.args.quantifier c.quantifier_of.result c.quantifier_of.ensures
