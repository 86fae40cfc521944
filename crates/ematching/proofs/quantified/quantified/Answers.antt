use Rattle.ematching.proofs.QuantifiedLemmas.{plain_found, denied_found}
use Rattle.term_pool.proofs.FormLemmas.{denial_number}
use Rattle.ematching.proofs.quantified.quantified.Goals as goal

pub quantifier_at-requires : goal.quantifier_at-requires
quantifier_at-requires c =
    let part = denial_number c.args.pool.now c.args.formula c.in-Some.inner c.in-Some.ensures in
    record { within = part.earlier; sort = part.sort }

pub returns-in-Some : goal.returns-in-Some
returns-in-Some c = denied_found c.args.pool.now c.args.formula c.in-Some.inner c.in-Some.ensures c.quantifier_at.result c.quantifier_at.ensures

pub returns-in-None : goal.returns-in-None
returns-in-None c = plain_found c.args.pool.now c.args.formula c.in-None.ensures c.quantifier_at-in-None.result c.quantifier_at-in-None.ensures
