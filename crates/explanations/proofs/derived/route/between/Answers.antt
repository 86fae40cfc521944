use Rattle.std.proofs.Common.{inl}
use Rattle.term_pool.proofs.GrowthLemmas.{if_ok}
use Rattle.explanations.proofs.RouteLemmas.{single_either}
use Rattle.explanations.proofs.derived.route.between.Goals as goal

pub returns-in-Some-clause-at : goal.returns-in-Some-clause-at
returns-in-Some-clause-at c = single_either c.args.pool.now c.args.chain.now c.args.numbers.now c.args.equations.now c.args.from c.args.route.now c.in-Some.position c.requires.route c.in-Some.ensures

pub returns-in-None-clause-at : goal.returns-in-None-clause-at
returns-in-None-clause-at c = if_ok c.along.result (λ position h. inl h) c.along.ensures.at
