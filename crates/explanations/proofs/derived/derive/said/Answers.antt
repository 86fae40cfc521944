use Rattle.fol.specs.declared.operators.Comparison.TheVariants.{Eq}
use Rattle.term_pool.specs.declared.node.Two.TheVariants.{Compare}
use Rattle.term_pool.proofs.GrowthLemmas.{two_made}
use Rattle.explanations.proofs.DeriveLemmas.{stands_at, not_said}
use Rattle.explanations.proofs.derived.derive.said.Goals as goal

pub returns-in-Some-clause-at : goal.returns-in-Some-clause-at
returns-in-Some-clause-at c =
    let it = two_made (Compare Eq) c.insert.ensures.extends (c.requires.left, c.requires.right) c.in_ok-formula.ensures.is in
    stands_at c.args.pool.now c.insert.new.self c.insert.ensures.extends c.args.chain.now c.in-Some.position c.args.left c.args.right c.in_ok-formula.formula c.requires.left c.requires.right it c.in-Some.ensures

pub returns-in-None-clause-at : goal.returns-in-None-clause-at
returns-in-None-clause-at c =
    let it = two_made (Compare Eq) c.insert.ensures.extends (c.requires.left, c.requires.right) c.in_ok-formula.ensures.is in
    absurd (not_said c.args.pool.now c.insert.new.self c.insert.ensures.extends c.args.chain.now c.args.left c.args.right c.in_ok-formula.formula c.requires.said c.one_number.ensures it c.in-None.ensures)
