use Rattle.std.proofs.Common.{sym, ap, subst}
use Rattle.term_pool.specs.Items.{TermSort, sort_of, formula_in}
use Rattle.term_pool.specs.Pools.{item_at}
use Rattle.term_pool.specs.declared.node.Leaf.TheVariants.{Var}
use Rattle.term_pool.proofs.GrowthLemmas.{extends_then, leaf_made}
use Rattle.explanations.specs.Frames.{filled, IsWay}
use Rattle.explanations.specs.Chains.{ChainData}
use Rattle.explanations.proofs.ChainLemmas.{at_end, keeps_more, chain_stays, formula_stays, way_stays, made_by, rewritten_grown}
use Rattle.explanations.proofs.chain.Chain.rewrite.Goals as goal

pub fill-requires-in-None-clause-way : goal.fill-requires-in-None-clause-way
fill-requires-in-None-clause-way c =
    let it = leaf_made (Var c.self.inside.variable) c.in_ok-variable-in-None.ensures.is in
    subst (IsWay c.insert.new.self c.args.way.now) (sym (ap sort_of it.is)) (way_stays c.args.pool.now c.insert.new.self (extends_then c.fill.ensures.extends c.insert.ensures.extends) c.args.way.now TermSort c.requires.way)

pub returns-in-Some-clause-chain : goal.returns-in-Some-clause-chain
returns-in-Some-clause-chain c = λ b h. chain_stays c.args.pool.now c.fill.new.pool c.fill.ensures.extends b c.args.self.now h

pub returns-in_ok-position-in-None-clause-keeps : goal.returns-in_ok-position-in-None-clause-keeps
returns-in_ok-position-in-None-clause-keeps c = keeps_more c.args.self.now c.add.new.self c.in_ok-formula.formula c.in_ok-position-in-None.ensures.formulas c.in_ok-position-in-None.ensures.variable

pub returns-in_ok-position-in-None-clause-at : goal.returns-in_ok-position-in-None-clause-at
returns-in_ok-position-in-None-clause-at c =
    at_end c.fill-in-None.new.pool c.args.self.now c.add.new.self c.in_ok-formula.formula c.in_ok-position-in-None.position (formula_in (filled c.args.pool.now c.args.way.now (item_at c.args.pool.now c.args.swap.to))) c.in_ok-position-in-None.ensures.formulas c.in_ok-position-in-None.ensures.position
    (formula_stays c.fill.new.pool c.fill-in-None.new.pool (extends_then c.insert.ensures.extends c.fill-in-None.ensures.extends) c.in_ok-formula.formula (filled c.args.pool.now c.args.way.now (item_at c.args.pool.now c.args.swap.to)) c.in_ok-formula.ensures.is)

pub returns-in_ok-position-in-None-clause-chain : goal.returns-in_ok-position-in-None-clause-chain
returns-in_ok-position-in-None-clause-chain c = λ b h.
    rewritten_grown c.args.pool.now c.fill-in-None.new.pool b c.args.self.now c.add.new.self c.args.way.now c.args.swap c.args.source c.in_ok-formula.formula c.in_ok-pattern-in-None.pattern c.self.inside.variable (ap (λ (d : ChainData). d.variable) c.self.view_is)
    (made_by c.args.pool.now c.fill.new.pool c.insert.new.self c.fill-in-None.new.pool c.args.self.now c.args.way.now c.args.swap c.in_ok-formula.formula c.in_ok-variable-in-None.variable c.in_ok-pattern-in-None.pattern c.self.inside.variable (ap (λ (d : ChainData). d.variable) c.self.view_is) c.fill.ensures.extends c.insert.ensures.extends c.fill-in-None.ensures.extends c.requires.way c.requires.from c.requires.to c.in_ok-formula.ensures.is (leaf_made (Var c.self.inside.variable) c.in_ok-variable-in-None.ensures.is) c.in_ok-pattern-in-None.ensures.is)
    c.one_number.ensures c.requires.swap c.in-None.ensures c.in_ok-position-in-None.ensures.formulas c.in_ok-position-in-None.ensures.steps c.in_ok-position-in-None.ensures.variable h
