use Rattle.term_pool.proofs.GrowthLemmas.{extends_then}
use Rattle.explanations.proofs.GrowthLemmas.{keeps_then}
use Rattle.explanations.proofs.ReplacingLemmas.{itself_replaced, itself_became, begun_each}
use Rattle.explanations.proofs.derived.replacing.replace_all.Goals as goal

pub replace_each-requires-clause-replaced : goal.replace_each-requires-clause-replaced
replace_each-requires-clause-replaced c = itself_replaced c.args.pool.now c.itself.new.pool c.itself.ensures.extends c.args.chain.now c.itself.new.self c.in_ok-itself.ensures.keeps c.args.numbers.now c.args.equations.now c.args.left c.in_ok-itself.itself c.args.differences.now c.in_ok-itself.ensures.at c.requires.replaced

pub returns-clause-extends : goal.returns-clause-extends
returns-clause-extends c = extends_then c.itself.ensures.extends c.replace_each.ensures.extends

pub returns-clause-keeps : goal.returns-clause-keeps
returns-clause-keeps c = keeps_then c.args.chain.now c.itself.new.self c.replace_each.new.chain c.in_ok-itself.ensures.keeps c.in_ok-position.ensures.keeps

pub returns-clause-at : goal.returns-clause-at
returns-clause-at c = itself_became c.args.pool.now c.itself.new.pool c.itself.ensures.extends c.args.chain.now c.itself.new.self c.args.numbers.now c.args.equations.now c.args.left c.in_ok-itself.itself c.args.differences.now c.in_ok-itself.ensures.at c.requires.replaced c.replace_each.new.pool c.replace_each.new.chain c.in_ok-position.position c.in_ok-position.ensures.at

pub returns-clause-chain : goal.returns-clause-chain
returns-clause-chain c = λ b h can. c.in_ok-position.ensures.chain b (c.in_ok-itself.ensures.chain b h can.itself) (begun_each c.args.pool.now c.itself.new.pool c.itself.ensures.extends b c.args.chain.now c.itself.new.self c.in_ok-itself.ensures.keeps c.args.numbers.now c.args.equations.now c.args.left c.args.differences.now c.requires.replaced can)
