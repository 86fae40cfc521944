use Rattle.std.proofs.Common.{sym, subst}
use Rattle.explanations.proofs.ChainLemmas.{chain_stays}
use Rattle.congruence_closure.specs.Numbers.{number_at}
use Rattle.explanations.specs.Replacing.{CanReplaceAll, CanBeginAll}
use Rattle.explanations.proofs.RouteLemmas.{term_of}
use Rattle.explanations.proofs.DeriveLemmas.{has_read, is_read, became}
use Rattle.explanations.proofs.derived.derive.link_equation.Goals as goal

pub said-requires-clause-left : goal.said-requires-clause-left
said-requires-clause-left c = term_of c.args.pool.now c.number_of-left.result (number_at c.args.numbers.now c.args.link.left) c.number_of-left.ensures c.requires.ready.left

pub said-requires-clause-right : goal.said-requires-clause-right
said-requires-clause-right c = term_of c.args.pool.now c.number_of-right.result (number_at c.args.numbers.now c.args.link.right) c.number_of-right.ensures c.requires.ready.right

pub said-requires-clause-said : goal.said-requires-clause-said
said-requires-clause-said c = has_read c.args.pool.now c.args.chain.now c.number_of-left.result c.number_of-right.result (number_at c.args.numbers.now c.args.link.left) (number_at c.args.numbers.now c.args.link.right) c.number_of-left.ensures c.number_of-right.ensures (c.requires.ready.said c.in-Given.field-0 c.in-Given.is)

pub replace_all-requires-clause-replaced : goal.replace_all-requires-clause-replaced
replace_all-requires-clause-replaced c = subst (λ i. CanReplaceAll c.args.pool.now c.args.chain.now c.args.numbers.now c.args.equations.now i c.args.found.now) (sym c.number_of-left.ensures) (c.requires.ready.alike c.in-Alike.is)

pub returns-in_ok-position-in-Given-clause-at : goal.returns-in_ok-position-in-Given-clause-at
returns-in_ok-position-in-Given-clause-at c = is_read c.said.new.pool c.args.chain.now c.in_ok-position-in-Given.position c.number_of-left.result c.number_of-right.result (number_at c.args.numbers.now c.args.link.left) (number_at c.args.numbers.now c.args.link.right) c.number_of-left.ensures c.number_of-right.ensures c.in_ok-position-in-Given.ensures.at

pub returns-in_ok-position-in-Given-clause-chain : goal.returns-in_ok-position-in-Given-clause-chain
returns-in_ok-position-in-Given-clause-chain c = λ b h can. chain_stays c.args.pool.now c.said.new.pool c.said.ensures.extends b c.args.chain.now h

pub returns-in_ok-position-in-Alike-clause-at : goal.returns-in_ok-position-in-Alike-clause-at
returns-in_ok-position-in-Alike-clause-at c =
    became c.args.pool.now c.replace_all.new.pool c.replace_all.ensures.extends c.replace_all.new.chain c.args.numbers.now c.in_ok-position-in-Alike.position c.number_of-left.result (number_at c.args.numbers.now c.args.link.left) (number_at c.args.numbers.now c.args.link.right) c.args.found.now c.number_of-left.ensures c.requires.ready.left c.requires.ready.right (c.requires.ready.ends c.in-Alike.is) c.in_ok-position-in-Alike.ensures.at

pub returns-in_ok-position-in-Alike-clause-chain : goal.returns-in_ok-position-in-Alike-clause-chain
returns-in_ok-position-in-Alike-clause-chain c = λ b h can. c.in_ok-position-in-Alike.ensures.chain b h (subst (λ i. CanBeginAll c.args.pool.now b c.args.chain.now c.args.numbers.now i c.args.found.now) (sym c.number_of-left.ensures) can)
