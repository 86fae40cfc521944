use Rattle.std.proofs.Common.{◌≡◌, true, false, refl, arith}
use Rattle.axiom_strategy.proofs.OrderLemmas.{none_denies, both_denied, unmarked_denied}
use Rattle.axiom_strategy.proofs.decisions.orders.numbers_denied.Goals as goal

pub returns-in_default : goal.returns-in_default
returns-in_default c = none_denies c.args.pool.now c.one_number.ensures c.args.branch.now c.requires.over c.args.i c.in_default.ensures

pub are_both-requires-clause-left : goal.are_both-requires-clause-left
are_both-requires-clause-left c = (let l = c.requires.numbers.one_each in let w = c.in-Some.ensures.left.number.within in omega (arith, l, w))

pub are_both-requires-clause-right : goal.are_both-requires-clause-right
are_both-requires-clause-right c = (let l = c.requires.numbers.one_each in let w = c.in-Some.ensures.right.number.within in omega (arith, l, w))

pub returns-then-are_both : goal.returns-then-are_both
returns-then-are_both c = both_denied c.args.pool.now c.one_number.ensures c.args.branch.now c.requires.over c.args.numbers.now c.requires.numbers c.args.i (c.in-Some.left, c.in-Some.right) c.in-Some.ensures (c.if-are_both.ensures.0 refl)

pub returns : goal.returns
returns c = unmarked_denied c.args.pool.now c.one_number.ensures c.args.branch.now c.requires.over c.args.numbers.now c.requires.numbers c.args.i (c.in-Some.left, c.in-Some.right) c.in-Some.ensures (λ h. (let both : false ≡ true = c.if-are_both.ensures.1 h in absurd (cc)))
