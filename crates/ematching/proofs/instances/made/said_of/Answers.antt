use Rattle.term_pool.proofs.GrowthLemmas.{if_ok}
use Rattle.ematching.specs.Numbers.{term_at, triggers_at, formula_at}
use Rattle.ematching.proofs.SaidLemmas.{denial_parts, said_denied, said_plain}
use Rattle.ematching.proofs.instances.made.said_of.Goals as goal

pub insert-requires : goal.insert-requires
insert-requires c = denial_parts c.instance.new.pool c.args.universal.variable (term_at c.args.pool.now c.args.term) (formula_at c.args.pool.now c.args.universal.body) c.in_ok-said.said c.in_ok-said.ensures.is

pub returns-then-universal-clause-is : goal.returns-then-universal-clause-is
returns-then-universal-clause-is c =
    if_ok c.insert.result (λ k made. said_denied c.instance.new.pool c.insert.new.self c.insert.ensures.extends c.args.universal.is_denied c.if-universal.true c.args.universal.variable (triggers_at c.args.pool.now c.args.universal.triggers) (formula_at c.args.pool.now c.args.universal.body) (term_at c.args.pool.now c.args.term) c.in_ok-said.said k c.in_ok-said.ensures.is made) c.insert.ensures.is

pub returns-clause-is : goal.returns-clause-is
returns-clause-is c =
    said_plain c.instance.new.pool c.args.universal.is_denied c.if-universal.false c.args.universal.variable (triggers_at c.args.pool.now c.args.universal.triggers) (formula_at c.args.pool.now c.args.universal.body) (term_at c.args.pool.now c.args.term) c.in_ok-said.said c.in_ok-said.ensures.is
