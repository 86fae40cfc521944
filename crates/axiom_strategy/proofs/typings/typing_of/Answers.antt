use Rattle.std.proofs.Common.{ap}
use Rattle.term_pool.specs.Items.{formula_in}
use Rattle.axiom_instances.specs.Numbers.{formula_at}
use Rattle.axiom_strategy.proofs.TypingLemmas.{given, untyped, denied_answer}
use Rattle.axiom_strategy.proofs.typings.typing_of.Goals as goal

pub returns-in-Some : goal.returns-in-Some
returns-in-Some c = given c.in-Some.ensures

pub returns-in_default-denied : goal.returns-in_default-denied
returns-in_default-denied c = untyped c.in_default.ensures c.in_default-denied.ensures

pub returns : goal.returns
returns c =
    denied_answer c.args.pool.now (formula_at c.args.pool.now c.args.formula) (formula_at c.args.pool.now c.in-Some-denied.denied) c.given_type-2.result (ap formula_in c.in-Some-denied.ensures.item) c.in_default.ensures c.given_type-2.ensures
