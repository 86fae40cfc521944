use Rattle.std.proofs.Common.{ap, ◌∙◌}
use Rattle.std.specs.Prelude.{filter}
use Rattle.std.proofs.lemmas.List.{take_all}
use Rattle.axiom_instances.specs.Numbers.{term_at}
use Rattle.axiom_strategy.specs.Beside.{is_made_vector}
use Rattle.axiom_strategy.proofs.BesideLemmas.{passed_over, put_behind}
use Rattle.axiom_strategy.proofs.beside.made_terms.Goals as goal

pub loop-term-preserved-then-not-is_made : goal.loop-term-preserved-then-not-is_made
loop-term-preserved-then-not-is_made c =
    passed_over (λ n. is_made_vector (term_at c.args.pool.now n)) c.args.terms.now c.loop-term.term-index c.loop-term-test.true c.loop-term.invariant c.if-not-is_made.ensures

pub loop-term-preserved : goal.loop-term-preserved
loop-term-preserved c =
    put_behind (λ n. is_made_vector (term_at c.args.pool.now n)) c.args.terms.now c.loop-term.term-index c.loop-term-test.true c.in_ok-push.ensures.items c.loop-term.invariant c.if-not-is_made.ensures

pub returns : goal.returns
returns c =
    c.loop-term.invariant ∙ ap (filter (λ n. is_made_vector (term_at c.args.pool.now n))) (take_all c.loop-term.term-index c.args.terms.now c.loop-term-test.false)
