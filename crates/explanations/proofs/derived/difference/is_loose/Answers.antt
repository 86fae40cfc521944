use Rattle.std.proofs.Common.{◌≡◌, true, false, refl}
use Rattle.term_pool.specs.Pools.{item_at}
use Rattle.explanations.specs.Frames.{bound_on}
use Rattle.explanations.proofs.TurnLemmas.{tied_answer, loose_answer}
use Rattle.explanations.proofs.derived.difference.is_loose.Goals as goal

pub returns-then-not-is_term : goal.returns-then-not-is_term
returns-then-not-is_term c =
    tied_answer (bound_on c.args.way.now) (item_at c.args.pool.now c.args.number) (λ e. (let both : false ≡ true = c.if-not-is_term.ensures.1 (record { earlier = c.requires; sort = e }) in absurd (cc)))

pub returns : goal.returns
returns c = loose_answer (bound_on c.args.way.now) (item_at c.args.pool.now c.args.number) c.in_ok-uncaptured.uncaptured (c.if-not-is_term.ensures.0 refl).sort c.in_ok-uncaptured.ensures
