use Rattle.std.proofs.Common.{◌≡◌, take}
use Rattle.std.specs.Prelude.{filter}
use Rattle.axiom_instances.specs.Numbers.{term_at}
use Rattle.axiom_strategy.specs.Beside.{is_made_vector}
use Rattle.axiom_strategy.proofs.beside.made_terms.Given as goal

abbrev pub invariant-loop-term : goal.invariant-loop-term
invariant-loop-term l = l.made.items ≡ filter (λ n. is_made_vector (term_at l.pool n)) (take l.term-index l.terms)
