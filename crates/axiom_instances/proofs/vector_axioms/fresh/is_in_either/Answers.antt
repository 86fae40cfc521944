use Rattle.axiom_instances.proofs.FreshLemmas.{in_term, left_found, right_found}
use Rattle.axiom_instances.proofs.vector_axioms.fresh.is_in_either.Goals as goal

pub returns-then-in_left : goal.returns-then-in_left
returns-then-in_left c =
    left_found _ _ c.in_ok-in_left.in_left (in_term c.args.variable c.in_ok-in_left.in_left c.requires.left c.in_ok-in_left.ensures) c.if-in_left.true

pub returns : goal.returns
returns c =
    right_found _ _ c.in_ok-in_left.in_left c.in_ok-in_right.in_right (in_term c.args.variable c.in_ok-in_left.in_left c.requires.left c.in_ok-in_left.ensures) c.if-in_left.false (in_term c.args.variable c.in_ok-in_right.in_right c.requires.right c.in_ok-in_right.ensures)
