use Rattle.tableau.proofs.GraphLemmas.{ok_map}
use Rattle.tree_checks.proofs.OpenLemmas.{saturated_too, not_even_valued}
use Rattle.tree_checks.proofs.branch.open.is_open.Goals as goal

pub returns-then-not-branch-clause-exact : goal.returns-then-not-branch-clause-exact
returns-then-not-branch-clause-exact c = not_even_valued c.in_ok-are_valued.field-0 c.if-not-branch.true c.in_ok-are_valued.ensures

pub returns-clause-exact : goal.returns-clause-exact
returns-clause-exact c = ok_map c.is_saturated.result (λ r h. saturated_too c.in_ok-are_valued.field-0 r c.if-not-branch.false c.in_ok-are_valued.ensures h) c.is_saturated.ensures.exact
