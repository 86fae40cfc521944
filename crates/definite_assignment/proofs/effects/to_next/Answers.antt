use Rattle.typing_rules.specs.Flows.{Onward, Broken, Continued, Returned}
use Rattle.definite_assignment.proofs.effects.to_next.Goals as goal

pub returns-clause-ends : goal.returns-clause-ends
returns-clause-ends c i Onward state = c.union.ensures i state
returns-clause-ends c i Broken state = c.none.ensures.ends i Broken state
returns-clause-ends c i Continued state = c.none.ensures.ends i Continued state
returns-clause-ends c i Returned state = c.none.ensures.ends i Returned state
