use Rattle.std.proofs.Common.{true, false}
use Rattle.typing_rules.specs.Events.{Unassigned, Undropped}
use Rattle.typing_rules.specs.Flows.{Onward, Broken, Continued, Returned}
use Rattle.definite_assignment.proofs.effects.continued.Goals as goal

pub returns-clause-ends : goal.returns-clause-ends
returns-clause-ends c i false Onward state h = c.none-none.ensures.ends i Onward state
returns-clause-ends c i false Broken state h = c.none-none.ensures.ends i Broken state
returns-clause-ends c i false Continued state h = c.all_lacking.ensures i state h
returns-clause-ends c i false Returned state h = c.none-none.ensures.ends i Returned state
returns-clause-ends c i true Onward state h = c.none-none.ensures.ends i Onward state
returns-clause-ends c i true Broken state h = c.none-none.ensures.ends i Broken state
returns-clause-ends c i true Continued state h = c.all_having.ensures i state h
returns-clause-ends c i true Returned state h = c.none-none.ensures.ends i Returned state

pub returns-clause-broken : goal.returns-clause-broken
returns-clause-broken c i false Unassigned = c.none-none.ensures.broken i Unassigned
returns-clause-broken c i false Undropped = c.none-none.ensures.broken i Undropped
returns-clause-broken c i true Unassigned = c.none-none.ensures.broken i Unassigned
returns-clause-broken c i true Undropped = c.none-none.ensures.broken i Undropped
