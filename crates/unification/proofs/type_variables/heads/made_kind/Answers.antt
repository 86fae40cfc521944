use Rattle.std.proofs.Common.{sym, ap}
use Rattle.unification.specs.Slots.{value, wrapped}
use Rattle.unification.proofs.Heading.{kind_moved}
use Rattle.unification.proofs.type_variables.heads.made_kind.Goals as goal

pub returns-in-Closed-clause-is : goal.returns-in-Closed-clause-is
returns-in-Closed-clause-is c t = kind_moved t c.in-Closed.of.now (value t c.args.term) c.closed_kind.result (ap (value t) (sym c.in-Closed.is)) (c.closed_kind.ensures.is t)

pub returns-in-Closed-clause-within : goal.returns-in-Closed-clause-within
returns-in-Closed-clause-within c n h = c.closed_kind.ensures.within n

pub returns-in-Made-clause-is : goal.returns-in-Made-clause-is
returns-in-Made-clause-is c t = kind_moved t (wrapped c.in-Made.wrap (t c.in-Made.part)) (value t c.args.term) c.wrap_kind.result (ap (value t) (sym c.in-Made.is)) (c.wrap_kind.ensures.is t)
