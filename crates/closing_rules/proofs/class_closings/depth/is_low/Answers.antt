use Rattle.std.proofs.Common.{inl}
use Rattle.closing_rules.proofs.FormLemmas.{denial_number}
use Rattle.closing_rules.proofs.ClassClosingsDepthLemmas.{low_denial}
use Rattle.closing_rules.proofs.class_closings.depth.is_low.Goals as goal

pub returns-then-is_shallow : goal.returns-then-is_shallow
returns-then-is_shallow c = inl c.if-is_shallow.ensures

pub is_shallow-requires-in-Some : goal.is_shallow-requires-in-Some
is_shallow-requires-in-Some c = denial_number c.args.pool.now c.args.formula c.in-Some.inner c.in-Some.ensures

pub returns-in-Some : goal.returns-in-Some
returns-in-Some c = low_denial c.args.pool.now c.args.formula c.in-Some.inner c.is_shallow-in-Some.result c.in-Some.ensures c.if-is_shallow.ensures c.is_shallow-in-Some.ensures

pub returns-in-None : goal.returns-in-None
returns-in-None c = c.if-is_shallow.ensures
