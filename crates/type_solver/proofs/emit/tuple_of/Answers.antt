use Rattle.std.proofs.Common.{◌∙◌}
use Rattle.type_solver.proofs.Emitting.{tuple_equal, variables_within}
use Rattle.type_solver.proofs.emit.tuple_of.Goals as goal

pub group_terms-requires-clause-within : goal.group_terms-requires-clause-within
group_terms-requires-clause-within c = variables_within _ c.args.parts.now c.deref.result.now (c.deref.ensures.value ∙ c.in_ok-terms.ensures) c.requires.parts

pub returns-clause-emits : goal.returns-clause-emits
returns-clause-emits c w = tuple_equal w c.args.slots.now.items c.group_terms.new.slots.items c.args.variable c.args.parts.now c.in_ok-term.term c.deref.result.now (c.deref.ensures.value ∙ c.in_ok-terms.ensures) c.in_ok-term.ensures.grows c.in_ok-term.ensures.within c.in_ok-term.ensures.is c.requires.variable
