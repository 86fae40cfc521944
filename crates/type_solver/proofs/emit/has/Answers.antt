use Rattle.type_constraints.specs.Seen.{seen_form}
use Rattle.type_solver.proofs.Emitting.{has_equal}
use Rattle.type_solver.proofs.emit.has.Goals as goal

pub returns-clause-emits : goal.returns-clause-emits
returns-clause-emits c w = has_equal w c.args.slots.now.items c.form_term.new.slots.items c.args.variable (seen_form c.args.form) c.in_ok-term.term c.in_ok-term.ensures.said c.requires.variable
