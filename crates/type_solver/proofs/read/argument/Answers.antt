use Rattle.type_solver.proofs.read.argument.Goals as goal

pub returns-in-Types-clause-within : goal.returns-in-Types-clause-within
returns-in-Types-clause-within c = c.type_argument.ensures.within c.args.variables
