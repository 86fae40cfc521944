use Rattle.unification.proofs.Numbering.{table_says}
use Rattle.unification.proofs.solution.numbers.table.Goals as goal

pub returns-clause-says : goal.returns-clause-says
returns-clause-says c = table_says c.args.slots.now c.number_variables.new.pool c.args.order.now c.in_ok-numbers.numbers.items _ c.args.variables c.requires.order c.in_ok-numbers.ensures.are c.requires.variables c.truncate.ensures.items
