use Rattle.body_types.proofs.Running.{number_of_width}
use Rattle.body_types.proofs.code.runs.number_type.Goals as goal

pub returns-in-Some-clause-is : goal.returns-in-Some-clause-is
returns-in-Some-clause-is c s has lt = number_of_width s c.args.defaulted.now c.args.variable c.width_number.result c.in-Some.width c.integer_width.result c.in-Some.is c.integer_width.ensures c.width_number.ensures.is has lt
