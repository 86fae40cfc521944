use Rattle.type_check.proofs.NumberLaws.{no_number, put_number}
use Rattle.type_check.proofs.spec.first.number_of.Goals as goal
use Rattle.type_check.specs.Known.{listed}

pub returns-in-None-clause-number : goal.returns-in-None-clause-number
returns-in-None-clause-number c = no_number (listed c.args.known.now) c.args.included.now c.in-None.is

pub returns-in_ok-put-in-Some-clause-number : goal.returns-in_ok-put-in-Some-clause-number
returns-in_ok-put-in-Some-clause-number c =
    put_number (listed c.args.known.now) (listed c.put.new.known) c.args.included.now c.in-Some.instance c.in_ok-put-in-Some.field-0 c.in-Some.is c.in_ok-put-in-Some.ensures.put
