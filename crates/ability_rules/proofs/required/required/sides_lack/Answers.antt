use Rattle.typing_rules.specs.Required.{Drop}
use Rattle.ability_rules.specs.Bodies.{is_lacking, judged_variable}
use Rattle.ability_rules.proofs.Asks.{two_asks}
use Rattle.ability_rules.proofs.required.required.sides_lack.Goals as goal

pub returns : goal.returns
returns c =
    two_asks (is_lacking (judged_variable c.args.judged.table.now c.args.judged.variables.now)) (c.args.left, Drop) (c.args.right, Drop)
    c.lacks_drop-first.result c.lacks_drop-second.result c.lacks_drop-first.ensures c.lacks_drop-second.ensures
