use Rattle.std.proofs.Common.{false, get_or}
use Rattle.typing_rules.specs.Required.{Copy, is_taken_as_place}
use Rattle.ability_rules.specs.Bodies.{is_lacking, judged_variable}
use Rattle.ability_rules.proofs.Asks.{unless_ask}
use Rattle.ability_rules.proofs.required.required.read_lacks.Goals as goal

pub returns : goal.returns
returns c =
    unless_ask (is_lacking (judged_variable c.args.judged.table.now c.args.judged.variables.now)) (c.args.index, Copy) (get_or c.args.taken.now c.args.index false)
    (is_taken_as_place c.args.nodes.now.nodes c.args.index) c.lacks_copy-lacks.result (c.requires.taken.each c.args.index c.requires.node) c.lacks_copy-lacks.ensures
