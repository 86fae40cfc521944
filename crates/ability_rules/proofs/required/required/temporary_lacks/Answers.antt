use Rattle.std.proofs.Common.{sym, ap, ◌∙◌}
use Rattle.std.specs.Prelude.{slice_get}
use Rattle.typing_rules.specs.Required.{Drop, is_place}
use Rattle.ability_rules.specs.Bodies.{is_lacking, judged_variable}
use Rattle.ability_rules.proofs.Asks.{unless_ask}
use Rattle.ability_rules.proofs.required.required.temporary_lacks.Goals as goal

pub returns : goal.returns
returns c =
    unless_ask (is_lacking (judged_variable c.args.judged.table.now c.args.judged.variables.now)) (c.args.index, Drop) c.is_place-is_one.result
    (is_place (slice_get c.args.nodes.now.nodes c.args.index)) c.lacks_drop-lacks.result (c.is_place-is_one.ensures ∙ sym (ap is_place c.node.ensures.node)) c.lacks_drop-lacks.ensures
