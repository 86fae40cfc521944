use Rattle.typing_rules.specs.Required.{read_asks, temporary_asks}
use Rattle.ability_rules.specs.Bodies.{is_lacking, judged_variable}
use Rattle.ability_rules.proofs.Asks.{both_asks}
use Rattle.ability_rules.proofs.required.required.field_lacks.Goals as goal

pub returns : goal.returns
returns c = λ first name.
    both_asks (is_lacking (judged_variable c.args.judged.table.now c.args.judged.variables.now)) (read_asks c.args.nodes.now.nodes c.args.index) (temporary_asks c.args.nodes.now.nodes c.args.part)
    c.read_lacks-reads.result c.temporary_lacks-drops.result c.read_lacks-reads.ensures c.temporary_lacks-drops.ensures
