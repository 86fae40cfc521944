use Rattle.std.proofs.Common.{sym, ap, ◌∙◌}
use Rattle.program.specs.declared.arena.Node.TheVariants.{Unary}
use Rattle.program.specs.declared.code.CodeUnary.{CodeUnary}
use Rattle.typing_rules.specs.Required.{Drop}
use Rattle.ability_rules.specs.Bodies.{is_lacking, node_lacks, judged_variable}
use Rattle.ability_rules.proofs.Asks.{one_ask}
use Rattle.ability_rules.proofs.required.required.unary_lacks.Goals as goal

pub returns-in-Field : goal.returns-in-Field
returns-in-Field c = λ first.
    c.field_lacks.ensures first c.in-Field.field-0 ∙ sym (ap (λ (u : CodeUnary). node_lacks (judged_variable c.args.judged.table.now c.args.judged.variables.now) c.args.nodes.now.nodes c.args.index first (Unary u c.args.part)) c.in-Field.is)

pub returns-in-Discard : goal.returns-in-Discard
returns-in-Discard c = λ first.
    one_ask (is_lacking (judged_variable c.args.judged.table.now c.args.judged.variables.now)) (c.args.part, Drop) c.lacks_drop.result c.lacks_drop.ensures
    ∙ sym (ap (λ (u : CodeUnary). node_lacks (judged_variable c.args.judged.table.now c.args.judged.variables.now) c.args.nodes.now.nodes c.args.index first (Unary u c.args.part)) c.in-Discard.is)
