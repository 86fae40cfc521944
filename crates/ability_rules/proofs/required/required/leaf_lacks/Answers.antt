use Rattle.std.proofs.Common.{sym, ap, ◌∙◌}
use Rattle.program.specs.declared.arena.Node.TheVariants.{Leaf}
use Rattle.program.specs.declared.code.CodeLeaf.{CodeLeaf}
use Rattle.typing_rules.specs.Required.{Drop}
use Rattle.ability_rules.specs.Bodies.{is_lacking, node_lacks, judged_variable}
use Rattle.ability_rules.proofs.Asks.{one_ask}
use Rattle.ability_rules.proofs.required.required.leaf_lacks.Goals as goal

pub returns-in-Local : goal.returns-in-Local
returns-in-Local c = λ nodes first.
    c.use_lacks.ensures nodes first c.in-Local.field-1 ∙ sym (ap (λ (l : CodeLeaf). node_lacks (judged_variable c.args.judged.table.now c.args.judged.variables.now) nodes c.args.variable first (Leaf l)) c.in-Local.is)

pub returns-in-Ignore : goal.returns-in-Ignore
returns-in-Ignore c = λ nodes first.
    one_ask (is_lacking (judged_variable c.args.judged.table.now c.args.judged.variables.now)) (c.args.variable, Drop) c.lacks_drop.result c.lacks_drop.ensures
    ∙ sym (ap (λ (l : CodeLeaf). node_lacks (judged_variable c.args.judged.table.now c.args.judged.variables.now) nodes c.args.variable first (Leaf l)) c.in-Ignore.is)
