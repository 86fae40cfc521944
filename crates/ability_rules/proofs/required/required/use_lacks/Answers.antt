use Rattle.std.proofs.Common.{sym, ap, ◌∙◌}
use Rattle.program.specs.declared.arena.Node.TheVariants.{Leaf}
use Rattle.program.specs.declared.code.CodeLeaf.TheVariants.{Local}
use Rattle.program.specs.declared.code.LocalUse.{LocalUse}
use Rattle.typing_rules.specs.Required.{Copy}
use Rattle.ability_rules.specs.Bodies.{is_lacking, node_lacks, judged_variable}
use Rattle.ability_rules.proofs.Asks.{one_ask}
use Rattle.ability_rules.proofs.required.required.use_lacks.Goals as goal

pub returns-in-Copy : goal.returns-in-Copy
returns-in-Copy c = λ nodes first local.
    one_ask (is_lacking (judged_variable c.args.judged.table.now c.args.judged.variables.now)) (c.args.variable, Copy) c.lacks_copy.result c.lacks_copy.ensures
    ∙ sym (ap (λ (w : LocalUse). node_lacks (judged_variable c.args.judged.table.now c.args.judged.variables.now) nodes c.args.variable first (Leaf (Local w local))) c.in-Copy.is)
