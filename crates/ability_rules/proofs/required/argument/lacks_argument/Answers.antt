use Rattle.std.proofs.Common.{sym, ◌∙◌, arith}
use Rattle.ability_rules.specs.Bodies.{judged_variable}
use Rattle.ability_rules.proofs.Arguments.{argument_found, more_arguments, no_argument}
use Rattle.ability_rules.proofs.required.argument.lacks_argument.Goals as goal

pub loop-variable-preserved : goal.loop-variable-preserved
loop-variable-preserved c =
    more_arguments (judged_variable c.args.judged.table.now c.args.judged.variables.now) c.args.parameters.now c.args.first c.loop-variable.variable (omega arith)
    (sym c.is_argument-is_able.ensures ∙ c.if-not-is_able.false) c.loop-variable.invariant

pub returns-then-not-is_able : goal.returns-then-not-is_able
returns-then-not-is_able c =
    argument_found (judged_variable c.args.judged.table.now c.args.judged.variables.now) c.args.parameters.now c.args.first c.args.next c.loop-variable.variable (omega arith) (omega arith)
    (sym c.is_argument-is_able.ensures ∙ c.if-not-is_able.true)

pub returns : goal.returns
returns c =
    no_argument (judged_variable c.args.judged.table.now c.args.judged.variables.now) c.args.parameters.now c.args.first c.args.next c.loop-variable.variable (omega arith) c.loop-variable.invariant
