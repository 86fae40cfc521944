use Rattle.std.proofs.Common.{Some, ap, ◌∙◌, arith, rules, length, ◌-◌, ◌+◌}
use Rattle.parser_base.proofs.ListSteps.{fault_hands_on, IfNoTree-weaker}
use Rattle.expression_parser.proofs.Loops.{fields_are_over, fields_end, fields_are_stuck, fields_go_on}
use Rattle.expression_parser.proofs.term.read_fields.Goals as goal

pub returns : goal.returns
returns c = fields_are_over _ _ _ _ c.loop.invariant (omega arith)

pub returns-in_default : goal.returns-in_default
returns-in_default c = fields_end _ _ (length c.args.tokens.now + 1 - (c.loop.counter + 1)) _ _ c.loop.invariant (omega arith) (search rules) ∙ ap (λ x. Some (x, c.loop.rest.now)) (search rules)

pub returns-in_err-field : goal.returns-in_err-field
returns-in_err-field c =
    fault_hands_on c.from_residual-in_err-field.result _ _ _ c.from_residual-in_err-field.ensures.1
    (IfNoTree-weaker _ (fields_are_stuck _ _ (length c.args.tokens.now + 1 - (c.loop.counter + 1)) _ _ _ c.loop.invariant (omega arith) (search rules)) c.in_err-field.ensures)

pub loop-preserved : goal.loop-preserved
loop-preserved c = fields_go_on _ _ _ _ _ _ _ _ _ c.loop.invariant (omega arith) (search rules) c.in_ok-field.ensures (search rules)
