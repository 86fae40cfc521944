use Rattle.std.proofs.Common.{arith, rules, length, ◌-◌, ◌+◌}
use Rattle.parser_base.proofs.ListSteps.{fault_hands_on, IfNoTree-weaker}
use Rattle.parser_base.proofs.RepeatLemmas.{repeating_stops, repeating_is_over, repeating_fails, repeating_goes_on}
use Rattle.item_parser.specs.FileReading.{before_module, module_behind}
use Rattle.item_parser.proofs.FileSteps.{no_module, one_module, file_ends, file_goes_on, file_fails}
use Rattle.item_parser.proofs.module.read_file.Goals as goal

pub returns-then-is_empty : goal.returns-then-is_empty
returns-then-is_empty c = file_ends _ _ _ _ (repeating_stops before_module (module_behind c.args.budget) _ _ _ (length c.args.tokens.now - (c.loop.counter + 1)) _ c.loop.invariant (omega arith) (no_module _ (search rules))) (search rules)

pub returns-then-is_empty-2 : goal.returns-then-is_empty-2
returns-then-is_empty-2 c = file_ends _ _ _ _ (repeating_is_over before_module (module_behind c.args.budget) _ _ _ _ c.loop.invariant (omega arith)) (search rules)

pub returns-else-is_empty-2 : goal.returns-else-is_empty-2
returns-else-is_empty-2 c = file_goes_on _ _ _ _ (repeating_is_over before_module (module_behind c.args.budget) _ _ _ _ c.loop.invariant (omega arith)) (search rules)

pub returns-in_err-module : goal.returns-in_err-module
returns-in_err-module c =
    fault_hands_on c.from_residual.result _ _ _ c.from_residual.ensures.1
    (IfNoTree-weaker _ (λ i. file_fails _ _ (repeating_fails before_module (module_behind c.args.budget) _ _ _ (length c.args.tokens.now - (c.loop.counter + 1)) _ _ c.loop.invariant (omega arith) (one_module _ (search rules)) i)) c.in_err-module.ensures)

pub loop-preserved : goal.loop-preserved
loop-preserved c = repeating_goes_on before_module (module_behind c.args.budget) _ _ _ _ _ _ _ _ _ c.loop.invariant (omega arith) (one_module _ (search rules)) c.in_ok-module.ensures c.in_ok-push.ensures.items
