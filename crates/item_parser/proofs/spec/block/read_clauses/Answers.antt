use Rattle.std.proofs.Common.{arith, rules, length, ◌-◌, ◌+◌}
use Rattle.parser_base.proofs.ListSteps.{fault_hands_on, IfNoTree-weaker}
use Rattle.parser_base.proofs.RepeatLemmas.{repeating_stops, repeating_is_over, repeating_fails, repeating_goes_on}
use Rattle.item_parser.specs.ClauseReading.{clause_at}
use Rattle.item_parser.specs.BlockReading.{before_clause, clauses_at}
use Rattle.item_parser.proofs.BlockSteps.{no_clause, one_clause}
use Rattle.item_parser.proofs.spec.block.read_clauses.Goals as goal

pub returns : goal.returns
unfolding clauses_at
returns c = repeating_is_over before_clause (clause_at c.args.budget) _ _ _ _ c.loop.invariant (omega arith)

pub returns-then-begins_with : goal.returns-then-begins_with
unfolding clauses_at
returns-then-begins_with c = repeating_stops before_clause (clause_at c.args.budget) _ _ _ (length c.args.tokens.now - (c.loop.counter + 1)) _ c.loop.invariant (omega arith) (no_clause _ (search rules))

pub returns-in_err-clause : goal.returns-in_err-clause
unfolding clauses_at
returns-in_err-clause c =
    fault_hands_on c.from_residual.result _ _ _ c.from_residual.ensures.1
    (IfNoTree-weaker _ (repeating_fails before_clause (clause_at c.args.budget) _ _ _ (length c.args.tokens.now - (c.loop.counter + 1)) _ _ c.loop.invariant (omega arith) (one_clause _ (search rules))) c.in_err-clause.ensures)

pub loop-preserved : goal.loop-preserved
loop-preserved c = repeating_goes_on before_clause (clause_at c.args.budget) _ _ _ _ _ _ _ _ _ c.loop.invariant (omega arith) (one_clause _ (search rules)) c.in_ok-clause.ensures c.in_ok-push.ensures.items
