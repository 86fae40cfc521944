use Rattle.std.proofs.Common.{◌≡◌, ◌-◌, length}
use Rattle.parser_base.specs.RepeatReading.{put_all, repeat_at}
use Rattle.item_parser.specs.ClauseReading.{clause_at}
use Rattle.item_parser.specs.BlockReading.{before_clause}
use Rattle.item_parser.proofs.spec.block.read_clauses.Given as goal

abbrev pub invariant-loop : goal.invariant-loop
invariant-loop l =
    repeat_at before_clause (clause_at l.budget) (length l.tokens) l.tokens ≡ put_all l.clauses.items (repeat_at before_clause (clause_at l.budget) (length l.tokens - l.counter) l.rest)
