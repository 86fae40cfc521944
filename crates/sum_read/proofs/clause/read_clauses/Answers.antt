use Rattle.std.proofs.Common.{◌≡◌, Some, None, sym, ap, ◌∙◌}
use Rattle.sum_read.specs.Clauses.{clause_of}
use Rattle.sum_read.proofs.EachLemmas.{each_more, each_none, hands_on}
use Rattle.sum_read.proofs.clause.read_clauses.Goals as goal

pub returns-in_err-read_clause : goal.returns-in_err-read_clause
returns-in_err-read_clause c =
    hands_on c.from_residual.result _ _ (clause_of c.clause-item.result ≡ None) _ c.from_residual.ensures.1
    (λ none. each_none clause_of c.args.clauses.now c.loop-clause.clause-index c.clause-item.result c.loop-clause-test.true (ap clause_of (sym c.clause-item.is) ∙ none)) c.in_err-read_clause.ensures

pub loop-clause-preserved : goal.loop-clause-preserved
loop-clause-preserved c =
    each_more clause_of c.args.clauses.now c.loop-clause.clause-index c.clause-item.result _ c.in_ok-read_clause.field-0 c.loop-clause-test.true c.loop-clause.invariant (ap clause_of (sym c.clause-item.is) ∙ c.in_ok-read_clause.ensures) ∙ ap (λ ys. Some ys) (sym c.in_ok-push.ensures.items)
