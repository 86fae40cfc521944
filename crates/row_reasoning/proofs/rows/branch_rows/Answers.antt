use Rattle.std.proofs.Common.{sym, subst}
use Rattle.tableau.specs.PoolBranches.{branch_in}
use Rattle.row_reasoning.specs.Rows.{AreDifferent}
use Rattle.row_reasoning.proofs.StateLemmas.{no_classes, none_given}
use Rattle.row_reasoning.proofs.ResultLemmas.{ok_map}
use Rattle.row_reasoning.proofs.rows.branch_rows.Goals as goal

pub rows_from-requires-clause-different : goal.rows_from-requires-clause-different
rows_from-requires-clause-different c = subst AreDifferent (sym c.new.ensures.empty) no_classes

pub returns-clause-spoken : goal.returns-clause-spoken
returns-clause-spoken c = λ class classing names. ok_map _ _ (λ made h. none_given (branch_in c.args.pool.now c.args.branch.now) class c.new.result.keys made.classes.keys c.new.ensures.empty h) c.rows_from.result (c.rows_from.ensures.spoken class classing names)
