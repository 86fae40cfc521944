use Rattle.std.proofs.Common.{None, subst}
use Rattle.std.specs.Prelude.{MatchOption}
use Rattle.certificates.specs.Rows.{IsEntryRow}
use Rattle.row_reasoning.specs.Entries.{formula_at, IsEntrySum}
use Rattle.row_reasoning.proofs.StateLemmas.{no_rows}
use Rattle.row_reasoning.proofs.rows.take_entry.Goals as goal

pub returns-in-None : goal.returns-in-None
returns-in-None c = λ class given ps long named before. no_rows class given ps (formula_at c.args.pool.now c.args.formula) c.args.made.now before
    (subst (λ m. MatchOption m (IsEntryRow class (formula_at c.args.pool.now c.args.formula) None) (IsEntrySum class (formula_at c.args.pool.now c.args.formula))) c.in-None.is (c.in_ok-row.ensures.is class named))
