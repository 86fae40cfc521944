use Rattle.std.proofs.Common.{refl, subst}
use Rattle.std.specs.Prelude.{MatchOption}
use Rattle.row_reasoning.specs.Entries.{row_over, IsRowSum, LeavesRow}
use Rattle.row_reasoning.proofs.SideLemmas.{named_side}
use Rattle.row_reasoning.proofs.EntryLemmas.{entry_made, entry_leaves, no_comparison}
use Rattle.row_reasoning.specs.Entries.{formula_at}
use Rattle.row_reasoning.proofs.entry.entry_sum.Goals as goal

pub returns-in_default-clause-is : goal.returns-in_default-clause-is
returns-in_default-clause-is c = λ class h. no_comparison class (formula_at c.args.pool.now c.args.formula) c.in_default.ensures

pub returns-in_default-2-clause-is : goal.returns-in_default-2-clause-is
returns-in_default-2-clause-is c = λ class h.
    entry_leaves c.args.pool.now class c.args.formula c.in-Some.sides c.in-Some.ensures
    (subst (λ m. MatchOption m (LeavesRow (row_over c.args.pool.now class c.in-Some.sides)) (IsRowSum (row_over c.args.pool.now class c.in-Some.sides))) c.in_default-2.is
    (c.in_ok-sum.ensures.is class (named_side c.args.pool.now c.args.formula c.in-Some.sides.lesser class c.args.names.now h c.in-Some.ensures.lesser) (named_side c.args.pool.now c.args.formula c.in-Some.sides.greater class c.args.names.now h c.in-Some.ensures.greater)))

pub returns-clause-is : goal.returns-clause-is
returns-clause-is c = λ class h.
    entry_made c.args.pool.now class c.args.formula c.in-Some.sides c.in-Some.ensures (record { sum = c.in-Some-2.sum; is_equation = c.in-Some.sides.is_equation })
    (subst (λ m. MatchOption m (LeavesRow (row_over c.args.pool.now class c.in-Some.sides)) (IsRowSum (row_over c.args.pool.now class c.in-Some.sides))) c.in-Some-2.is
    (c.in_ok-sum.ensures.is class (named_side c.args.pool.now c.args.formula c.in-Some.sides.lesser class c.args.names.now h c.in-Some.ensures.lesser) (named_side c.args.pool.now c.args.formula c.in-Some.sides.greater class c.args.names.now h c.in-Some.ensures.greater))) refl
