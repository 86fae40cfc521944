use Rattle.std.proofs.Common.{sym, subst}
use Rattle.std.specs.Prelude.{MatchOption}
use Rattle.tableau.proofs.GraphLemmas.{ok_map}
use Rattle.tableau.specs.PoolBranches.{branch_in}
use Rattle.row_reasoning.specs.Rows.{AreNames}
use Rattle.step_checks.specs.Rows.{HasNoRows, AreValuedRows}
use Rattle.step_checks.proofs.ValuedLemmas.{not_valued, valued_exactly}
use Rattle.step_checks.proofs.values.valued.is_valued.Goals as goal

pub are_open_values-requires-clause-named : goal.are_open_values-requires-clause-named
are_open_values-requires-clause-named c =
    let ns = c.args.pool.now in
    let b = branch_in ns c.args.branch.now in
    let v = c.args.values.now in
    let are : AreValuedRows ns b v c.in-Some.made = subst (λ m. MatchOption m (HasNoRows ns b v) (AreValuedRows ns b v)) c.in-Some.is c.in_ok-made.ensures in
    rw c.as_slice.ensures.value are.long

pub returns-in_default : goal.returns-in_default
returns-in_default c =
    let ns = c.args.pool.now in
    let b = branch_in ns c.args.branch.now in
    let v = c.args.values.now in
    let none : HasNoRows ns b v = subst (λ m. MatchOption m (HasNoRows ns b v) (AreValuedRows ns b v)) c.in_default.is c.in_ok-made.ensures in
    (λ t. absurd (cc), λ valued. absurd (not_valued ns b v none valued))

pub returns : goal.returns
returns c =
    let ns = c.args.pool.now in
    let b = branch_in ns c.args.branch.now in
    let v = c.args.values.now in
    let are : AreValuedRows ns b v c.in-Some.made = subst (λ m. MatchOption m (HasNoRows ns b v) (AreValuedRows ns b v)) c.in-Some.is c.in_ok-made.ensures in
    ok_map c.are_open_values.result (λ known h. valued_exactly ns c.one_number.ensures c.args.branch.now c.requires.over v c.in-Some.made are known h)
    (rw c.as_slice-2.ensures at (c.are_open_values.ensures are.class (subst (AreNames ns b are.class) (sym c.as_slice.ensures.value) are.all_named)))
