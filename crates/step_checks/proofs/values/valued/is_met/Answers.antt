use Rattle.std.proofs.Common.{subst}
use Rattle.std.specs.Prelude.{MatchOption}
use Rattle.tableau.proofs.GraphLemmas.{ok_map}
use Rattle.tableau.specs.PoolBranches.{branch_in}
use Rattle.step_checks.specs.Rows.{HasNoRows, AreValuedRows}
use Rattle.step_checks.proofs.ValuedLemmas.{not_met, met_exactly}
use Rattle.step_checks.proofs.values.valued.is_met.Goals as goal

pub returns-in_default : goal.returns-in_default
returns-in_default c =
    let ns = c.args.pool.now in
    let b = branch_in ns c.args.branch.now in
    let v = c.args.values.now in
    let none : HasNoRows ns b v = subst (λ m. MatchOption m (HasNoRows ns b v) (AreValuedRows ns b v)) c.in_default.is c.in_ok-made.ensures in
    (λ t. absurd (cc), λ met. absurd (not_met ns b v none met))

pub returns : goal.returns
returns c =
    let ns = c.args.pool.now in
    let b = branch_in ns c.args.branch.now in
    let v = c.args.values.now in
    let are : AreValuedRows ns b v c.in-Some.made = subst (λ m. MatchOption m (HasNoRows ns b v) (AreValuedRows ns b v)) c.in-Some.is c.in_ok-made.ensures in
    ok_map c.meets_rows.result (λ known h. met_exactly ns c.one_number.ensures c.args.branch.now c.requires.over v c.in-Some.made are known h) (rw c.as_slice.ensures at c.meets_rows.ensures)
