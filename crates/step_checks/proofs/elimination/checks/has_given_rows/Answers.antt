use Rattle.std.proofs.Common.{sym, subst}
use Rattle.std.specs.Prelude.{All, Contains}
use Rattle.linear_arith.specs.Inequality.{Inequality, padded}
use Rattle.step_checks.proofs.CheckLemmas.{refused, decided_true, decided_false, all_more, all_end, at_row}
use Rattle.step_checks.proofs.elimination.checks.has_given_rows.Goals as goal

pub loop-row-preserved : goal.loop-row-preserved
loop-row-preserved c = λ rows s.
    let P : Inequality → Type 0 = λ row. Contains rows (padded c.args.width row) in
    let here : P c.row-item.result = subst (λ (r : Inequality). Contains rows r) c.in_ok-padded.ensures.padded ((c.in_ok-has.ensures rows s).0 c.if-not-branch.false) in
    all_more P c.args.given.now c.loop-row.row-index c.row-item.result c.loop-row-test.true c.row-item.is here (c.loop-row.invariant rows s)

pub returns-then-not-branch : goal.returns-then-not-branch
returns-then-not-branch c = λ rows s.
    let P : Inequality → Type 0 = λ row. Contains rows (padded c.args.width row) in
    decided_false (All P c.args.given.now) (λ h.
    let at : P c.row-item.result = at_row P c.args.given.now c.loop-row.row-index c.row-item.result c.loop-row-test.true c.row-item.is h in
    refused c.in_ok-has.field-0 (Contains rows c.in_ok-padded.padded) c.if-not-branch.true (c.in_ok-has.ensures rows s) (subst (λ (r : Inequality). Contains rows r) (sym c.in_ok-padded.ensures.padded) at))

pub returns : goal.returns
returns c = λ rows s.
    let P : Inequality → Type 0 = λ row. Contains rows (padded c.args.width row) in
    decided_true (All P c.args.given.now) (all_end P c.args.given.now c.loop-row.row-index c.loop-row-test.false (c.loop-row.invariant rows s))
