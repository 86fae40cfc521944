use Rattle.tableau.proofs.GraphLemmas.{ok_map}
use Rattle.step_checks.proofs.NamingLemmas.{known_by_back, not_followed_right}
use Rattle.step_checks.proofs.values.naming.is_naming.Goals as goal

pub returns-then-not-is_one : goal.returns-then-not-is_one
returns-then-not-is_one c =
    not_followed_right c.args.pool.now c.one_number.ensures c.args.branch.now c.requires.over c.in_ok-terms.terms.items c.in_ok-terms.ensures c.in_ok-right.right.items c.in_ok-right.ensures c.args.names.now c.in_ok-is_one.is_one c.if-not-is_one.true
    (rw (c.as_slice-2.ensures.value, c.as_slice-3.ensures.value) at c.in_ok-is_one.ensures)

pub returns : goal.returns
returns c =
    let there = rw (c.as_slice-2.ensures.value, c.as_slice-3.ensures.value) at c.in_ok-is_one.ensures in
    let back = rw (c.as_slice-4.ensures.value, c.as_slice-5.ensures.value) at c.follows-2.ensures in
    ok_map c.follows-2.result (λ known h. known_by_back c.args.pool.now c.one_number.ensures c.args.branch.now c.requires.over c.in_ok-terms.terms.items c.in_ok-terms.ensures c.in_ok-right.right.items c.in_ok-right.ensures c.args.names.now (there.0 c.if-not-is_one.false) known h) back
