use Rattle.std.proofs.Common.{nat_eq, refl, sym, ◌∙◌}
use Rattle.std.specs.HashSet.{contains}
use Rattle.term_pool.specs.Free.{Passed, Found, Opened}
use Rattle.term_pool.proofs.FreeLemmas.{variable_here}
use Rattle.term_pool.proofs.MemberLemmas.{was_seen, was_unseen, same_seen}
use Rattle.term_pool.proofs.variables.visit.Goals as goal

pub returns-then-not-is_first : goal.returns-then-not-is_first
returns-then-not-is_first c =
    let seen = contains nat_eq c.args.seen.now in
    let also = contains nat_eq c.insert.new.self in
    let n = c.args.number in
    let updates = c.in_ok-is_first.ensures.updates in
    let s = was_seen c.in_ok-is_first.is_first (seen n) c.in_ok-is_first.ensures.added c.if-not-is_first.true in
    Passed s (same_seen seen also n s (record { is = updates.1; others = updates.2 })) refl

pub returns-then-is_variable : goal.returns-then-is_variable
returns-then-is_variable c =
    Found (variable_here c.args.variable c.args.pool.now c.args.number c.in-Some.node c.in-Some.ensures.item (sym c.is_variable.ensures ∙ c.if-is_variable.true))

pub returns : goal.returns
returns c =
    let n = c.args.number in
    let updates = c.in_ok-is_first.ensures.updates in
    let s = was_unseen c.in_ok-is_first.is_first (contains nat_eq c.args.seen.now n) c.in_ok-is_first.ensures.added c.if-not-is_first.false in
    Opened c.in-Some.node c.in-Some.ensures (sym c.is_variable.ensures ∙ c.if-is_variable.false) s (record { is = updates.1; others = updates.2 }) c.in_ok-wait_for_parts.ensures
