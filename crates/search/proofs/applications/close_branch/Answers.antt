use Rattle.std.proofs.Common.{◌≡◌, ◌+◌, arith}
use Rattle.std.specs.Prelude.{length}
use Rattle.search.proofs.ApplicationLemmas.{closed_at, at_true, at_false, falls_by}
use Rattle.search.proofs.applications.close_branch.Goals as goal

pub returns-then-branch-clause-shown : goal.returns-then-branch-clause-shown
returns-then-branch-clause-shown g c =
    let all : c.take_steps-taken.new.left + length c.args.closing.chain.items ≡ c.args.left.now = omega (arith, c.take_steps-taken.ensures.taken, c.take_steps-taken.ensures.within, c.if-taken-len.false, c.len.ensures, c.len-2.ensures) in
    at_true c.in_ok-close.field-0 _ _ c.if-branch.true (closed_at _ g.sought c.args.pool.now c.args.tree.now c.args.left.now c.requires.1.1.0 c.close.new.tree c.args.closing c.take_steps-taken.new.left c.in_ok-close.field-0 c.requires.1.1.1 all c.in_ok-close.ensures.shown)

pub returns-then-branch-clause-falls : goal.returns-then-branch-clause-falls
returns-then-branch-clause-falls g c = falls_by c.args.left.now c.take_steps-taken.new.left c.take_steps-taken.result _ _ c.take_steps-taken.ensures.taken (c.in_ok-close.ensures.waiting c.if-branch.true)

pub returns-else-branch-clause-shown : goal.returns-else-branch-clause-shown
returns-else-branch-clause-shown g c =
    let all : c.take_steps-taken.new.left + length c.args.closing.chain.items ≡ c.args.left.now = omega (arith, c.take_steps-taken.ensures.taken, c.take_steps-taken.ensures.within, c.if-taken-len.false, c.len.ensures, c.len-2.ensures) in
    at_false c.in_ok-close.field-0 _ _ c.if-branch.false (closed_at _ g.sought c.args.pool.now c.args.tree.now c.args.left.now c.requires.1.1.0 c.close.new.tree c.args.closing c.take_steps-taken.new.left c.in_ok-close.field-0 c.requires.1.1.1 all c.in_ok-close.ensures.shown)
