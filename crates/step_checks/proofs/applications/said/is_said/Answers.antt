use Rattle.std.proofs.Common.{refl, arith}
use Rattle.std.proofs.lemmas.List.{length-map}
use Rattle.tableau.specs.PoolBranches.{branch_in, entry_in}
use Rattle.ematching.proofs.SaidLemmas.{none_first, none_next, none_at_all, has_instance}
use Rattle.step_checks.proofs.applications.said.is_said.Goals as goal

pub loop-i-init : goal.loop-i-init
loop-i-init c = none_first (branch_in c.args.pool.now c.args.branch.now) c.args.of.now c.args.term.now

pub returns-then-said : goal.returns-then-said
returns-then-said c = (
  λ t. has_instance (branch_in c.args.pool.now c.args.branch.now) c.args.of.now c.args.term.now c.loop-i.i (c.in_ok-said.ensures.0 c.if-said.true),
  λ h. refl,
)

pub loop-i-preserved : goal.loop-i-preserved
loop-i-preserved c =
    none_next (branch_in c.args.pool.now c.args.branch.now) c.args.of.now c.args.term.now c.loop-i.i c.loop-i.invariant (λ s. (let yes = c.in_ok-said.ensures.1 s in let no = c.if-said.false in absurd (cc)))

pub returns : goal.returns
returns c =
    let all = length-map c.args.branch.now.entries (entry_in c.args.pool.now) in
    let none = none_at_all (branch_in c.args.pool.now c.args.branch.now) c.args.of.now c.args.term.now c.loop-i.i (omega (arith, all, c.len-i-end.ensures, c.loop-i-test.false)) c.loop-i.invariant in
    (λ t. absurd (cc), λ h. absurd (none h))
