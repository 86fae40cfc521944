use Rattle.std.proofs.Common.{subst, arith}
use Rattle.std.specs.Prelude.{MatchOption}
use Rattle.term_pool.proofs.GrowthLemmas.{extends_itself, extends_then}
use Rattle.tableau.specs.PoolBranches.{branch_in}
use Rattle.ematching.specs.Instances.{NoInstanceAt, IsInstanceAt}
use Rattle.ematching.proofs.StepLemmas.{still_over, due_back, none_before, before_first, before_next, before_all, instance_step, no_instance}
use Rattle.ematching.proofs.instances.due.next_instance.Goals as goal

pub loop-i-init : goal.loop-i-init
loop-i-init c = record {
  grown = extends_itself c.args.pool.now;
  index = c.requires.index;
  free = c.requires.free;
  none = before_first (branch_in c.args.pool.now c.args.branch.now);
}

pub instance_at-requires : goal.instance_at-requires
instance_at-requires c = record {
  over = still_over c.args.pool.now c.loop-i.pool c.loop-i.invariant.grown c.args.branch.now c.requires.over;
  index = c.loop-i.invariant.index;
  free = c.loop-i.invariant.free;
}

pub returns-in_err-found-clause-extends : goal.returns-in_err-found-clause-extends
returns-in_err-found-clause-extends c = extends_then c.loop-i.invariant.grown c.instance_at.ensures.extends

pub returns-in-Some-clause-extends : goal.returns-in-Some-clause-extends
returns-in-Some-clause-extends c = extends_then c.loop-i.invariant.grown c.instance_at.ensures.extends

pub returns-in-Some-clause-due : goal.returns-in-Some-clause-due
returns-in-Some-clause-due c =
    let ns = c.args.pool.now in
    let ms = c.loop-i.pool in
    let ks = c.instance_at.new.pool in
    let d = c.args.branch.now in
    let grown = c.loop-i.invariant.grown in
    let known = subst (λ o. MatchOption o (NoInstanceAt (branch_in ms d) c.loop-i.i) (IsInstanceAt ks (branch_in ms d) c.loop-i.i)) c.in-Some.is c.in_ok-found.ensures.due in
    instance_step ns ks (extends_then grown c.instance_at.ensures.extends) d c.requires.over c.loop-i.i c.in-Some.step c.loop-i.invariant.none (due_back ns ms ks grown d c.requires.over c.loop-i.i c.in-Some.step known)

pub loop-i-preserved : goal.loop-i-preserved
loop-i-preserved c =
    let ns = c.args.pool.now in
    let ms = c.loop-i.pool in
    let ks = c.instance_at.new.pool in
    let d = c.args.branch.now in
    let grown = c.loop-i.invariant.grown in
    let known = subst (λ o. MatchOption o (NoInstanceAt (branch_in ms d) c.loop-i.i) (IsInstanceAt ks (branch_in ms d) c.loop-i.i)) c.in_default.is c.in_ok-found.ensures.due in
    record {
      grown = extends_then grown c.instance_at.ensures.extends;
      index = c.in_ok-found.ensures.index;
      free = c.in_ok-found.ensures.free;
      none = before_next (branch_in ns d) c.loop-i.i c.loop-i.invariant.none (none_before ns ms grown d c.requires.over c.loop-i.i known);
    }

pub returns-clause-extends : goal.returns-clause-extends
returns-clause-extends c = c.loop-i.invariant.grown

pub returns-clause-due : goal.returns-clause-due
returns-clause-due c =
    no_instance c.args.pool.now c.loop-i.pool c.loop-i.invariant.grown c.args.branch.now c.requires.over (before_all c.args.pool.now c.args.branch.now c.loop-i.i (omega (arith, c.len-i-end.ensures, c.loop-i-test.false)) c.loop-i.invariant.none)
