use Rattle.std.proofs.Common.{arith}
use Rattle.axiom_instances.specs.Numbers.{term_at}
use Rattle.axiom_instances.proofs.FreshLemmas.{none_free, more_free, all_free, least_free}
use Rattle.axiom_instances.proofs.vector_axioms.fresh.least_fresh.Goals as goal

pub loop-found-init : goal.loop-found-init
loop-found-init c = record { free = none_free _ _; small = omega arith }

pub returns-then-not-found : goal.returns-then-not-found
returns-then-not-found c =
    let free = least_free (term_at c.args.pool.now c.args.left) (term_at c.args.pool.now c.args.right) c.loop-found.variable c.in_ok-found.found c.loop-found.invariant.free c.in_ok-found.ensures c.if-not-found.true in
    record { least = free; is_variable = c.loop-found.invariant.small }

pub returns-then-variable : goal.returns-then-variable
returns-then-variable c =
    all_free (term_at c.args.pool.now c.args.left) (term_at c.args.pool.now c.args.right) c.loop-found.variable c.in_ok-found.found c.loop-found.invariant.free c.in_ok-found.ensures c.if-not-found.false c.if-variable.true

pub loop-found-preserved : goal.loop-found-preserved
loop-found-preserved c = record {
  free = more_free (term_at c.args.pool.now c.args.left) (term_at c.args.pool.now c.args.right) c.loop-found.variable c.in_ok-found.found c.loop-found.invariant.free c.in_ok-found.ensures c.if-not-found.false;
  small = omega (arith, c.if-variable.false, c.loop-found.invariant.small);
}
