use Rattle.std.proofs.Common.{refl, sym, subst, arith}
use Rattle.std.proofs.lemmas.List.{length-map}
use Rattle.tableau.specs.PoolBranches.{branch_in, entry_in}
use Rattle.ematching.specs.Numbers.{term_at}
use Rattle.ematching.specs.Bodies.{universal_at, IsSaidNumber, IsSaidAt}
use Rattle.ematching.proofs.SaidLemmas.{none_first, none_next, none_at_all, has_instance}
use Rattle.ematching.proofs.instances.said.is_said_somewhere.Goals as goal

pub loop-i-init : goal.loop-i-init
loop-i-init c = none_first (branch_in c.args.pool.now c.args.branch.now) (universal_at c.args.pool.now c.args.universal) (term_at c.args.pool.now c.args.term)

pub is_said_at-requires : goal.is_said_at-requires
is_said_at-requires c = record {
  over = c.requires.over;
  body = c.in_ok-body.ensures;
  made = subst (λ t. IsSaidNumber c.args.pool.now (universal_at c.args.pool.now c.args.universal) t c.args.made) (sym c.in_ok-value.ensures) c.requires.made;
}

pub returns-then-is_said : goal.returns-then-is_said
returns-then-is_said c =
    let at = subst (λ t. IsSaidAt (branch_in c.args.pool.now c.args.branch.now) (universal_at c.args.pool.now c.args.universal) t c.loop-i.i) c.in_ok-value.ensures (c.in_ok-is_said.ensures.0 c.if-is_said.true) in
    (λ t. has_instance (branch_in c.args.pool.now c.args.branch.now) (universal_at c.args.pool.now c.args.universal) (term_at c.args.pool.now c.args.term) c.loop-i.i at, λ h. refl)

pub loop-i-preserved : goal.loop-i-preserved
loop-i-preserved c =
    none_next (branch_in c.args.pool.now c.args.branch.now) (universal_at c.args.pool.now c.args.universal) (term_at c.args.pool.now c.args.term) c.loop-i.i c.loop-i.invariant (λ s. (let yes = c.in_ok-is_said.ensures.1 (subst (λ t. IsSaidAt (branch_in c.args.pool.now c.args.branch.now) (universal_at c.args.pool.now c.args.universal) t c.loop-i.i) (sym c.in_ok-value.ensures) s) in let no = c.if-is_said.false in absurd (cc)))

pub returns : goal.returns
returns c =
    let all = length-map c.args.branch.now.entries (entry_in c.args.pool.now) in
    let none = none_at_all (branch_in c.args.pool.now c.args.branch.now) (universal_at c.args.pool.now c.args.universal) (term_at c.args.pool.now c.args.term) c.loop-i.i (omega (arith, all, c.len-i-end.ensures, c.loop-i-test.false)) c.loop-i.invariant in
    (λ t. absurd (cc), λ h. absurd (none h))
