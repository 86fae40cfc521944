use Rattle.std.proofs.Common.{◌≡◌, ◌+◌, ◌++◌, ◌∷◌, [], true, false, refl, sym, subst, arith}
use Rattle.tableau.specs.PoolBranches.{branch_in}
use Rattle.tableau.proofs.TermLemmas.{AreTermsBelow, below_push, below_skip, below_all}
use Rattle.tableau.proofs.aliasing.terms.terms.Goals as goal
use Rattle.tableau.proofs.aliasing.terms.terms.Goals.{then-is_term+in_ok-push, else-is_term}

pub loop-number-preserved : goal.loop-number-preserved
loop-number-preserved c =
    let ns = c.args.pool.now in
    let b = branch_in c.args.pool.now c.args.branch.now in
    let n = c.loop-number.number in
    let xs = c.loop-number.terms.items in
    elim c.if-is_term.branch [
      | then-is_term+in_ok-push w ↦ (
          let e : c.if-is_term.terms.items ≡ xs ++ n ∷ [] = cc (w.terms-is, w.in_ok-push.ensures.items) in
          subst (AreTermsBelow ns b (n + 1)) (sym e) (below_push ns b n xs c.loop-number.invariant (w.if-is_term.ensures.0 refl)))
      | else-is_term w ↦ (
          let e : c.if-is_term.terms.items ≡ xs = cc (w.terms-is) in
          subst (AreTermsBelow ns b (n + 1)) (sym e) (below_skip ns b n xs c.loop-number.invariant (λ s. (let both : false ≡ true = w.if-is_term.ensures.1 s in absurd (cc)))))
    ]

pub returns : goal.returns
returns c =
    below_all c.args.pool.now (branch_in c.args.pool.now c.args.branch.now) c.loop-number.number c.loop-number.terms.items (omega (arith, c.len-number-end.ensures, c.loop-number-test.false)) c.loop-number.invariant
