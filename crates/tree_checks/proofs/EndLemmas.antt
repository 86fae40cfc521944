-- The end of a trace.
use Rattle.std.proofs.Common.{◌≡◌, ◌≢◌, ◌↔◌, ℕ, ◌<◌, ◌≤◌, Bool, true, false, IsTrue, List, [], ◌∷◌, length, map, Some, None, refl, sym, ap, ◌∙◌, subst, arith}
use Rattle.fol.specs.declared.shapes.Shape.{Shape}
use Rattle.certificates.specs.CertView.{close_of_node}
use Rattle.term_pool.specs.declared.node.Node.{Node}
use Rattle.certificates.specs.BranchesBranch.{Branch}
use Rattle.certificates.specs.ProofTraces.{OpenBranches, ClosesBranch}
use Rattle.explanations.specs.Chains.{step_in}
use Rattle.search.specs.Trees.{branch_of, waiting_in}
use Rattle.tree_checks.proofs.GrownTruthLemmas.{never}
use Rattle.tree_checks.specs.Partial.{EndsAmong, ArePartial}
use Rattle.tree_checks.specs.Walks.{open_if, waiting_of, opened}
use Rattle.tree_checks.specs.declared.partial.applications.GivenChain.{GivenChain}
use Rattle.tree_checks.specs.declared.partial.walk.Walk.{Walk}
use Rattle.tree_checks.proofs.TakenLemmas.{first_open}

module _ (shapes : List Shape) (ns : List Node) (w : Walk) (given : GivenChain) where
  pub none_ends : w.is_open ≡ false → IsTrue false ↔ EndsAmong shapes ns (opened ns w) given
  none_ends closed = never (λ h. (
      let e : [] ≡ h.b ∷ h.rest = sym (ap (λ o. open_if o ns w.branch.entries (waiting_of w)) closed) ∙ h.is in
      absurd (cc)))

  pub too_many_links : length given.closing.chain.items < given.links → IsTrue false ↔ EndsAmong shapes ns (opened ns w) given
  too_many_links many = never (λ h. (let k = h.within in absurd (omega (arith, k, many))))

  abbrev Closes : Branch → Type 0
  Closes b = ClosesBranch shapes b (map (step_in ns) given.closing.chain.items) (close_of_node given.closing.by)

  pub ends_known : w.is_open ≡ true → given.links ≤ length given.closing.chain.items → (known : Bool) → IsTrue known ↔ Closes (branch_of ns w.branch.entries) → IsTrue known ↔ EndsAmong shapes ns (opened ns w) given
  ends_known is_open within known h =
      let first = first_open shapes ns w is_open in (
        λ t. record { b = branch_of ns w.branch.entries; rest = waiting_in ns w.branch.entries (waiting_of w); is = first; closes = h.0 t; within = within },
        λ among. (
            let both : branch_of ns w.branch.entries ∷ waiting_in ns w.branch.entries (waiting_of w) ≡ among.b ∷ among.rest = sym first ∙ among.is in
            let same : among.b ≡ branch_of ns w.branch.entries = cc in
            h.1 (subst Closes same among.closes)),
      )

module _ (shapes : List Shape) (ns : List Node) (bs : OpenBranches) (left : ℕ) where
  pub plain_end : (known : Bool) → IsTrue known ↔ (left ≡ 0) → IsTrue known ↔ ArePartial shapes ns bs [] None left
  plain_end known h = (
    λ t. record { left = bs; taken = refl; ends = tt; steps = (let e = h.0 t in omega (arith, e)) },
    λ p. h.1 (let s = p.steps in omega (arith, s)),
  )

  module _ (given : GivenChain) where
    pub other_links : given.links ≢ left → IsTrue false ↔ ArePartial shapes ns bs [] (Some given) left
    other_links other = never (λ h. other (let s = h.steps in omega (arith, s)))

    pub chain_end : given.links ≡ left → (known : Bool) → IsTrue known ↔ EndsAmong shapes ns bs given → IsTrue known ↔ ArePartial shapes ns bs [] (Some given) left
    chain_end same known h = (
      λ t. record { left = bs; taken = refl; ends = h.0 t; steps = (omega (arith, same)) },
      λ p. h.1 (subst (λ (os : OpenBranches). EndsAmong shapes ns os given) (sym p.taken) p.ends),
    )
