use Rattle.std.proofs.Common.{◌≡◌, ◌↔◌, true, false, IsTrue, refl, sym, ap, ◌∙◌, subst}
use Rattle.std.specs.Prelude.{Contains}
use Rattle.certificates.specs.Branch.{entries_of}
use Rattle.tableau.specs.PoolBranches.{branch_in}
use Rattle.tableau.specs.Numbers.{formula_at}
use Rattle.explanations.specs.declared.chain.ChainStep.TheVariants.{Rewritten}
use Rattle.step_checks.specs.Links.{number_of, formula_added, IsShallowStep, IsRewritten}
use Rattle.step_checks.proofs.LinkLemmas.{no_news, rewritten_link, step_known}
use Rattle.step_checks.proofs.closings.links.is_link.Goals as goal

pub returns-then-stands_before-clause-exact : goal.returns-then-stands_before-clause-exact
returns-then-stands_before-clause-exact c =
    let ns = c.args.pool.now in
    let so = subst (λ k. Contains (entries_of c.args.line.now) (formula_at ns k)) c.number_of.ensures (subst (λ ps. Contains ps (formula_at ns c.number_of.result)) (sym c.requires.line) (c.if-stands_before.ensures.0 refl)) in
    no_news ns (branch_in ns c.args.branch.now) (entries_of c.args.line.now) c.args.step so

pub returns-in_ok-known-in-Rewritten-clause-exact : goal.returns-in_ok-known-in-Rewritten-clause-exact
returns-in_ok-known-in-Rewritten-clause-exact c =
    let ns = c.args.pool.now in
    let ps = entries_of c.args.line.now in
    let r = c.in-Rewritten.rewriting in
    let known = c.in_ok-known-in-Rewritten.known in
    let number : c.number_of.result ≡ r.formula = c.number_of.ensures ∙ ap number_of c.in-Rewritten.is in
    let same = c.requires.formula ∙ ap (formula_added ns) c.in-Rewritten.is in
    let new : Contains ps (formula_at ns r.formula) → ⊥ = λ h. (
    let both : false ≡ true = c.if-stands_before.ensures.1 (subst (λ qs. Contains qs (formula_at ns c.number_of.result)) c.requires.line (subst (λ k. Contains ps (formula_at ns k)) (sym number) h)) in
    absurd (cc)) in
    step_known ns (branch_in ns c.args.branch.now) ps c.args.step (Rewritten r) c.in-Rewritten.is known (
    rewritten_link ns (branch_in ns c.args.branch.now) ps r new (subst (IsShallowStep ns) c.in-Rewritten.is c.requires.shallow) known
    (subst (λ p. IsTrue known ↔ IsRewritten ps r (formula_at ns r.pattern) p) same c.in_ok-known-in-Rewritten.ensures))
