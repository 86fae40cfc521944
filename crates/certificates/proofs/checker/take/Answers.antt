use Rattle.std.proofs.Common.{◌≡◌, ◌↔◌, List, sym, ap, ◌∙◌, subst}
use Rattle.std.specs.Prelude.{IsTrue}
use Rattle.fol.specs.FormulaData.{FormulaData}
use Rattle.certificates.specs.CertData.{MoveData, ForkedMove}
use Rattle.certificates.specs.CertView.{move_of_node}
use Rattle.certificates.specs.Closes.{IsForkWithin, IsMoveIn}
use Rattle.certificates.specs.Open.{worked_on, others_of, open_of}
use Rattle.certificates.proofs.CheckerLemmas.{move_made}
use Rattle.certificates.proofs.OpenLemmas.{on_open}
use Rattle.certificates.proofs.checker.take.Goals as goal

pub returns-then-is_fork-clause-exact : goal.returns-then-is_fork-clause-exact
returns-then-is_fork-clause-exact c =
    let old = c.args.branches.now in
    let cause = c.in-Forked.cause in
    let ps = c.as_slice-then-is_fork.result.now in
    let stored = (λ i. ForkedMove cause (c.as_slice-then-is_fork.ensures.value i)) ∙ ap move_of_node (sym c.in-Forked.is) ∙ c.made.view_is in
    let same = c.as_slice.ensures.value ∙ sym c.as_slice-then-is_fork.ensures.value in
    let opened = on_open _ _ (c.is_none.ensures.on c.if-is_none.false) in
    let test = subst (λ (qs : List FormulaData). IsTrue c.is_fork.result ↔ IsForkWithin (worked_on old) cause qs) same c.is_fork.ensures in
    subst (λ (m : MoveData). IsTrue c.fork.result ↔ IsMoveIn c.args.shapes.now (open_of old) m) stored (move_made c.args.shapes.now (worked_on old) (others_of old) (open_of old) (ForkedMove cause ps) _ _ opened test c.if-is_fork.true c.fork.ensures.exact)
