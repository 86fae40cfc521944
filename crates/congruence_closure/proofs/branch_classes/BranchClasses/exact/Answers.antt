use Rattle.std.proofs.Common.{subst}
use Rattle.congruence_closure.specs.Known.{BranchClassesData, AreExact}
use Rattle.congruence_closure.proofs.OverLemmas.{exact}
use Rattle.congruence_closure.proofs.branch_classes.BranchClasses.exact.Goals as goal

pub returns : goal.returns
returns c =
    let s = c.self.inside in
    let d : BranchClassesData = record { classes = s.nodes.classes; numbers = s.nodes.numbers.items; known = s.known.entries; entries = s.entries.items } in
    subst (λ (e : BranchClassesData). AreExact e) c.self.view_is (exact d c.exact.ensures c.self.invariant)
