use Rattle.std.proofs.Common.{◌↔◌, ◌∙◌, ap, subst}
use Rattle.std.specs.Prelude.{IsTrue, is_some}
use Rattle.congruence_closure.specs.Known.{BranchClassesData, IsKnown}
use Rattle.congruence_closure.proofs.OverLemmas.{known_test}
use Rattle.congruence_closure.proofs.branch_classes.BranchClasses.is_known.Goals as goal

pub returns : goal.returns
returns c =
    let s = c.self.inside in
    let d : BranchClassesData = record { classes = s.nodes.classes; numbers = s.nodes.numbers.items; known = s.known.entries; entries = s.entries.items } in
    subst (λ (e : BranchClassesData). IsTrue c.is_some.result ↔ IsKnown e c.args.number) c.self.view_is (known_test d c.args.number c.is_some.result (c.is_some.ensures ∙ ap is_some c.look_up.ensures))
