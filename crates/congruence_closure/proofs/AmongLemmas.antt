-- The ends of the edges of classes are numbers of nodes.
use Rattle.std.proofs.Common.{ℕ, ◌<◌, List, length, take, subst}
use Rattle.std.proofs.lemmas.Option.{slice_get_within}
use Rattle.term_pool.specs.declared.node.Node.{Node}
use Rattle.congruence_closure.specs.Links.{Linked, IsReason}
use Rattle.congruence_closure.specs.States.{AreClasses}
use Rattle.congruence_closure.specs.declared.classes.link.Equation.{Equation}
use Rattle.congruence_closure.specs.declared.classes.link.Link.{Link}
use Rattle.congruence_closure.specs.declared.classes.link.Why.{Why}
use Rattle.congruence_closure.specs.declared.classes.link.Why.TheVariants.{Given, Alike}
use Rattle.congruence_closure.specs.Histories.{AreAmong}

module _ (ns : List Node) (es : List Equation) (cs : List ℕ) (ls : List Link) (classes : AreClasses ns es cs ls) where
  ends : (R : ℕ → ℕ → Type 0) (i j : ℕ) (why : Why) → IsReason ns es R i j why → (i < length ns) × (j < length ns)
  ends R i j (Given k) r = (subst (λ x. x < length ns) r.left (classes.terms.left k r.equation r.found), subst (λ x. x < length ns) r.right (classes.terms.right k r.equation r.found))
  ends R i j Alike r = (slice_get_within ns i r.one r.is_one, slice_get_within ns j r.other r.is_other)

  pub links_among : AreAmong ls (length ns)
  links_among = record {
    left = λ k l f. (ends (Linked (take k ls)) l.left l.right l.why (classes.shown.each k l f)).0;
    right = λ k l f. (ends (Linked (take k ls)) l.left l.right l.why (classes.shown.each k l f)).1;
  }
