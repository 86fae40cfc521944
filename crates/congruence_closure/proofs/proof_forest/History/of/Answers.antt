use Rattle.std.proofs.Common.{◌≡◌, ℕ, List, length, sym, subst}
use Rattle.term_pool.specs.declared.node.Node.{Node}
use Rattle.congruence_closure.specs.States.{AreClasses}
use Rattle.congruence_closure.specs.declared.classes.link.Equation.{Equation}
use Rattle.congruence_closure.specs.declared.classes.link.Link.{Link}
use Rattle.congruence_closure.specs.Histories.{AreAmong}
use Rattle.congruence_closure.proofs.AmongLemmas.{links_among}
use Rattle.congruence_closure.proofs.proof_forest.History.of.Goals as goal

among : (ns : List Node) (es : List Equation) (cs : List ℕ) (ls : List Link) → AreClasses ns es cs ls → (links : List Link) → links ≡ ls → (count : ℕ) → count ≡ length ns → AreAmong links count
among ns es cs ls classes links e count f = subst (AreAmong links) (sym f) (subst (λ xs. AreAmong xs (length ns)) (sym e) (links_among ns es cs ls classes))

pub of_links-requires : goal.of_links-requires
of_links-requires c =
    let d = c.args.classes.now in
    among d.nodes d.equations d.names d.links c.exact.ensures c.links.result.now c.links.ensures c.len.result c.len.ensures
