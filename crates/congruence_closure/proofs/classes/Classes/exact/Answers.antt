use Rattle.std.proofs.Common.{List, subst}
use Rattle.indexmap.specs.IndexMap.{get}
use Rattle.term_pool.specs.NodeCodes.{same_node}
use Rattle.congruence_closure.specs.States.{IsKept, ClassesData, AreClasses}
use Rattle.congruence_closure.specs.declared.classes.link.Link.{Link}
use Rattle.congruence_closure.proofs.ClassesExactLemmas.{exact}
use Rattle.congruence_closure.proofs.classes.Classes.exact.Goals as goal

pub returns : goal.returns
returns c =
    let s = c.self.inside.state in
    let settled = c.self.invariant.0 in
    let kept = c.self.invariant.1 in
    subst (λ (d : ClassesData). AreClasses d.nodes d.equations d.names d.links) c.self.view_is
    (exact s.nodes.items s.equations.items s.classes.items s.members.items s.users.items (get same_node s.table) s.links.items (subst (λ (ws : List Link). IsKept s.nodes.items s.equations.items s.classes.items s.members.items s.users.items (get same_node s.table) s.links.items ws) settled kept))
