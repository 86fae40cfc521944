use Rattle.std.proofs.Common.{◌≡◌, ℕ, List, [], ◌∷◌, ◌++◌, length, take, drop, ap, ◌∙◌, subst}
use Rattle.std.proofs.lemmas.Result.{on_ok_weaker}
use Rattle.indexmap.specs.IndexMap.{get}
use Rattle.term_pool.specs.NodeCodes.{same_node}
use Rattle.term_pool.specs.declared.node.Node.{Node}
use Rattle.congruence_closure.specs.States.{IsPartOf, AreUsersAdded, IsKept}
use Rattle.congruence_closure.proofs.ListLemmas.{written}
use Rattle.congruence_closure.proofs.ClassesNodeLemmas.{node_parts, node_named, node_honest, node_in}
use Rattle.congruence_closure.proofs.classes.state.State.add_node.Goals as goal

pub enter-requires-clause-parts : goal.enter-requires-clause-parts
enter-requires-clause-parts c =
    let s = c.args.self.now in
    node_parts s.nodes.items s.equations.items s.classes.items s.members.items s.users.items (get same_node s.table) s.links.items s.waiting.items c.requires.kept c.args.node c.requires.parts c.len-number.result (c.len-number.ensures ∙ s.nodes.ok.0) c.as_slice.result.now (c.as_slice.ensures.value ∙ c.in_ok-push-2.ensures.items) c.as_slice-2.result.now (c.as_slice-2.ensures.value ∙ c.in_ok-push-3.ensures.items)

pub enter-requires-clause-named : goal.enter-requires-clause-named
enter-requires-clause-named c =
    let s = c.args.self.now in
    node_named s.nodes.items s.equations.items s.classes.items s.members.items s.users.items (get same_node s.table) s.links.items s.waiting.items c.requires.kept c.args.node c.requires.parts c.len-number.result (c.len-number.ensures ∙ s.nodes.ok.0) c.as_slice.result.now (c.as_slice.ensures.value ∙ c.in_ok-push-2.ensures.items) c.as_slice-2.result.now (c.as_slice-2.ensures.value ∙ c.in_ok-push-3.ensures.items)

pub enter-requires-clause-honest : goal.enter-requires-clause-honest
enter-requires-clause-honest c =
    let s = c.args.self.now in
    node_honest s.nodes.items s.equations.items s.classes.items s.members.items s.users.items (get same_node s.table) s.links.items s.waiting.items c.requires.kept c.args.node c.requires.parts c.len-number.result (c.len-number.ensures ∙ s.nodes.ok.0) c.as_slice.result.now (c.as_slice.ensures.value ∙ c.in_ok-push-2.ensures.items) c.as_slice-2.result.now (c.as_slice-2.ensures.value ∙ c.in_ok-push-3.ensures.items)

pub returns-clause-kept : goal.returns-clause-kept
returns-clause-kept c =
    let s = c.args.self.now in
    let number = c.len-number.result in
    let alone : c.push.new.self ≡ c.len-number.result ∷ [] = c.in_ok-push.ensures ∙ ap (λ (xs : List ℕ). xs ++ number ∷ []) c.new-alone.ensures in
    let members : c.push-4.new.self.items ≡ s.members.items ++ (c.len-number.result ∷ []) ∷ [] = c.in_ok-push-4.ensures.items ∙ ap (λ (xs : List ℕ). s.members.items ++ xs ∷ []) alone in
    let users : c.as_mut_slice.result.now ≡ s.users.items ++ [] ∷ [] = c.as_mut_slice.ensures.value ∙ c.in_ok-push-5.ensures.items ∙ ap (λ (xs : List ℕ). s.users.items ++ xs ∷ []) c.new.ensures in
    let added : AreUsersAdded c.as_mut_slice.result.now c.add_user.new.users number (IsPartOf c.args.node) = c.in_ok-add_user.ensures in
    let back = written c.push-5.new.self.len c.push-5.new.self.items c.add_user.new.users (added.long ∙ ap (λ (xs : List (List ℕ)). length xs) c.as_mut_slice.ensures.value) c.push-5.new.self.ok.0 in
    on_ok_weaker c.enter.result
    (λ entered. subst (λ (xs : List Node). IsKept xs s.equations.items c.push-3.new.self.items c.push-4.new.self.items (take c.push-5.new.self.len (c.add_user.new.users ++ drop (length c.add_user.new.users) c.push-5.new.self.items)) (get same_node c.enter.new.table) s.links.items c.enter.new.waiting.items) c.as_slice.ensures.value
    (subst (λ (xs : List ℕ). IsKept c.as_slice.result.now s.equations.items xs c.push-4.new.self.items (take c.push-5.new.self.len (c.add_user.new.users ++ drop (length c.add_user.new.users) c.push-5.new.self.items)) (get same_node c.enter.new.table) s.links.items c.enter.new.waiting.items) c.as_slice-2.ensures.value
    (node_in s.nodes.items s.equations.items s.classes.items s.members.items s.users.items (get same_node s.table) s.links.items s.waiting.items c.requires.kept c.args.node c.requires.parts number (c.len-number.ensures ∙ s.nodes.ok.0) c.as_slice.result.now (c.as_slice.ensures.value ∙ c.in_ok-push-2.ensures.items) c.as_slice-2.result.now (c.as_slice-2.ensures.value ∙ c.in_ok-push-3.ensures.items)
    c.push-4.new.self.items c.as_mut_slice.result.now c.add_user.new.users _ (get same_node c.enter.new.table) c.enter.new.waiting.items members users back added entered)))
    c.enter.ensures
