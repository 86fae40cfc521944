use Rattle.std.proofs.Common.{◌≡◌, ℕ, ◌<◌, List, length, get_or, sym, ap, ◌∙◌, subst}
use Rattle.std.proofs.lemmas.Result.{on_ok_weaker}
use Rattle.indexmap.specs.IndexMap.{get}
use Rattle.term_pool.specs.NodeCodes.{same_node}
use Rattle.term_pool.specs.declared.node.Node.{Node}
use Rattle.congruence_closure.specs.Signatures.{class_in}
use Rattle.congruence_closure.specs.States.{numbers_at, AreMoved, IsRenamed}
use Rattle.congruence_closure.proofs.ListLemmas.{written}
use Rattle.congruence_closure.proofs.UnionLemmas.{moved_within, moved_all, users_within, merged_named, merged_honest, merged_fewer, merged}
use Rattle.congruence_closure.proofs.classes.state.State.merge.Goals as goal

pub rename-requires-clause-numbers : goal.rename-requires-clause-numbers
rename-requires-clause-numbers c =
    let s = c.args.self.now in
    let is : c.as_slice.result.now ≡ numbers_at s.members.items c.args.from = c.as_slice.ensures ∙ c.in_ok-moved.ensures.are ∙ ap (λ (xs : List (List ℕ)). numbers_at xs c.args.from) c.as_mut_slice.ensures.value in
    let long : length s.nodes.items ≡ length c.as_mut_slice-2.result.now = sym c.requires.kept.one_each ∙ ap (λ (xs : List ℕ). length xs) (sym c.as_mut_slice-2.ensures.value) in
    moved_within _ _ _ _ _ _ _ _ c.requires.kept c.args.from (length c.as_mut_slice-2.result.now) c.as_slice.result.now is long

pub rename-requires-clause-all : goal.rename-requires-clause-all
rename-requires-clause-all c =
    let s = c.args.self.now in
    let is : c.as_slice.result.now ≡ numbers_at s.members.items c.args.from = c.as_slice.ensures ∙ c.in_ok-moved.ensures.are ∙ ap (λ (xs : List (List ℕ)). numbers_at xs c.args.from) c.as_mut_slice.ensures.value in
    λ i w e.
    moved_all _ _ _ _ _ _ _ _ c.requires.kept c.args.from c.as_slice.result.now is i
    (subst (λ (xs : List ℕ). i < length xs) c.as_mut_slice-2.ensures.value w)
    (subst (λ (xs : List ℕ). class_in xs i ≡ c.args.from) c.as_mut_slice-2.ensures.value e)

pub enter_users-requires-clause-named : goal.enter_users-requires-clause-named
enter_users-requires-clause-named c =
    let s = c.args.self.now in
    let renaming : IsRenamed s.classes.items c.rename.new.classes c.args.from c.args.to = subst (λ (xs : List ℕ). IsRenamed xs c.rename.new.classes c.args.from c.args.to) c.as_mut_slice-2.ensures.value c.rename.ensures in
    let back = written s.classes.len s.classes.items c.rename.new.classes renaming.long s.classes.ok.0 in
    merged_named _ _ _ _ _ _ _ _ c.args.link c.args.from c.args.to c.requires.kept c.requires.ends c.requires.apart c.rename.new.classes c.as_slice-3.result.now renaming (c.as_slice-3.ensures.value ∙ back) c.as_slice-2.result.now c.as_slice-2.ensures.value

pub enter_users-requires-clause-honest : goal.enter_users-requires-clause-honest
enter_users-requires-clause-honest c =
    let s = c.args.self.now in
    let renaming : IsRenamed s.classes.items c.rename.new.classes c.args.from c.args.to = subst (λ (xs : List ℕ). IsRenamed xs c.rename.new.classes c.args.from c.args.to) c.as_mut_slice-2.ensures.value c.rename.ensures in
    let back = written s.classes.len s.classes.items c.rename.new.classes renaming.long s.classes.ok.0 in
    merged_honest _ _ _ _ _ _ _ _ c.args.link c.args.from c.args.to c.requires.kept c.requires.ends c.requires.apart c.rename.new.classes c.as_slice-3.result.now renaming (c.as_slice-3.ensures.value ∙ back) c.as_slice-2.result.now c.as_slice-2.ensures.value

pub enter_users-requires-clause-moved : goal.enter_users-requires-clause-moved
enter_users-requires-clause-moved c =
    let s = c.args.self.now in
    let is : c.as_slice-5.result.now ≡ numbers_at s.members.items c.args.from = c.as_slice-5.ensures ∙ c.in_ok-moved.ensures.are ∙ ap (λ (xs : List (List ℕ)). numbers_at xs c.args.from) c.as_mut_slice.ensures.value in
    let long : length s.nodes.items ≡ length c.as_slice-4.result.now = sym c.requires.kept.users.one_each ∙ ap (λ (xs : List (List ℕ)). length xs) (sym c.as_slice-4.ensures.value) in
    moved_within _ _ _ _ _ _ _ _ c.requires.kept c.args.from (length c.as_slice-4.result.now) c.as_slice-5.result.now is long

pub enter_users-requires-clause-users : goal.enter_users-requires-clause-users
enter_users-requires-clause-users c =
    let s = c.args.self.now in
    subst (λ (xs : List Node). (m k : ℕ) → k < length (numbers_at c.as_slice-4.result.now m) → get_or (numbers_at c.as_slice-4.result.now m) k 0 < length xs) (sym c.as_slice-2.ensures.value)
    (subst (λ (xs : List (List ℕ)). (m k : ℕ) → k < length (numbers_at xs m) → get_or (numbers_at xs m) k 0 < length s.nodes.items) (sym c.as_slice-4.ensures.value) (users_within _ _ _ _ _ _ _ _ c.requires.kept))

pub returns-clause-kept : goal.returns-clause-kept
returns-clause-kept c =
    let s = c.args.self.now in
    let renaming : IsRenamed s.classes.items c.rename.new.classes c.args.from c.args.to = subst (λ (xs : List ℕ). IsRenamed xs c.rename.new.classes c.args.from c.args.to) c.as_mut_slice-2.ensures.value c.rename.ensures in
    let back = written s.classes.len s.classes.items c.rename.new.classes renaming.long s.classes.ok.0 in
    let are : AreMoved s.members.items c.move_members.new.members c.args.from c.args.to c.in_ok-moved.moved = subst (λ (xs : List (List ℕ)). AreMoved xs c.move_members.new.members c.args.from c.args.to c.in_ok-moved.moved) c.as_mut_slice.ensures.value c.in_ok-moved.ensures in
    let members = written s.members.len s.members.items c.move_members.new.members are.long s.members.ok.0 in
    on_ok_weaker c.enter_users.result
    (λ entered. merged s.nodes.items s.equations.items s.classes.items s.members.items s.users.items (get same_node s.table) s.links.items s.waiting.items c.args.link c.args.from c.args.to c.requires.kept c.requires.ends c.requires.apart c.rename.new.classes c.as_slice-3.result.now renaming (c.as_slice-3.ensures.value ∙ back)
    c.move_members.new.members _ c.in_ok-moved.moved c.as_slice-5.result.now c.as_slice-2.result.now c.as_slice-4.result.now _ c.push.new.self.items (get same_node c.enter_users.new.table) c.enter_users.new.waiting.items are members c.as_slice-2.ensures.value c.as_slice-4.ensures.value c.as_slice-5.ensures back c.in_ok-push.ensures.items entered)
    c.enter_users.ensures

pub returns-clause-fewer : goal.returns-clause-fewer
returns-clause-fewer c =
    let s = c.args.self.now in
    let renaming : IsRenamed s.classes.items c.rename.new.classes c.args.from c.args.to = subst (λ (xs : List ℕ). IsRenamed xs c.rename.new.classes c.args.from c.args.to) c.as_mut_slice-2.ensures.value c.rename.ensures in
    let back = written s.classes.len s.classes.items c.rename.new.classes renaming.long s.classes.ok.0 in
    on_ok_weaker c.enter_users.result
    (λ entered. merged_fewer s.nodes.items s.equations.items s.classes.items s.members.items s.users.items (get same_node s.table) s.links.items s.waiting.items c.args.link c.args.from c.args.to c.requires.kept c.requires.ends c.requires.apart c.rename.new.classes c.as_slice-3.result.now renaming (c.as_slice-3.ensures.value ∙ back) _ back)
    c.enter_users.ensures
