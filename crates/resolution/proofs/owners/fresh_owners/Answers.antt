use Rattle.std.proofs.Common.{◌≡◌, ℕ, ◌+◌, [], ◌∷◌, ◌++◌, List, map, take, sym, ap, subst, ◌∙◌}
use Rattle.std.proofs.lemmas.List.{map-append, take_all}
use Rattle.syntax_tree.specs.declared.clause.Spec.{Spec as SpecTree}
use Rattle.syntax_tree.specs.SourceData.{SourceMemberData}
use Rattle.syntax_tree.specs.declared.source.SourceForm.{SourceForm}
use Rattle.resolution.specs.Owners.{member_scope, module_scope, owner_scope}
use Rattle.resolution.specs.OwnersSoFar.{AreOwnersFrom, IsOwnerAfter}
use Rattle.resolution.proofs.ItemLaws.{taken_one}
use Rattle.resolution.proofs.OwnerLaws.{owner_fresh, owners_snoc}
use Rattle.resolution.proofs.owners.fresh_owners.Goals as goal

pub loop-member-preserved : goal.loop-member-preserved
loop-member-preserved c = λ schemas.
    let env = c.args.environment.now in
    let ms = c.args.members.now in
    let i = c.loop-member.member-index in
    let m = c.member-item.result in
    let o = c.in_ok-owner.owner in
    let os = c.loop-member.owners.items in
    let none = λ (n : ℕ). let bs : List SpecTree = [] in bs in
    let form : c.member.inside.form ≡ m.form = ap (λ (x : SourceMemberData). x.form) c.member.view_is in
    let one : IsOwnerAfter (member_scope env schemas m) [] o = subst (λ (f : SourceForm). IsOwnerAfter (owner_scope env schemas f) [] o) form (c.in_ok-owner.ensures schemas) in
    let all = owners_snoc none 0 (map (member_scope env schemas) (take i ms)) os (member_scope env schemas m) o (c.loop-member.invariant schemas) one in
    subst (λ ps. AreOwnersFrom none 0 (map (member_scope env schemas) (take (i + 1) ms)) ps) (sym c.in_ok-push.ensures.items)
    (subst (λ ws. AreOwnersFrom none 0 ws (os ++ o ∷ [])) (sym (map-append (member_scope env schemas) (take i ms) (m ∷ [])) ∙ ap (map (member_scope env schemas)) (sym (taken_one ms i m c.loop-member-test.true c.member-item.is))) all)

pub returns : goal.returns
returns c = λ schemas.
    let env = c.args.environment.now in
    let ms = c.args.members.now in
    let i = c.loop-member.member-index in
    let o = c.plain_owner-own.result in
    let os = c.loop-member.owners.items in
    let none = λ (n : ℕ). let bs : List SpecTree = [] in bs in
    let one = owner_fresh (module_scope env schemas) o c.plain_owner-own.ensures.parameters c.plain_owner-own.ensures.target c.plain_owner-own.ensures.settings in
    let members = subst (λ xs. AreOwnersFrom none 0 (map (member_scope env schemas) xs) os) (take_all i ms c.loop-member-test.false) (c.loop-member.invariant schemas) in
    let all = owners_snoc none 0 (map (member_scope env schemas) ms) os (module_scope env schemas) o members one in
    subst (λ ps. AreOwnersFrom none 0 (map (member_scope env schemas) ms ++ module_scope env schemas ∷ []) ps) (sym c.in_ok-push-2.ensures.items) all
