use Rattle.std.proofs.Common.{◌≡◌, ◌+◌, [], ◌∷◌, ◌++◌, length, take, sym, ap, subst, ◌∙◌, arith, append_assoc}
use Rattle.std.specs.List.{filter_map}
use Rattle.std.proofs.lemmas.Result.{err_from_is_err_and}
use Rattle.std.proofs.lemmas.List.{length-take}
use Rattle.syntax_tree.specs.SourceData.{SourceMemberData}
use Rattle.scopes.specs.Declares.{listed}
use Rattle.resolution.specs.Faults.{IsFaultAmong}
use Rattle.resolution.specs.Items.{form_items}
use Rattle.resolution.specs.OwnersSoFar.{AreOwners, blocks_before}
use Rattle.resolution.specs.Parts.{ArePartsFrom, IsMade, IsPartOf, here_of}
use Rattle.resolution.specs.Programs.{friend_of_member}
use Rattle.resolution.proofs.ItemLaws.{fault_member, known_member, taken_one}
use Rattle.resolution.proofs.PartLaws.{friends_snoc, parts_snoc}
use Rattle.resolution.proofs.parts.own_members.Goals as goal

pub returns-in_err-part-clause-unknown : goal.returns-in_err-part-clause-unknown
returns-in_err-part-clause-unknown c =
    let w = here_of c.args.context.now in
    let ms = w.members in
    let i = c.loop-number.number in
    let m = c.member-item.result in
    let form : c.member.inside.form ≡ m.form = ap (λ (x : SourceMemberData). x.form) c.member.view_is in
    let loops : c.deref.result.now ≡ m.loops = c.deref.ensures.value ∙ ap (λ (x : SourceMemberData). x.loops) c.member.view_is in
    let fault = c.in_err-part.field-0.0 in
    let here = subst (λ ls. IsFaultAmong (form_items w (take i ms) m.form ls) fault) loops (subst (λ f. IsFaultAmong (form_items w (take i ms) f c.deref.result.now) fault) form c.in_err-part.ensures.unknown) in
    let g = fault_member w ms i m fault c.loop-number-test.true c.member-item.is c.loop-number.invariant.known here in
    let p = err_from_is_err_and c.from_residual.result c.from_residual.ensures.1 in
    rw (p.1, p.2) g

pub loop-number-preserved : goal.loop-number-preserved
loop-number-preserved c =
    let w = here_of c.args.context.now in
    let ms = w.members in
    let i = c.loop-number.number in
    let m = c.member-item.result in
    let part = c.in_ok-part.part in
    let form : c.member.inside.form ≡ m.form = ap (λ (x : SourceMemberData). x.form) c.member.view_is in
    let loops : c.deref.result.now ≡ m.loops = c.deref.ensures.value ∙ ap (λ (x : SourceMemberData). x.loops) c.member.view_is in
    let old = c.loop-number.friends in
    let new = c.own_form.new.friends in
    let made : IsMade w i (take i ms) m.form m.loops old new part = subst (λ ls. IsMade w i (take i ms) m.form ls old new part) loops (subst (λ f. IsMade w i (take i ms) f c.deref.result.now old new part) form c.in_ok-part.ensures.made) in
    let h = c.loop-number-test.true in
    let e = c.member-item.is in
    let taken = taken_one ms i m h e in
    let count : 0 + length (take i ms) ≡ i = omega (arith, length-take i ms) in
    let parts = parts_snoc w 0 (take i ms) c.loop-number.parts.items m part c.loop-number.invariant.parts (subst (λ n. IsPartOf w n m part) (sym count) made.part_is) in
    record {
      parts = subst (λ ps. ArePartsFrom w 0 (take (i + 1) ms) ps) (sym c.in_ok-push.ensures.items) (subst (λ xs. ArePartsFrom w 0 xs (c.loop-number.parts.items ++ part ∷ [])) (sym taken) parts);
      friends = made.friends ∙ ap (λ fs. fs ++ listed (friend_of_member w m)) c.loop-number.invariant.friends ∙ append_assoc c.args.friends.now (filter_map (friend_of_member w) (take i ms)) (listed (friend_of_member w m)) ∙ ap (λ fs. c.args.friends.now ++ fs) (sym (friends_snoc w (take i ms) m) ∙ ap (filter_map (friend_of_member w)) (sym taken));
      owners = subst (λ xs. AreOwners w (blocks_before w xs) c.own_form.new.owners.items) (sym taken) (c.in_ok-part.ensures.owners m (sym form));
      known = known_member w ms i m h e c.loop-number.invariant.known made.known;
    }
