use Rattle.std.proofs.Common.{◌≡◌, ◌+◌, ◌*◌, ◌/◌, ◌%◌, ◌<◌, ℕ, Bool, true, List, length, Some, ◌↔◌, subst, sym, ap, ◌∙◌, arith, ltb-true, ltb-false}
use Rattle.std.specs.Prelude.{slice_get, slice_index_or}
use Rattle.std.proofs.lemmas.List.{get_or_default}
use Rattle.std.proofs.lemmas.Option.{slice_get-get_or}
use Rattle.typing_rules.specs.LocalRules.{Comes}
use Rattle.definite_assignment.specs.declared.outcome.Ends.{Ends}
use Rattle.definite_assignment.specs.Views.{is_in}
use Rattle.definite_assignment.specs.Tables.{nowhere, begun}
use Rattle.definite_assignment.proofs.points.states.LocalStates.at.Goals as goal

pub returns-in-Some-get : goal.returns-in-Some-get
returns-in-Some-get c = λ body all near known.
    let local = c.args.local in
    let groups = c.args.self.now.groups.items in
    let g = local / 64 in
    let i = local % 64 in
    let inside : g < length c.deref.result.now = ltb-true g (length c.deref.result.now) (sym c.in-Some.ensures.lookup.0) in
    let there : slice_get groups g ≡ Some c.in-Some.group.now =
    subst (λ (gs : List (List Ends)). slice_get gs g ≡ Some c.in-Some.group.now) c.deref.ensures.value
    (slice_get-get_or c.deref.result.now g c.in-Some.group.now inside ∙ ap Some (sym c.in-Some.ensures.lookup.1)) in
    let tells = all.each g c.in-Some.group.now there in
    let table_is : c.deref-in-Some.result.now ≡ c.in-Some.group.now = c.deref-in-Some.ensures.value ∙ c.group.view_is in
    let here : c.args.node < length c.in-Some.group.now = subst (λ (t : List Ends). c.args.node < length t) table_is (ltb-true c.args.node (length c.deref-in-Some.result.now) (sym c.in-Some-get.ensures.lookup.0)) in
    let states_is : c.in-Some-get.states.now ≡ slice_index_or c.in-Some.group.now c.args.node nowhere =
    c.in-Some-get.ensures.lookup.1 ∙ ap (λ (t : List Ends). slice_index_or t c.args.node c.in-Some-get.states.now) table_is ∙ get_or_default c.in-Some.group.now c.args.node c.in-Some-get.states.now nowhere here in
    let whole : g * 64 + i ≡ local = omega arith in
    record {
      comes = λ has.
          subst (λ (b : Bool). (b ≡ true) ↔ Comes body local c.args.node has) (ap (λ (e : Ends). is_in e has i) (sym states_is) ∙ sym (c.state_of.ensures has))
          (subst (λ (m : ℕ). (begun c.in-Some.group.now i c.args.node has ≡ true) ↔ Comes body m c.args.node has) whole (tells.each i c.args.node has (omega arith) here));
    }

pub returns-in-None-get : goal.returns-in-None-get
returns-in-None-get c = λ body all near known.
    let local = c.args.local in
    let groups = c.args.self.now.groups.items in
    let g = local / 64 in
    let inside : g < length c.deref.result.now = ltb-true g (length c.deref.result.now) (sym c.in-Some.ensures.lookup.0) in
    let there : slice_get groups g ≡ Some c.in-Some.group.now =
    subst (λ (gs : List (List Ends)). slice_get gs g ≡ Some c.in-Some.group.now) c.deref.ensures.value
    (slice_get-get_or c.deref.result.now g c.in-Some.group.now inside ∙ ap Some (sym c.in-Some.ensures.lookup.1)) in
    let tells = all.each g c.in-Some.group.now there in
    let table_is : c.deref-in-Some.result.now ≡ c.in-Some.group.now = c.deref-in-Some.ensures.value ∙ c.group.view_is in
    let past = ltb-false c.args.node (length c.deref-in-Some.result.now) (sym c.in-None-get.ensures.lookup.0) in
    let count : length c.deref-in-Some.result.now ≡ length body.nodes = ap length table_is ∙ tells.same_length in
    absurd (omega arith)
