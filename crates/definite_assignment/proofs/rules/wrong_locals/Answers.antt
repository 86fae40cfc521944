use Rattle.std.proofs.Common.{◌≡◌, ◌+◌, Bool, true, not, ◌&&◌, ltb, length, ◌↔◌, sym, ap, ◌∙◌, subst}
use Rattle.typing_rules.specs.Events.{Unassigned, Undropped}
use Rattle.typing_rules.specs.Pieces.{drops}
use Rattle.typing_rules.specs.LocalRules.{BodyFacts, body_flow}
use Rattle.definite_assignment.specs.LocalEffects.{LocalEffect, effect_of}
use Rattle.definite_assignment.specs.Sets.{has}
use Rattle.definite_assignment.specs.Verdicts.{IsWrong}
use Rattle.definite_assignment.proofs.VerdictLaws.{used_wrong, left_wrong, at_start_is}
use Rattle.definite_assignment.proofs.rules.wrong_locals.Goals as goal

pub returns-clause-unassigned : goal.returns-clause-unassigned
returns-clause-unassigned c = λ i h.
    let body : BodyFacts = record { types = c.args.types.now; parameters = c.args.parameters; nodes = c.args.body.now.nodes } in
    let l = c.args.base + i in
    let effects = c.in_ok-effects.effects in
    let used = c.at_start-used.result in
    let is : has used i ≡ (effect_of l (body_flow body)).broken Unassigned (ltb l c.args.parameters) =
    c.at_start-used.ensures i h ∙ at_start_is effects i Unassigned (has c.below-given.result i)
    ∙ ap (λ (e : LocalEffect). e.broken Unassigned (has c.below-given.result i)) (c.in_ok-effects.ensures.shown i h)
    ∙ ap (λ (b : Bool). (effect_of l (body_flow body)).broken Unassigned b) (c.below-given.ensures i h) in
    let whole : has c.both.result i ≡ (ltb l (length c.args.types.now) && has used i) = c.both.ensures i ∙ ap (λ (b : Bool). b && has used i) (c.below.ensures i h) in
    subst (λ (b : Bool). (b ≡ true) ↔ IsWrong Unassigned body l) (sym whole) (used_wrong body l (has used i) is)

pub returns-clause-undropped : goal.returns-clause-undropped
returns-clause-undropped c = λ i h.
    let body : BodyFacts = record { types = c.args.types.now; parameters = c.args.parameters; nodes = c.args.body.now.nodes } in
    let l = c.args.base + i in
    let effects = c.in_ok-effects.effects in
    let left = c.at_start-left.result in
    let is : has left i ≡ (effect_of l (body_flow body)).broken Undropped (ltb l c.args.parameters) =
    c.at_start-left.ensures i h ∙ at_start_is effects i Undropped (has c.below-given.result i)
    ∙ ap (λ (e : LocalEffect). e.broken Undropped (has c.below-given.result i)) (c.in_ok-effects.ensures.shown i h)
    ∙ ap (λ (b : Bool). (effect_of l (body_flow body)).broken Undropped b) (c.below-given.ensures i h) in
    let whole : has c.both-2.result i ≡ ((ltb l (length c.args.types.now) && not (drops c.args.types.now l)) && has left i) =
    c.both-2.ensures i ∙ ap (λ (b : Bool). b && has left i) (c.undroppable.ensures i h) in
    subst (λ (b : Bool). (b ≡ true) ↔ IsWrong Undropped body l) (sym whole) (left_wrong body l (has left i) is)
