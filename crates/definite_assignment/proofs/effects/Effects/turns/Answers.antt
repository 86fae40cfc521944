use Rattle.std.proofs.Common.{true, false, ap, ◌∙◌}
use Rattle.definite_assignment.specs.LocalEffects.{LocalEffect, then_of, to_out_of, reached}
use Rattle.definite_assignment.specs.Views.{is_in, may, outcome_of, view, wrong}
use Rattle.definite_assignment.proofs.StateLaws.{some_same, effect_same}
use Rattle.definite_assignment.proofs.effects.Effects.turns.Goals as goal

pub returns-clause-ends : goal.returns-clause-ends
returns-clause-ends c i false way state h =
    let test = view c.args.self.now i in
    let body = view c.args.body.now i in
    let out = effect_same (view c.to_out.result i) (to_out_of body) (c.to_out.ensures.ends i) (c.to_out.ensures.broken i) in
    c.from_states.ensures.ends i way state
    ∙ some_same (λ s. is_in c.turn_starts.result.0 s i) (reached test body false) (λ s. may (outcome_of c.then-last.result s) way state i) (λ s. (then_of test (to_out_of body)).ends s way state)
    (c.turn_starts.ensures.lacking i false h) (c.turn_starts.ensures.lacking i true h)
    (λ s. c.then-last.ensures.ends i s way state ∙ ap (λ (e : LocalEffect). (then_of test e).ends s way state) out)
returns-clause-ends c i true way state h =
    let test = view c.args.self.now i in
    let body = view c.args.body.now i in
    let out = effect_same (view c.to_out.result i) (to_out_of body) (c.to_out.ensures.ends i) (c.to_out.ensures.broken i) in
    c.from_states-2.ensures.ends i way state
    ∙ some_same (λ s. is_in c.turn_starts.result.1 s i) (reached test body true) (λ s. may (outcome_of c.then-last.result s) way state i) (λ s. (then_of test (to_out_of body)).ends s way state)
    (c.turn_starts.ensures.having i false h) (c.turn_starts.ensures.having i true h)
    (λ s. c.then-last.ensures.ends i s way state ∙ ap (λ (e : LocalEffect). (then_of test e).ends s way state) out)

pub returns-clause-broken : goal.returns-clause-broken
returns-clause-broken c i false rule h =
    let test = view c.args.self.now i in
    let body = view c.args.body.now i in
    let out = effect_same (view c.to_out.result i) (to_out_of body) (c.to_out.ensures.ends i) (c.to_out.ensures.broken i) in
    c.from_states.ensures.broken i rule
    ∙ some_same (λ s. is_in c.turn_starts.result.0 s i) (reached test body false) (λ s. wrong (outcome_of c.then-last.result s) rule i) ((then_of test (to_out_of body)).broken rule)
    (c.turn_starts.ensures.lacking i false h) (c.turn_starts.ensures.lacking i true h)
    (λ s. c.then-last.ensures.broken i s rule ∙ ap (λ (e : LocalEffect). (then_of test e).broken rule s) out)
returns-clause-broken c i true rule h =
    let test = view c.args.self.now i in
    let body = view c.args.body.now i in
    let out = effect_same (view c.to_out.result i) (to_out_of body) (c.to_out.ensures.ends i) (c.to_out.ensures.broken i) in
    c.from_states-2.ensures.broken i rule
    ∙ some_same (λ s. is_in c.turn_starts.result.1 s i) (reached test body true) (λ s. wrong (outcome_of c.then-last.result s) rule i) ((then_of test (to_out_of body)).broken rule)
    (c.turn_starts.ensures.having i false h) (c.turn_starts.ensures.having i true h)
    (λ s. c.then-last.ensures.broken i s rule ∙ ap (λ (e : LocalEffect). (then_of test e).broken rule s) out)
