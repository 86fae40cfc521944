use Rattle.std.proofs.Common.{[], ◌∷◌, ◌++◌, refl, ap, ◌∙◌}
use Rattle.tableau.specs.States.{last_of}
use Rattle.tableau.proofs.StateLemmas.{state_more}
use Rattle.tableau.proofs.state.enter.Goals as goal

pub returns-clause-state : goal.returns-clause-state
returns-clause-state c = λ ns h number.
    state_more ns c.args.state.now _ c.args.entry h number c.in_ok-push.ensures.items refl refl refl (c.in_ok-push-2.ensures.items ∙ ap (λ m. c.args.state.now.marks.items ++ m ∷ []) (c.last_marks.ensures ∙ ap last_of c.as_slice.ensures.value))
