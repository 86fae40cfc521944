use Rattle.std.proofs.Common.{[], ◌∷◌, ◌++◌, refl, sym, ap, ◌∙◌, subst}
use Rattle.congruence_closure.specs.Known.{AreInEntries}
use Rattle.tableau.specs.States.{HaveNumbers}
use Rattle.tableau.proofs.StateLemmas.{numbers_more, state_classed, classed_more}
use Rattle.tableau.proofs.state.enter_classes.Goals as goal

pub returns-clause-state : goal.returns-clause-state
returns-clause-state c =
    state_classed c.args.pool.now c.args.state.now _ c.requires.state refl refl refl (subst (HaveNumbers c.args.pool.now) (sym c.in_ok-push.ensures.items) (numbers_more c.args.pool.now c.args.state.now.classed.items c.args.entry c.requires.state.classed_numbers c.requires.formula)) c.in_ok-state.ensures.over (c.in_ok-state.ensures.inside (subst (AreInEntries c.args.pool.now) (sym c.replace-before.ensures.value) c.requires.state.inside)) (classed_more c.args.pool.now c.args.state.now.classes.entries _ c.args.state.now.classed.items _ c.args.entry c.requires.state.classed (c.in_ok-state.ensures.entries ∙ ap (λ x. x.entries ++ c.args.entry.formula ∷ []) c.replace-before.ensures.value) c.in_ok-push.ensures.items)
