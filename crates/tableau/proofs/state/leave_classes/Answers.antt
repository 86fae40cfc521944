use Rattle.std.proofs.Common.{map, refl, sym, ap, ◌∙◌, subst}
use Rattle.tableau.specs.Terms.{formula_number}
use Rattle.tableau.specs.States.{HaveNumbers}
use Rattle.tableau.proofs.StateLemmas.{numbers_cut, state_classed}
use Rattle.tableau.proofs.state.leave_classes.Goals as goal

pub classes_of-requires : goal.classes_of-requires
classes_of-requires c = subst (HaveNumbers c.args.pool.now) (sym (c.as_slice.ensures.value ∙ c.truncate.ensures.items)) (numbers_cut c.args.pool.now c.args.count c.args.state.now.classed.items c.requires.classed_numbers)

pub returns-clause-state : goal.returns-clause-state
returns-clause-state c =
    state_classed c.args.pool.now c.args.state.now _ c.requires refl refl refl (subst (HaveNumbers c.args.pool.now) (sym c.truncate.ensures.items) (numbers_cut c.args.pool.now c.args.count c.args.state.now.classed.items c.requires.classed_numbers)) c.in_ok-state.ensures.over c.in_ok-state.ensures.inside (c.in_ok-state.ensures.entries ∙ ap (map formula_number) c.as_slice.ensures.value)
