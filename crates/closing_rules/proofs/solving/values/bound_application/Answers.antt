use Rattle.std.proofs.Common.{rules, FitsSigned, ◌∷◌, [], sym, ap, subst}
use Rattle.std.specs.Int.{w128}
use Rattle.std.proofs.lemmas.Int.{to_z-of_z}
use Rattle.fol.specs.FormulaData.{NumTerm, LeFormula}
use Rattle.term_pool.proofs.GrowthLemmas.{extends_then}
use Rattle.tableau.specs.Numbers.{AreNumbersOf}
use Rattle.row_reasoning.specs.Numbers.{term_at}
use Rattle.search.specs.declared.trees.application.Reason.TheVariants.{Bound}
use Rattle.closing_rules.specs.Bounds.{IsNumeral}
use Rattle.closing_rules.proofs.BoundLemmas.{term_number_stays, numeral_stays, bound_numbers}
use Rattle.closing_rules.proofs.solving.values.bound_application.Goals as goal

pub at_most-requires-clause-lesser : goal.at_most-requires-clause-lesser
at_most-requires-clause-lesser c =
    term_number_stays c.numeral.new.pool c.numeral-2.new.pool c.numeral-2.ensures.extends c.args.bound.term (term_number_stays c.args.pool.now c.numeral.new.pool c.numeral.ensures.extends c.args.bound.term c.requires)

pub at_most-requires-clause-greater : goal.at_most-requires-clause-greater
at_most-requires-clause-greater c =
    (numeral_stays c.numeral.new.pool c.numeral-2.new.pool c.numeral-2.ensures.extends _ c.in_ok-below.below c.in_ok-below.ensures.is).number

pub at_most-requires-2-clause-lesser : goal.at_most-requires-2-clause-lesser
at_most-requires-2-clause-lesser c =
    (numeral_stays c.numeral-2.new.pool c.at_most.new.pool c.at_most.ensures.extends _ c.in_ok-above.above c.in_ok-above.ensures.is).number

pub at_most-requires-2-clause-greater : goal.at_most-requires-2-clause-greater
at_most-requires-2-clause-greater c =
    term_number_stays c.numeral-2.new.pool c.at_most.new.pool c.at_most.ensures.extends c.args.bound.term (term_number_stays c.numeral.new.pool c.numeral-2.new.pool c.numeral-2.ensures.extends c.args.bound.term (term_number_stays c.args.pool.now c.numeral.new.pool c.numeral.ensures.extends c.args.bound.term c.requires))

pub returns-clause-extends : goal.returns-clause-extends
returns-clause-extends c = extends_then (extends_then (extends_then c.numeral.ensures.extends c.numeral-2.ensures.extends) c.at_most.ensures.extends) c.at_most-2.ensures.extends

pub returns-clause-is : goal.returns-clause-is
returns-clause-is c =
    let f : FitsSigned w128 c.args.bound.below = search rules in
    let g : FitsSigned w128 c.args.bound.above = search rules in
    let low : IsNumeral c.numeral.new.pool c.args.bound.below c.in_ok-below.below = subst (λ v. IsNumeral c.numeral.new.pool v c.in_ok-below.below) (to_z-of_z w128 c.args.bound.below f) c.in_ok-below.ensures.is in
    let high : IsNumeral c.numeral-2.new.pool c.args.bound.above c.in_ok-above.above = subst (λ v. IsNumeral c.numeral-2.new.pool v c.in_ok-above.above) (to_z-of_z w128 c.args.bound.above g) c.in_ok-above.ensures.is in
    record {
      reason = ap (Bound c.args.bound.entry c.args.bound.term) (to_z-of_z w128 c.args.bound.below f);
      generation = c.generation_of.ensures c.args.pool.now;
      formulas = subst (AreNumbersOf c.at_most-2.new.pool (LeFormula (term_at c.args.pool.now c.args.bound.term) (NumTerm c.args.bound.below) ∷ LeFormula (NumTerm c.args.bound.above) (term_at c.args.pool.now c.args.bound.term) ∷ [])) (sym c.in_ok-pair.ensures) (bound_numbers c.args.pool.now c.numeral.new.pool c.numeral-2.new.pool c.at_most.new.pool c.at_most-2.new.pool c.numeral.ensures.extends c.numeral-2.ensures.extends c.at_most.ensures.extends c.at_most-2.ensures.extends c.args.bound c.in_ok-below.below c.in_ok-above.above c.in_ok-first.first c.in_ok-second.second c.requires low high c.in_ok-first.ensures.is c.in_ok-second.ensures.is);
    }
