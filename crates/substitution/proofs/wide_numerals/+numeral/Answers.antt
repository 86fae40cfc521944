use Rattle.std.proofs.Common.{sym, subst}
use Rattle.substitution.specs.Numerals.{numerals_of_term, numerals_of_terms, numerals_of, HasNoWide, IsWideAmong}
use Rattle.substitution.proofs.NumeralLemmas.{none_next, none_whole, found_in, terms_flat, triggers_flat, formulas_flat}
use Rattle.substitution.proofs.wide_numerals.+numeral.Goals as goal

pub terms_numeral-returns-in-Some : goal.terms_numeral-returns-in-Some
terms_numeral-returns-in-Some t c =
    let xs = c.args.terms.now in
    let i = c.loop-term.term-index in
    let x = c.term-item.result in
    let found = subst (λ y. IsWideAmong (numerals_of_term y) c.in-Some.number) c.term-item.is c.in-Some.ensures in
    subst (λ us. IsWideAmong us c.in-Some.number) (sym (terms_flat xs)) (found_in numerals_of_term xs i x c.in-Some.number c.loop-term-test.true found)

pub terms_numeral-loop-term-preserved : goal.terms_numeral-loop-term-preserved
terms_numeral-loop-term-preserved t c =
    let xs = c.args.terms.now in
    let i = c.loop-term.term-index in
    let x = c.term-item.result in
    none_next numerals_of_term xs i x c.loop-term-test.true c.loop-term.invariant (subst (λ y. HasNoWide (numerals_of_term y)) c.term-item.is c.in_default.ensures)

pub terms_numeral-returns : goal.terms_numeral-returns
terms_numeral-returns t c =
    let xs = c.args.terms.now in
    subst HasNoWide (sym (terms_flat xs)) (none_whole numerals_of_term xs c.loop-term.term-index c.loop-term-test.false c.loop-term.invariant)

pub triggers_numeral-returns-in-Some : goal.triggers_numeral-returns-in-Some
triggers_numeral-returns-in-Some t c =
    let xs = c.args.triggers.now in
    let i = c.loop-trigger.trigger-index in
    let x = c.trigger-item.result in
    let found = subst (λ y. IsWideAmong (numerals_of_terms y) c.in-Some.number) c.trigger-item.is c.in-Some.ensures in
    subst (λ us. IsWideAmong us c.in-Some.number) (sym (triggers_flat xs)) (found_in numerals_of_terms xs i x c.in-Some.number c.loop-trigger-test.true found)

pub triggers_numeral-loop-trigger-preserved : goal.triggers_numeral-loop-trigger-preserved
triggers_numeral-loop-trigger-preserved t c =
    let xs = c.args.triggers.now in
    let i = c.loop-trigger.trigger-index in
    let x = c.trigger-item.result in
    none_next numerals_of_terms xs i x c.loop-trigger-test.true c.loop-trigger.invariant (subst (λ y. HasNoWide (numerals_of_terms y)) c.trigger-item.is c.in_default.ensures)

pub triggers_numeral-returns : goal.triggers_numeral-returns
triggers_numeral-returns t c =
    let xs = c.args.triggers.now in
    subst HasNoWide (sym (triggers_flat xs)) (none_whole numerals_of_terms xs c.loop-trigger.trigger-index c.loop-trigger-test.false c.loop-trigger.invariant)

pub formulas_numeral-returns-in-Some : goal.formulas_numeral-returns-in-Some
formulas_numeral-returns-in-Some t c =
    let xs = c.args.formulas.now in
    let i = c.loop-formula.formula-index in
    let x = c.formula-item.result in
    let found = subst (λ y. IsWideAmong (numerals_of y) c.in-Some.number) c.formula-item.is c.in-Some.ensures in
    subst (λ us. IsWideAmong us c.in-Some.number) (sym (formulas_flat xs)) (found_in numerals_of xs i x c.in-Some.number c.loop-formula-test.true found)

pub formulas_numeral-loop-formula-preserved : goal.formulas_numeral-loop-formula-preserved
formulas_numeral-loop-formula-preserved t c =
    let xs = c.args.formulas.now in
    let i = c.loop-formula.formula-index in
    let x = c.formula-item.result in
    none_next numerals_of xs i x c.loop-formula-test.true c.loop-formula.invariant (subst (λ y. HasNoWide (numerals_of y)) c.formula-item.is c.in_default.ensures)

pub formulas_numeral-returns : goal.formulas_numeral-returns
formulas_numeral-returns t c =
    let xs = c.args.formulas.now in
    subst HasNoWide (sym (formulas_flat xs)) (none_whole numerals_of xs c.loop-formula.formula-index c.loop-formula-test.false c.loop-formula.invariant)
