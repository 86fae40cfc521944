use Rattle.std.proofs.Common.{refl, sym, subst, arith}
use Rattle.fol.specs.FormulaData.{terms_of, triggers_of, formulas_of}
use Rattle.term_pool.specs.Items.{TermsItem, TriggersItem, FormulasItem}
use Rattle.term_pool.specs.Pools.{IsItem}
use Rattle.term_pool.specs.declared.node.Two.TheVariants.{Pack, Quantify, ConsTerm, ConsTrigger, ConsFormula}
use Rattle.term_pool.specs.declared.node.Three.TheVariants.{Ternary, SetField, If}
use Rattle.term_pool.proofs.GrowthLemmas.{extends_then, item_stays, two_parts, two_is, three_parts, three_is, if_ok, drop_before}
use Rattle.term_pool.proofs.interning.+terms.Goals as goal

pub intern_two_terms-two-requires : goal.intern_two_terms-two-requires
intern_two_terms-two-requires t c = two_parts c.args.head (item_stays c.intern_term-2.ensures.extends c.in_ok-a.ensures.is) c.in_ok-b.ensures.is (sym c.requires.first) (sym c.requires.second)

pub intern_two_terms-returns-clause-is : goal.intern_two_terms-returns-clause-is
intern_two_terms-returns-clause-is t c = if_ok c.two.result (λ k r. two_is c.args.head (item_stays c.intern_term-2.ensures.extends c.in_ok-a.ensures.is) c.in_ok-b.ensures.is r) c.two.ensures.is

pub intern_two_formulas-two-requires : goal.intern_two_formulas-two-requires
intern_two_formulas-two-requires t c = two_parts c.args.head (item_stays c.intern_formula-2.ensures.extends c.in_ok-p.ensures.is) c.in_ok-q.ensures.is (sym c.requires.first) (sym c.requires.second)

pub intern_two_formulas-returns-clause-is : goal.intern_two_formulas-returns-clause-is
intern_two_formulas-returns-clause-is t c = if_ok c.two.result (λ k r. two_is c.args.head (item_stays c.intern_formula-2.ensures.extends c.in_ok-p.ensures.is) c.in_ok-q.ensures.is r) c.two.ensures.is

pub intern_typed-two-requires : goal.intern_typed-two-requires
intern_typed-two-requires t c = two_parts c.args.head (item_stays c.intern_term.ensures.extends c.in_ok-of.ensures.is) c.in_ok-a.ensures.is (sym c.requires.first) (sym c.requires.second)

pub intern_typed-returns-clause-is : goal.intern_typed-returns-clause-is
intern_typed-returns-clause-is t c = if_ok c.two.result (λ k r. two_is c.args.head (item_stays c.intern_term.ensures.extends c.in_ok-of.ensures.is) c.in_ok-a.ensures.is r) c.two.ensures.is

pub intern_ternary-three-requires : goal.intern_ternary-three-requires
intern_ternary-three-requires t c = three_parts (Ternary c.args.operator) (item_stays c.intern_term-3.ensures.extends (item_stays c.intern_term-2.ensures.extends c.in_ok-a.ensures.is)) (item_stays c.intern_term-3.ensures.extends c.in_ok-b.ensures.is) c.in_ok-c.ensures.is refl refl refl

pub intern_ternary-returns-clause-is : goal.intern_ternary-returns-clause-is
intern_ternary-returns-clause-is t c = if_ok c.three.result (λ k r. three_is (Ternary c.args.operator) (item_stays c.intern_term-3.ensures.extends (item_stays c.intern_term-2.ensures.extends c.in_ok-a.ensures.is)) (item_stays c.intern_term-3.ensures.extends c.in_ok-b.ensures.is) c.in_ok-c.ensures.is r) c.three.ensures.is

pub intern_pack-two-requires : goal.intern_pack-two-requires
intern_pack-two-requires t c = two_parts Pack (item_stays c.intern_terms.ensures.extends c.in_ok-of.ensures.is) c.in_ok-ts.ensures.is refl refl

pub intern_pack-returns-clause-is : goal.intern_pack-returns-clause-is
intern_pack-returns-clause-is t c = if_ok c.two.result (λ k r. two_is Pack (item_stays c.intern_terms.ensures.extends c.in_ok-of.ensures.is) c.in_ok-ts.ensures.is r) c.two.ensures.is

pub intern_set_field-three-requires : goal.intern_set_field-three-requires
intern_set_field-three-requires t c = three_parts (SetField c.args.k) (item_stays c.intern_term-2.ensures.extends (item_stays c.intern_term.ensures.extends c.in_ok-of.ensures.is)) (item_stays c.intern_term-2.ensures.extends c.in_ok-a.ensures.is) c.in_ok-b.ensures.is refl refl refl

pub intern_set_field-returns-clause-is : goal.intern_set_field-returns-clause-is
intern_set_field-returns-clause-is t c = if_ok c.three.result (λ k r. three_is (SetField c.args.k) (item_stays c.intern_term-2.ensures.extends (item_stays c.intern_term.ensures.extends c.in_ok-of.ensures.is)) (item_stays c.intern_term-2.ensures.extends c.in_ok-a.ensures.is) c.in_ok-b.ensures.is r) c.three.ensures.is

pub intern_if-three-requires : goal.intern_if-three-requires
intern_if-three-requires t c = three_parts If (item_stays c.intern_term-2.ensures.extends (item_stays c.intern_term.ensures.extends c.in_ok-p.ensures.is)) (item_stays c.intern_term-2.ensures.extends c.in_ok-a.ensures.is) c.in_ok-b.ensures.is refl refl refl

pub intern_if-returns-clause-is : goal.intern_if-returns-clause-is
intern_if-returns-clause-is t c = if_ok c.three.result (λ k r. three_is If (item_stays c.intern_term-2.ensures.extends (item_stays c.intern_term.ensures.extends c.in_ok-p.ensures.is)) (item_stays c.intern_term-2.ensures.extends c.in_ok-a.ensures.is) c.in_ok-b.ensures.is r) c.three.ensures.is

pub intern_quantify-two-requires : goal.intern_quantify-two-requires
intern_quantify-two-requires t c = two_parts (Quantify c.args.operator c.args.n) (item_stays c.intern_formula.ensures.extends c.in_ok-triggers.ensures.is) c.in_ok-p.ensures.is refl refl

pub intern_quantify-returns-clause-is : goal.intern_quantify-returns-clause-is
intern_quantify-returns-clause-is t c = if_ok c.two.result (λ k r. two_is (Quantify c.args.operator c.args.n) (item_stays c.intern_formula.ensures.extends c.in_ok-triggers.ensures.is) c.in_ok-p.ensures.is r) c.two.ensures.is

pub intern_terms-two-requires : goal.intern_terms-two-requires
intern_terms-two-requires t c = two_parts ConsTerm c.in_ok-first.ensures.is (item_stays c.intern_term.ensures.extends c.loop-rest.invariant.list) refl refl

pub intern_terms-loop-rest-preserved : goal.intern_terms-loop-rest-preserved
intern_terms-loop-rest-preserved t c = record {
  extends = extends_then c.loop-rest.invariant.extends (extends_then c.intern_term.ensures.extends c.two.ensures.extends);
  list = subst (λ xs. IsItem c.two.new.pool c.in_ok-list-2.list (TermsItem (terms_of xs))) (drop_before c.args.terms.now c.loop-rest.rest c.index-terms-rest.result c.loop-rest-test.true c.loop-rest.invariant.within c.index-terms-rest.is)
      (two_is ConsTerm c.in_ok-first.ensures.is (item_stays c.intern_term.ensures.extends c.loop-rest.invariant.list) c.in_ok-list-2.ensures.is);
  within = omega (arith, c.loop-rest.invariant.within);
}

pub intern_triggers-two-requires : goal.intern_triggers-two-requires
intern_triggers-two-requires t c = two_parts ConsTrigger c.in_ok-first.ensures.is (item_stays c.intern_trigger.ensures.extends c.loop-rest.invariant.list) refl refl

pub intern_triggers-loop-rest-preserved : goal.intern_triggers-loop-rest-preserved
intern_triggers-loop-rest-preserved t c = record {
  extends = extends_then c.loop-rest.invariant.extends (extends_then c.intern_trigger.ensures.extends c.two.ensures.extends);
  list = subst (λ xs. IsItem c.two.new.pool c.in_ok-list-2.list (TriggersItem (triggers_of xs))) (drop_before c.args.triggers.now c.loop-rest.rest c.index-triggers-rest.result c.loop-rest-test.true c.loop-rest.invariant.within c.index-triggers-rest.is)
      (two_is ConsTrigger c.in_ok-first.ensures.is (item_stays c.intern_trigger.ensures.extends c.loop-rest.invariant.list) c.in_ok-list-2.ensures.is);
  within = omega (arith, c.loop-rest.invariant.within);
}

pub intern_formulas-two-requires : goal.intern_formulas-two-requires
intern_formulas-two-requires t c = two_parts ConsFormula c.in_ok-first.ensures.is (item_stays c.intern_formula.ensures.extends c.loop-rest.invariant.list) refl refl

pub intern_formulas-loop-rest-preserved : goal.intern_formulas-loop-rest-preserved
intern_formulas-loop-rest-preserved t c = record {
  extends = extends_then c.loop-rest.invariant.extends (extends_then c.intern_formula.ensures.extends c.two.ensures.extends);
  list = subst (λ xs. IsItem c.two.new.pool c.in_ok-list-2.list (FormulasItem (formulas_of xs))) (drop_before c.args.formulas.now c.loop-rest.rest c.index-formulas-rest.result c.loop-rest-test.true c.loop-rest.invariant.within c.index-formulas-rest.is)
      (two_is ConsFormula c.in_ok-first.ensures.is (item_stays c.intern_formula.ensures.extends c.loop-rest.invariant.list) c.in_ok-list-2.ensures.is);
  within = omega (arith, c.loop-rest.invariant.within);
}
