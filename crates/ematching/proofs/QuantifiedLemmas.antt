-- Quantifiers at nodes.
use Rattle.std.proofs.Common.{◌≡◌, ℕ, ◌<◌, Bool, true, false, List, length, Option, Some, None, refl, sym, ap, ◌∙◌, subst, arith}
use Rattle.std.specs.Prelude.{MatchOption}
use Rattle.std.proofs.lemmas.Option.{slice_get_within}
use Rattle.fol.specs.declared.operators.Quantifier.{Quantifier}
use Rattle.fol.specs.declared.operators.Quantifier.TheVariants.{ForAll, Exists}
use Rattle.fol.specs.FormulaData.{TriggersData, FormulaData, NotFormula, QuantifyFormula}
use Rattle.term_pool.specs.Items.{FormulaItem, TriggersItem, FormulaSort, sort_of, formula_in}
use Rattle.term_pool.specs.Pools.{item_at, IsMade}
use Rattle.term_pool.specs.declared.node.Two.TheVariants.{Quantify as QuantifyHead}
use Rattle.term_pool.specs.declared.node.Node.{Node}
use Rattle.term_pool.specs.declared.node.Node.TheVariants.{Two as TwoNode}
use Rattle.term_pool.specs.Forms.{IsNoDenial, IsDenialOf}
use Rattle.term_pool.proofs.FormLemmas.{denial_is}
use Rattle.term_pool.proofs.ShapeLemmas.{shape_of, a_formula}
use Rattle.ematching.specs.Numbers.{triggers_at, formula_at}
use Rattle.ematching.specs.Quantified.{for_all, quantifier_of, IsQuantified, IsNotQuantified, IsQuantifier, HasNoQuantifier}
use Rattle.ematching.specs.declared.quantified.Universal.{Universal}
use Rattle.ematching.proofs.ApartLemmas.{node_shape, shape_made, two_from}

module _ (ns : List Node) (n : ℕ) (node : Node) (made : IsMade ns n node) where
  inside : n < length ns
  inside = slice_get_within ns n node made.found

  part_within : (a : ℕ) → a < n → a < length ns
  part_within a w = omega (arith, w, inside)

  quantifier_some : (o : Quantifier) (m : Node) → IsMade ns n m → (q : Universal) → quantifier_of o m ≡ Some q → IsQuantifier ns o (formula_at ns n) q
  quantifier_some ForAll (TwoNode (QuantifyHead ForAll x) a b) it q e =
      let same : ◌≡◌ {A = Universal} (record { variable = x; triggers = a; body = b; is_denied = false }) q = cc in
      subst (IsQuantifier ns ForAll (formula_at ns n)) same (record {
        triggers = record { within = part_within a it.parts.0.earlier; sort = it.parts.0.sort };
        body = record { within = part_within b it.parts.1.earlier; sort = it.parts.1.sort };
        kind = refl;
        is = ap formula_in it.item;
      })
  quantifier_some Exists (TwoNode (QuantifyHead Exists x) a b) it q e =
      let same : ◌≡◌ {A = Universal} (record { variable = x; triggers = a; body = b; is_denied = true }) q = cc in
      subst (IsQuantifier ns Exists (formula_at ns n)) same (record {
        triggers = record { within = part_within a it.parts.0.earlier; sort = it.parts.0.sort };
        body = record { within = part_within b it.parts.1.earlier; sort = it.parts.1.sort };
        kind = refl;
        is = ap formula_in it.item;
      })
  quantifier_some ForAll _ it q e = absurd (cc)
  quantifier_some Exists _ it q e = absurd (cc)

  module _ (sort : sort_of (item_at ns n) ≡ FormulaSort) where
    shape_is : (p : FormulaData) → formula_at ns n ≡ p → node_shape ns node ≡ shape_of (FormulaItem p)
    shape_is p e = sym (shape_made ns n node made) ∙ ap shape_of (sym (a_formula (item_at ns n) sort)) ∙ ap (λ q. shape_of (FormulaItem q)) e

    quantifier_none : (o : Quantifier) → quantifier_of o node ≡ None → HasNoQuantifier o (formula_at ns n)
    quantifier_none ForAll e = record { none = λ x ts body f. (let it = two_from ns (QuantifyHead ForAll x) (TriggersItem ts) (FormulaItem body) node (shape_is (QuantifyFormula ForAll x ts body) f) in let both = sym e ∙ ap (quantifier_of ForAll) (sym it.is) in absurd (cc)) }
    quantifier_none Exists e = record { none = λ x ts body f. (let it = two_from ns (QuantifyHead Exists x) (TriggersItem ts) (FormulaItem body) node (shape_is (QuantifyFormula Exists x ts body) f) in let both = sym e ∙ ap (quantifier_of Exists) (sym it.is) in absurd (cc)) }

    pub quantifier_found : (o : Quantifier) (found : Option Universal) → found ≡ quantifier_of o node → MatchOption found (HasNoQuantifier o (formula_at ns n)) (IsQuantifier ns o (formula_at ns n))
    quantifier_found o None e = quantifier_none o (sym e)
    quantifier_found o (Some q) e = quantifier_some o node made q (sym e)

module _ (ns : List Node) (n : ℕ) where
  pub plain_found : IsNoDenial (formula_at ns n) → (found : Option Universal) → MatchOption found (HasNoQuantifier ForAll (formula_at ns n)) (IsQuantifier ns ForAll (formula_at ns n)) → MatchOption found (IsNotQuantified (formula_at ns n)) (IsQuantified ns (formula_at ns n))
  plain_found plain None h = record { none = go }
    where
      go : (denied : Bool) (x : ℕ) (ts : TriggersData) (body : FormulaData) → formula_at ns n ≡ for_all denied x ts body → ⊥
      go false x ts body f = h.none x ts body f
      go true x ts body f = plain.none (QuantifyFormula Exists x ts body) f
  plain_found plain (Some q) h = record {
    triggers = h.triggers;
    body = h.body;
    is = h.is ∙ sym (ap (λ d. for_all d q.variable (triggers_at ns q.triggers) (formula_at ns q.body)) h.kind);
  }

  pub denied_found : (a : ℕ) → IsDenialOf ns n a → (found : Option Universal) → MatchOption found (HasNoQuantifier Exists (formula_at ns a)) (IsQuantifier ns Exists (formula_at ns a)) → MatchOption found (IsNotQuantified (formula_at ns n)) (IsQuantified ns (formula_at ns n))
  denied_found a it None h = record { none = go }
    where
      go : (denied : Bool) (x : ℕ) (ts : TriggersData) (body : FormulaData) → formula_at ns n ≡ for_all denied x ts body → ⊥
      go false x ts body f = (let both = sym (denial_is ns n a it) ∙ f in absurd (cc))
      go true x ts body f =
          let both : NotFormula (formula_at ns a) ≡ NotFormula (QuantifyFormula Exists x ts body) = sym (denial_is ns n a it) ∙ f in
          let same : formula_at ns a ≡ QuantifyFormula Exists x ts body = cc in
          h.none x ts body same
  denied_found a it (Some q) h = record {
    triggers = h.triggers;
    body = h.body;
    is = denial_is ns n a it ∙ ap NotFormula h.is ∙ sym (ap (λ d. for_all d q.variable (triggers_at ns q.triggers) (formula_at ns q.body)) h.kind);
  }
