-- The entries at which a name is due.
use Rattle.std.proofs.Common.{◌≡◌, ℕ, ◌+◌, ◌<◌, ◌≤◌, ◌^◌, Bool, true, false, List, length, Some, None, refl, sym, ap, ◌∙◌, subst, arith, below_more}
use Rattle.std.specs.Prelude.{slice_get}
use Rattle.fol.specs.Depth.{formula_depth}
use Rattle.fol.specs.FormulaData.{TermData, VarTerm, FormulaData, NotFormula, QuantifyFormula, TriggersData}
use Rattle.fol.specs.declared.operators.Quantifier.TheVariants.{ForAll, Exists}
use Rattle.term_pool.specs.Items.{TermItem, FormulaItem, FormulaSort, sort_of, term_in}
use Rattle.term_pool.specs.Pools.{item_at, HasPart, IsItem, IsMade, Extends}
use Rattle.term_pool.specs.declared.node.One.TheVariants.{Not}
use Rattle.term_pool.specs.declared.node.Node.TheVariants.{One as OneNode}
use Rattle.term_pool.proofs.GrowthLemmas.{one_is, one_made}
use Rattle.term_pool.specs.Depths.{item_depth, counted}
use Rattle.term_pool.specs.declared.node.Node.{Node}
use Rattle.term_pool.proofs.ItemLemmas.{item_kept}
use Rattle.term_pool.proofs.ShapeLemmas.{a_formula}
use Rattle.certificates.specs.Quantified.{IsBodyWith}
use Rattle.certificates.specs.Names.{above, above_all}
use Rattle.certificates.specs.BranchesBranch.{Branch, formulas}
use Rattle.certificates.specs.Due.{IsNamed, IsShallow}
use Rattle.tableau.specs.PoolBranches.{BranchData, branch_in, IsFormulaNumber, IsOver}
use Rattle.tableau.specs.declared.entry.PoolEntry.{PoolEntry}
use Rattle.tableau.proofs.AnswerLemmas.{stored}
use Rattle.term_pool.specs.Put.{put_in, put_in_item, IsClear}
use Rattle.term_pool.specs.Values.{with_put}
use Rattle.term_pool.specs.declared.pool_substitution.put.Put.{Put}
use Rattle.term_pool.proofs.PutLemmas.{put_instance}
use Rattle.term_pool.proofs.SizeLemmas.{instance_depth}
use Rattle.tableau.specs.Numbers.{formula_at, IsNumberOf}
use Rattle.tableau.proofs.NumberLemmas.{number_of_item}
use Rattle.tableau.proofs.EntryLemmas.{entry_says, said_is, says_within, still_says}
use Rattle.tableau.specs.Names.{NoNameAt, NoNameBefore, NoName, IsNameStep}
use Rattle.tableau.specs.Existentials.{quantified, body_of, IsNotExistential, IsExistential, IsUnnamed, IsFirstUnnamed}
use Rattle.tableau.specs.declared.names.existentials.Existential.{Existential}
use Rattle.tableau.specs.declared.names.existentials.Unnamed.{Unnamed}
use Rattle.tableau.proofs.AboveLemmas.{formula_new, all_new, entry_below}

-- ---- bodies of existential formulas

not_body : (q : FormulaData) → IsNotExistential q → (t : TermData) (p : FormulaData) → IsBodyWith Exists t q p → ⊥
not_body (QuantifyFormula ForAll n ts body) h t p is = (let both : Exists ≡ ForAll = is.0 in absurd (cc))
not_body (QuantifyFormula Exists n ts body) h t p is = h
not_body (NotFormula (QuantifyFormula ForAll n ts body)) h t p is = h
not_body (NotFormula (QuantifyFormula Exists n ts body)) h t (NotFormula p) is = (let both : ForAll ≡ Exists = is.0 in absurd (cc))
not_body _ h t p is = absurd is

said_depth : (negated : Bool) (n : ℕ) (ts : TriggersData) (body : FormulaData) (v : ℕ) (p : FormulaData) → IsBodyWith Exists (VarTerm v) (quantified negated n ts body) p → formula_depth p ≡ formula_depth (body_of negated body)
said_depth false n ts body v p is = instance_depth n v body p is.1
said_depth true n ts body v (NotFormula p) is = ap (λ d. 1 + d) (instance_depth n v body p is.1)
said_depth true n ts body v _ is = absurd is

body_said : (negated : Bool) (n : ℕ) (ts : TriggersData) (body : FormulaData) (v : ℕ) → IsClear (VarTerm v) body → IsBodyWith Exists (VarTerm v) (quantified negated n ts body) (body_of negated (put_in n (VarTerm v) body))
body_said false n ts body v clear = (refl, put_instance n (VarTerm v) body clear)
body_said true n ts body v clear = (refl, put_instance n (VarTerm v) body clear)

body_below : (negated : Bool) (n : ℕ) (ts : TriggersData) (body : FormulaData) (v : ℕ) → above (quantified negated n ts body) ≤ v → above body ≤ v
body_below false n ts body v h = omega (arith, h)
body_below true n ts body v h = omega (arith, h)

-- ---- depth

depth_at : (ns : List Node) (n : ℕ) → IsFormulaNumber ns n → item_depth (item_at ns n) ≡ formula_depth (formula_at ns n)
depth_at ns n h = ap item_depth (sym (a_formula (item_at ns n) h.sort))

module _ (ns : List Node) (n d : ℕ) (h : IsFormulaNumber ns n) (e : d ≡ counted (item_depth (item_at ns n))) where
  pub body_shallow : (negated : Bool) → negated ≡ false → d ≤ 2000 → IsShallow (body_of negated (formula_at ns n))
  body_shallow false f l = omega (arith, e, l, depth_at ns n h)
  body_shallow true f l = absurd (cc)

  pub body_deep : (negated : Bool) → negated ≡ false → IsShallow (body_of negated (formula_at ns n)) → d ≤ 2000
  body_deep false f l = omega (arith, e, l, depth_at ns n h)
  body_deep true f l = absurd (cc)

  pub negation_shallow : (negated : Bool) → negated ≡ true → d < 2000 → IsShallow (body_of negated (formula_at ns n))
  negation_shallow true f l = omega (arith, e, l, depth_at ns n h)
  negation_shallow false f l = absurd (cc)

  pub negation_deep : (negated : Bool) → negated ≡ true → IsShallow (body_of negated (formula_at ns n)) → d < 2000
  negation_deep true f l = omega (arith, e, l, depth_at ns n h)
  negation_deep false f l = absurd (cc)

-- ---- an entry

module _ (ns : List Node) (d : BranchData) (i : ℕ) where
  pub no_entry : slice_get d.entries i ≡ None → NoNameAt (branch_in ns d) i
  no_entry none = record {
    none = λ v p due. (let it = stored ns d.entries i due.says.entry due.says.found in let both : Some it.entry ≡ None = sym it.found ∙ none in absurd (cc));
  }

  pub is_named : IsNamed (branch_in ns d) i → NoNameAt (branch_in ns d) i
  is_named named = record { none = λ v p due. due.unnamed named }

  module _ (e : PoolEntry) (found : slice_get d.entries i ≡ Some e) where
    pub no_existential : IsNotExistential (formula_at ns e.formula) → NoNameAt (branch_in ns d) i
    no_existential h = record {
      none = λ v p due. not_body (formula_at ns e.formula) h (VarTerm v) p (subst (λ q. IsBodyWith Exists (VarTerm v) q p) (said_is ns d i e due.entry found due.says) due.is_body);
    }

    module _ (x : Existential) (is : IsExistential ns (formula_at ns e.formula) x) where
      pub too_deep : (IsShallow (body_of x.is_negated (formula_at ns x.body)) → ⊥) → NoNameAt (branch_in ns d) i
      too_deep deep = record {
        none = λ v p due. (
            let body : IsBodyWith Exists (VarTerm v) (quantified x.is_negated x.variable is.triggers (formula_at ns x.body)) p = subst (λ q. IsBodyWith Exists (VarTerm v) q p) (said_is ns d i e due.entry found due.says ∙ is.is) due.is_body in
            let same = said_depth x.is_negated x.variable is.triggers (formula_at ns x.body) v p body in
            deep (let s = due.shallow in omega (arith, s, same))
            );
      }

      pub is_unnamed : (IsNamed (branch_in ns d) i → ⊥) → IsShallow (body_of x.is_negated (formula_at ns x.body)) → IsUnnamed ns (branch_in ns d) i x
      is_unnamed unnamed shallow = record {
        formula = formula_at ns e.formula;
        says = entry_says ns d i e found;
        is = is;
        unnamed = unnamed;
        shallow = shallow;
      }

-- ---- entry after entry

pub before_more : (b : Branch) (i : ℕ) → NoNameBefore b i → NoNameAt b i → NoNameBefore b (i + 1)
before_more b i h at = record { each = below_more (NoNameAt b) i h.each at }

pub before_all : (ns : List Node) (d : BranchData) (i : ℕ) → length d.entries ≤ i → NoNameBefore (branch_in ns d) i → NoName (branch_in ns d)
before_all ns d i w h = record {
  each = λ j. record { none = λ v p due. (h.each j (omega (arith, w, says_within ns d j due.entry due.says))).none v p due };
}

-- ---- the instance for a name

pub named_body : (ns ms ps : List Node) → Extends ns ms → (put : Put) (name body k : ℕ) → IsFormulaNumber ns body → IsItem ms put.term (TermItem (VarTerm name)) → IsItem ps k (with_put ms put (item_at ms body)) → IsItem ps k (FormulaItem (put_in put.variable (VarTerm name) (formula_at ns body)))
named_body ns ms ps grown put name body k number term h =
    let kept : item_at ms body ≡ FormulaItem (formula_at ns body) = item_kept ns ms grown body number.within ∙ sym (a_formula (item_at ns body) number.sort) in
    record { within = h.within; is = h.is ∙ (λ i. put_in_item put.variable (term_in (term.is i)) (kept i)) }

pub negation_part : (ps : List Node) (p : FormulaData) (k : ℕ) → IsItem ps k (FormulaItem p) → HasPart ps (length ps) k FormulaSort
negation_part ps p k h = record { earlier = h.within; sort = ap sort_of h.is }

pub negation_item : (ps qs : List Node) → Extends ps qs → (p : FormulaData) (k m : ℕ) → IsItem ps k (FormulaItem p) → IsMade qs m (OneNode Not k) → IsItem qs m (FormulaItem (NotFormula p))
negation_item ps qs grown p k m h made = one_is Not h (one_made Not grown (negation_part ps p k h) made)

pub body_number : (ps : List Node) (negated : Bool) (p : FormulaData) (k : ℕ) → negated ≡ false → IsItem ps k (FormulaItem p) → IsNumberOf ps (body_of negated p) k
body_number ps false p k e h = number_of_item ps p k h
body_number ps true p k e h = absurd (cc)

pub negation_number : (ps : List Node) (negated : Bool) (p : FormulaData) (k : ℕ) → negated ≡ true → IsItem ps k (FormulaItem (NotFormula p)) → IsNumberOf ps (body_of negated p) k
negation_number ps true p k e h = number_of_item ps (NotFormula p) k h
negation_number ps false p k e h = absurd (cc)

-- ---- a name

pub too_wide : (b : Branch) (v : ℕ) → v ≡ above_all (formulas b) → (v < 2 ^ 32 → ⊥) → NoName b
too_wide b v e wide = record {
  each = λ i. record { none = λ u p due. wide (let s = due.is_variable in let a = due.is_above in omega (arith, s, a, e)) };
}

pub name_step : (ns ms : List Node) → Extends ns ms → (d : BranchData) → IsOver ns d → (v : ℕ) → v ≡ above_all (formulas (branch_in ns d)) → v < 2 ^ 32 → (u : Unnamed) → IsFirstUnnamed ns (branch_in ns d) u → (k : ℕ) → IsNumberOf ms (body_of u.existential.is_negated (put_in u.existential.variable (VarTerm v) (formula_at ns u.existential.body))) k → IsNameStep ms (branch_in ms d) (record { entry = u.entry; variable = v; formula = k })
name_step ns ms grown d over v e less u h k numbered = subst (λ b. IsNameStep ms b (record { entry = u.entry; variable = v; formula = k })) (sym (still_says ns ms grown d over)) (record {
  formula = said;
  numbered = numbered;
  due = record {
    entry = h.unnamed.formula;
    says = h.unnamed.says;
    is_body = body;
    is_new = all_new v (formulas (branch_in ns d)) (omega (arith, e));
    is_above = e;
    is_variable = less;
    unnamed = h.unnamed.unnamed;
    shallow = (let same = said_depth x.is_negated x.variable it.triggers (formula_at ns x.body) v said (subst (λ q. IsBodyWith Exists (VarTerm v) q said) it.is body) in let s = h.unnamed.shallow in omega (arith, s, same));
  };
  first = h.first;
})
  where
    x : Existential
    x = u.existential

    it : IsExistential ns h.unnamed.formula x
    it = h.unnamed.is

    said : FormulaData
    said = body_of x.is_negated (put_in x.variable (VarTerm v) (formula_at ns x.body))

    whole : above (quantified x.is_negated x.variable it.triggers (formula_at ns x.body)) ≤ v
    whole = (let l = entry_below (branch_in ns d) u.entry h.unnamed.formula h.unnamed.says in let f = ap above it.is in omega (arith, l, e, f))

    clear : IsClear (VarTerm v) (formula_at ns x.body)
    clear = (formula_new v (formula_at ns x.body) (body_below x.is_negated x.variable it.triggers (formula_at ns x.body) v whole)).1

    body : IsBodyWith Exists (VarTerm v) h.unnamed.formula said
    body = subst (λ q. IsBodyWith Exists (VarTerm v) q said) (sym it.is) (body_said x.is_negated x.variable it.triggers (formula_at ns x.body) v clear)
