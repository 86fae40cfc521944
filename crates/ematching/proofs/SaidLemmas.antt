-- Instances of universal formulas for a term.
use Rattle.std.proofs.Common.{◌≡◌, ◌⊎◌, inl, inr, ℕ, ◌+◌, ◌<◌, ◌≤◌, Bool, true, false, List, length, Option, Some, None, refl, sym, ap, ◌∙◌, subst, arith}
use Rattle.std.specs.Prelude.{◌↔◌, IsTrue, slice_get, MatchOption}
use Rattle.std.proofs.lemmas.Bool.{cases_eq}
use Rattle.std.proofs.lemmas.Option.{slice_get_within, same_Some}
use Rattle.fol.specs.Depth.{formula_depth}
use Rattle.fol.specs.declared.operators.Quantifier.TheVariants.{ForAll}
use Rattle.fol.specs.FormulaData.{TermData, TriggersData, FormulaData, NotFormula}
use Rattle.substitution.specs.Instances.{IsInstance}
use Rattle.certificates.specs.Quantified.{IsBodyWith}
use Rattle.term_pool.specs.Items.{FormulaItem, sort_of, formula_in}
use Rattle.term_pool.specs.Pools.{item_at, IsItem, IsMade, HasParts, Extends}
use Rattle.term_pool.specs.Depths.{item_depth, counted}
use Rattle.term_pool.specs.declared.node.One.TheVariants.{Not}
use Rattle.term_pool.specs.declared.node.Node.{Node}
use Rattle.term_pool.specs.declared.node.Node.TheVariants.{One as OneNode}
use Rattle.term_pool.proofs.ItemLemmas.{item_kept}
use Rattle.term_pool.proofs.ShapeLemmas.{a_formula}
use Rattle.certificates.specs.BranchesBranch.{Branch, Entry, Says, Stands}
use Rattle.certificates.specs.Due.{HasInstance}
use Rattle.tableau.specs.PoolBranches.{BranchData, entry_in, branch_in, IsFormulaNumber, IsOver}
use Rattle.tableau.specs.declared.entry.PoolEntry.{PoolEntry}
use Rattle.tableau.proofs.AnswerLemmas.{stored, pure_entry}
use Rattle.term_pool.specs.Put.{put_in, put_in_item}
use Rattle.term_pool.proofs.PutLemmas.{put_instance}
use Rattle.ematching.specs.Numbers.{term_at, formula_at}
use Rattle.ematching.specs.Quantified.{for_all}
use Rattle.ematching.specs.QuantifierFree.{quantifier_free}
use Rattle.term_pool.specs.Forms.{IsNoDenial, IsDenialOf}
use Rattle.term_pool.proofs.FormLemmas.{denial_number, denial_is}
use Rattle.ematching.specs.Bodies.{said_as, IsInstanceNumber, IsSaidNumber, IsInner, HasNoInner, IsSaidAt}
use Rattle.ematching.proofs.UniqueLemmas.{clear, one_instance}
use Rattle.ematching.proofs.DepthLemmas.{same_depth}

-- ---- bodies

said_with : (d : Bool) (x : ℕ) (ts : TriggersData) (body : FormulaData) (t : TermData) (q : FormulaData) → IsInstance x t body q → IsBodyWith ForAll t (for_all d x ts body) (said_as d q)
said_with false x ts body t q h = (refl, h)
said_with true x ts body t q h = (refl, h)

instance_with : (d : Bool) (x : ℕ) (ts : TriggersData) (body : FormulaData) (t : TermData) (q : FormulaData) → IsBodyWith ForAll t (for_all d x ts body) (said_as d q) → IsInstance x t body q
instance_with false x ts body t q h = h.1
instance_with true x ts body t q h = h.1

pub record IsSaidAs (d : Bool) (x : ℕ) (t : TermData) (body p : FormulaData) : Type 0 where
  pub inner : FormulaData
  pub is : p ≡ said_as d inner
  pub instance : IsInstance x t body inner

said_from : (d : Bool) (x : ℕ) (ts : TriggersData) (body : FormulaData) (t : TermData) (p : FormulaData) → IsBodyWith ForAll t (for_all d x ts body) p → IsSaidAs d x t body p
said_from false x ts body t p h = record { inner = p; is = refl; instance = h.1 }
said_from true x ts body t (NotFormula q) h = record { inner = q; is = refl; instance = h.1 }
said_from true x ts body t _ h = absurd h

as_deep : (d : Bool) (p q : FormulaData) → formula_depth p ≡ formula_depth q → formula_depth (said_as d p) ≡ formula_depth (said_as d q)
as_deep false p q e = e
as_deep true p q e = ap (λ n. 1 + n) e

module _ (d : Bool) (x : ℕ) (ts : TriggersData) (body : FormulaData) (t : TermData) (p q : FormulaData) (h : IsBodyWith ForAll t (for_all d x ts body) p) (g : IsBodyWith ForAll t (for_all d x ts body) q) where
  l : IsSaidAs d x t body p
  l = said_from d x ts body t p h

  r : IsSaidAs d x t body q
  r = said_from d x ts body t q g

  pub same_said_depth : formula_depth p ≡ formula_depth q
  same_said_depth = ap formula_depth l.is ∙ as_deep d l.inner r.inner (same_depth x t body l.inner r.inner l.instance r.instance) ∙ sym (ap formula_depth r.is)

  pub one_said : quantifier_free body ≡ true → p ≡ q
  one_said free = l.is ∙ ap (said_as d) (one_instance x t body l.inner r.inner free l.instance r.instance) ∙ sym r.is

-- ---- the instance in the pool

pub instance_number : (ms : List Node) (x : ℕ) (t : TermData) (p q : FormulaData) (n : ℕ) → IsItem ms n (FormulaItem q) → IsInstance x t p q → IsInstanceNumber ms x t p n
instance_number ms x t p q n h g = record {
  number = record { within = h.within; sort = ap sort_of h.is };
  instance = subst (IsInstance x t p) (sym (ap formula_in h.is)) g;
}

-- by trees that were read
pub read_instance : (ms : List Node) (x : ℕ) (t u : TermData) (p r q : FormulaData) (n : ℕ) → u ≡ t → r ≡ p → IsItem ms n (FormulaItem q) → IsInstance x u r q → IsInstanceNumber ms x t p n
read_instance ms x t u p r q n e f h g = instance_number ms x t p q n h (subst (λ a. IsInstance x a p q) e (subst (λ b. IsInstance x u b q) f g))

pub put_number : (ns ms : List Node) (x term body n : ℕ) → IsFormulaNumber ns body → quantifier_free (formula_at ns body) ≡ true → IsItem ms n (put_in_item x (term_at ns term) (item_at ns body)) → IsInstanceNumber ms x (term_at ns term) (formula_at ns body) n
put_number ns ms x term body n number free h =
    let p : FormulaData = formula_at ns body in
    let is : item_at ms n ≡ FormulaItem (put_in x (term_at ns term) (formula_at ns body)) = h.is ∙ ap (put_in_item x (term_at ns term)) (sym (a_formula (item_at ns body) number.sort)) in
    instance_number ms x (term_at ns term) p (put_in x (term_at ns term) p) n (record { within = h.within; is = is }) (put_instance x (term_at ns term) p (clear (term_at ns term) p free))

pub denial_parts : (ns : List Node) (x : ℕ) (t : TermData) (body : FormulaData) (n : ℕ) → IsInstanceNumber ns x t body n → HasParts ns (length ns) (OneNode Not n)
denial_parts ns x t body n h = record { earlier = h.number.within; sort = h.number.sort }

pub said_plain : (ns : List Node) (d : Bool) → d ≡ false → (x : ℕ) (ts : TriggersData) (body : FormulaData) (t : TermData) (n : ℕ) → IsInstanceNumber ns x t body n → IsSaidNumber ns (for_all d x ts body) t n
said_plain ns false e x ts body t n h = record { number = h.number; is_body = (refl, h.instance) }
said_plain ns true e x ts body t n h = absurd (cc)

pub said_denied : (ns ms : List Node) → Extends ns ms → (d : Bool) → d ≡ true → (x : ℕ) (ts : TriggersData) (body : FormulaData) (t : TermData) (n k : ℕ) → IsInstanceNumber ns x t body n → IsMade ms k (OneNode Not n) → IsSaidNumber ms (for_all d x ts body) t k
said_denied ns ms grown true e x ts body t n k h made =
    let is : formula_at ms k ≡ NotFormula (formula_at ns n) = ap formula_in made.item ∙ ap (λ i. NotFormula (formula_in i)) (item_kept ns ms grown n h.number.within) in
    record {
      number = record { within = slice_get_within ms k (OneNode Not n) made.found; sort = ap sort_of made.item };
      is_body = subst (IsBodyWith ForAll t (for_all true x ts body)) (sym is) (said_with true x ts body t (formula_at ns n) h.instance);
    }
said_denied ns ms grown false e x ts body t n k h made = absurd (cc)

-- ---- candidates for the instance

pub inner_itself : (ns : List Node) (d : Bool) → d ≡ false → (n : ℕ) → IsFormulaNumber ns n → IsInner ns d n n
inner_itself ns false e n h = record { number = h; is = refl }
inner_itself ns true e n h = absurd (cc)

pub inner_found : (ns : List Node) (d : Bool) → d ≡ true → (n : ℕ) (found : Option ℕ) → MatchOption found (IsNoDenial (formula_at ns n)) (IsDenialOf ns n) → MatchOption found (HasNoInner d (formula_at ns n)) (IsInner ns d n)
inner_found ns true e n None h = record { none = λ q f. h.none q f }
inner_found ns true e n (Some k) h = let part = denial_number ns n k h in record { number = record { within = part.earlier; sort = part.sort }; is = denial_is ns n k h }
inner_found ns false e n found h = absurd (cc)

-- ---- entries

depth_at : (ns : List Node) (n : ℕ) → IsFormulaNumber ns n → item_depth (item_at ns n) ≡ formula_depth (formula_at ns n)
depth_at ns n h = ap item_depth (sym (a_formula (item_at ns n) h.sort))

module _ (ns : List Node) (b : BranchData) (over : IsOver ns b) (i : ℕ) (p : FormulaData) (t : TermData) where
  pub no_entry : slice_get b.entries i ≡ None → IsTrue false ↔ IsSaidAt (branch_in ns b) p t i
  no_entry none = (λ e. absurd (cc), λ h. (let it = stored ns b.entries i h.says.entry h.says.found in let both : Some it.entry ≡ None = sym it.found ∙ none in absurd (cc)))

  module _ (e : PoolEntry) (found : slice_get b.entries i ≡ Some e) where
    number : IsFormulaNumber ns e.formula
    number = over.formulas i e found

    says : Says (branch_in ns b) i (formula_at ns e.formula)
    says = record { entry = entry_in ns e; found = pure_entry ns b.entries i e found; is = refl }

    said_is : (q : FormulaData) → Says (branch_in ns b) i q → q ≡ formula_at ns e.formula
    said_is q h =
        let same : h.entry ≡ entry_in ns e = same_Some h.entry (entry_in ns e) (sym h.found ∙ pure_entry ns b.entries i e found) in
        sym h.is ∙ ap (λ (y : Entry). y.formula) same

    said_here : IsSaidAt (branch_in ns b) p t i → IsBodyWith ForAll t p (formula_at ns e.formula)
    said_here h = subst (IsBodyWith ForAll t p) (said_is h.formula h.says) h.is_body

module _ (ns : List Node) (b : BranchData) (over : IsOver ns b) (i : ℕ) (e : PoolEntry) (found : slice_get b.entries i ≡ Some e) (d : Bool) (x : ℕ) (ts : TriggersData) (body : FormulaData) (t : TermData) where
  abbrev p : FormulaData
  p = for_all d x ts body

  here : IsSaidAt (branch_in ns b) (for_all d x ts body) t i → IsBodyWith ForAll t (for_all d x ts body) (formula_at ns e.formula)
  here h = said_here ns b over i (for_all d x ts body) t e found h

  pub other_depth : (made m n : ℕ) → IsSaidNumber ns (for_all d x ts body) t made → m ≡ counted (item_depth (item_at ns e.formula)) → n ≡ counted (item_depth (item_at ns made)) → (m ≡ n → ⊥) → IsTrue false ↔ IsSaidAt (branch_in ns b) (for_all d x ts body) t i
  other_depth made m n is f g differ = (
    λ z. absurd (cc),
    λ h. absurd (differ (f ∙ ap counted (depth_at ns e.formula (number ns b over i p t e found) ∙ same_said_depth d x ts body t (formula_at ns e.formula) (formula_at ns made) (here h) is.is_body ∙ sym (depth_at ns made is.number)) ∙ sym g)),
  )

  pub no_inner : HasNoInner d (formula_at ns e.formula) → IsTrue false ↔ IsSaidAt (branch_in ns b) (for_all d x ts body) t i
  no_inner none = (λ z. absurd (cc), λ h. (let it = said_from d x ts body t (formula_at ns e.formula) (here h) in absurd (none.none it.inner it.is)))

  pub by_inner : (inner : ℕ) → IsInner ns d e.formula inner → (r q : FormulaData) → r ≡ body → q ≡ formula_at ns inner → (answer : Bool) → IsTrue answer ↔ IsInstance x t r q → IsTrue answer ↔ IsSaidAt (branch_in ns b) (for_all d x ts body) t i
  by_inner inner is r q er eq answer h = (
    λ z. record { formula = formula_at ns e.formula; says = says ns b over i p t e found; is_body = subst (IsBodyWith ForAll t (for_all d x ts body)) (sym is.is) (said_with d x ts body t (formula_at ns inner) (subst (λ a. IsInstance x t a (formula_at ns inner)) er (subst (IsInstance x t r) eq (h.0 z)))) },
    λ s. h.1 (subst (IsInstance x t r) (sym eq) (subst (λ a. IsInstance x t a (formula_at ns inner)) (sym er) (instance_with d x ts body t (formula_at ns inner) (subst (IsBodyWith ForAll t (for_all d x ts body)) is.is (here s))))),
  )

-- ---- one entry after another

-- no entry before this one is the instance
pub record NoneSaid (b : Branch) (p : FormulaData) (t : TermData) (count : ℕ) : Type 0 where
  pub each : (j : ℕ) → j < count → IsSaidAt b p t j → ⊥

module _ (b : Branch) (p : FormulaData) (t : TermData) where
  pub none_first : NoneSaid b p t 0
  none_first = record { each = λ j w. absurd (omega (arith, w)) }

  pub none_next : (i : ℕ) → NoneSaid b p t i → (IsSaidAt b p t i → ⊥) → NoneSaid b p t (i + 1)
  none_next i h none = record { each = λ j w. go j w (cases_eq j i) }
    where
      go : (j : ℕ) → j < i + 1 → (j ≡ i) ⊎ (j ≡ i → ⊥) → IsSaidAt b p t j → ⊥
      go j w (inl e) s = none (subst (IsSaidAt b p t) e s)
      go j w (inr f) s = h.each j (omega (arith, w, f)) s

  pub has_instance : (i : ℕ) → IsSaidAt b p t i → HasInstance b p t
  has_instance i h = record { body = h.formula; stands = record { position = i; says = h.says }; is_body = h.is_body }

  pub none_at_all : (i : ℕ) → length b ≤ i → NoneSaid b p t i → HasInstance b p t → ⊥
  none_at_all i w h has =
      let position = slice_get_within b has.stands.position has.stands.says.entry has.stands.says.found in
      h.each has.stands.position (omega (arith, position, w)) (record { formula = has.body; says = has.stands.says; is_body = has.is_body })

-- the computed instance is on the branch, or none is if the body is quantifier-free
module _ (ns : List Node) (b : Branch) (d : Bool) (x : ℕ) (ts : TriggersData) (body : FormulaData) (t : TermData) (made : ℕ) (is : IsSaidNumber ns (for_all d x ts body) t made) where
  pub made_stands : Stands b (formula_at ns made) → HasInstance b (for_all d x ts body) t
  made_stands h = record { body = formula_at ns made; stands = h; is_body = is.is_body }

  pub only_made : quantifier_free body ≡ true → HasInstance b (for_all d x ts body) t → Stands b (formula_at ns made)
  only_made free has = subst (Stands b) (one_said d x ts body t has.body (formula_at ns made) has.is_body is.is_body free) has.stands
