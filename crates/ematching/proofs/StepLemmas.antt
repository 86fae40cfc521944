-- The due instances, for one term and one entry after another, while the pool is extended.
use Rattle.std.proofs.Common.{Result, Ok, Err, IfOk, ◌≡◌, ◌⊎◌, inl, inr, ℕ, ◌+◌, ◌<◌, ◌≤◌, Bool, false, true, max, List, [], length, get_or, take, Option, Some, None, refl, sym, ap, ◌∙◌, subst, arith, length-append}
use Rattle.std.specs.Prelude.{slice_get, MatchOption, OnOk}
use Rattle.std.proofs.lemmas.Bool.{cases_eq}
use Rattle.std.proofs.lemmas.List.{take_all, take_more, length-map}
use Rattle.std.proofs.lemmas.Option.{slice_get_within, same_Some}
use Rattle.fol.specs.Depth.{term_depth, formula_depth}
use Rattle.fol.specs.declared.operators.Quantifier.TheVariants.{ForAll}
use Rattle.fol.specs.FormulaData.{TermData, FormulaData}
use Rattle.certificates.specs.Quantified.{IsBodyWith}
use Rattle.term_pool.specs.Items.{Sort, TriggersSort, sort_of, term_in, triggers_in, formula_in}
use Rattle.term_pool.specs.Pools.{item_at, Extends}
use Rattle.term_pool.specs.Depths.{item_depth, counted}
use Rattle.term_pool.specs.declared.node.Node.{Node}
use Rattle.term_pool.proofs.ItemLemmas.{item_kept}
use Rattle.term_pool.proofs.ShapeLemmas.{a_term, a_formula}
use Rattle.certificates.specs.BranchesBranch.{Branch, Entry, IsGeneration}
use Rattle.certificates.specs.Due.{InstanceDue, HasInstance, IsMatched, ForAllMatched, NoneMatched, IsShallow}
use Rattle.tableau.specs.PoolBranches.{BranchData, entry_in, branch_in, IsFormulaNumber, IsTermNumber, IsNoTerm, IsOver}
use Rattle.tableau.specs.declared.entry.PoolEntry.{PoolEntry}
use Rattle.tableau.proofs.AnswerLemmas.{stored, pure_entry}
use Rattle.tableau.proofs.PushLemmas.{over_still, says_still}
use Rattle.ematching.specs.Numbers.{IsAmong, IsOfSort, term_at, triggers_at, formula_at}
use Rattle.ematching.specs.Quantified.{for_all, IsQuantified, IsNotQuantified}
use Rattle.ematching.specs.Matches.{AreMatches}
use Rattle.ematching.specs.declared.quantified.Universal.{Universal}
use Rattle.ematching.proofs.ListLemmas.{among_push_cases}
use Rattle.ematching.proofs.HeldLemmas.{HasTermNode, term_node_of}
use Rattle.ematching.specs.QuantifierFree.{quantifier_free}
use Rattle.ematching.specs.Bodies.{universal_at, IsSaidNumber}
use Rattle.ematching.specs.Instances.{NoInstanceFor, NoInstanceAt, NoInstanceBefore, NoInstance, IsInstanceAt, IsInstanceStep, IsNextGeneration, HasNoGeneration, IsQuantifiedEntry, IsQuantifiedAt}
use Rattle.ematching.specs.declared.instances.due.InstanceStep.{InstanceStep}
use Rattle.ematching.specs.declared.instances.due.QuantifiedEntry.{QuantifiedEntry}
use Rattle.ematching.proofs.SaidLemmas.{same_said_depth}

-- ---- while the pool is extended

module _ (ns ms : List Node) (grown : Extends ns ms) where
  longer : (n : ℕ) → n < length ns → n < length ms
  longer n w = (let l = ap length grown.is in omega (arith, w, l, length-append ns grown.more))

  pub term_still : (n : ℕ) → IsTermNumber ns n → IsTermNumber ms n
  term_still n h = record { within = longer n h.within; sort = ap sort_of (item_kept ns ms grown n h.within) ∙ h.sort }

  pub formula_still : (n : ℕ) → IsFormulaNumber ns n → IsFormulaNumber ms n
  formula_still n h = record { within = longer n h.within; sort = ap sort_of (item_kept ns ms grown n h.within) ∙ h.sort }

  of_sort_still : (s : Sort) (n : ℕ) → IsOfSort ns s n → IsOfSort ms s n
  of_sort_still s n h = record { within = longer n h.within; sort = ap sort_of (item_kept ns ms grown n h.within) ∙ h.sort }

  pub same_term_at : (n : ℕ) → IsTermNumber ns n → term_at ms n ≡ term_at ns n
  same_term_at n h = ap term_in (item_kept ns ms grown n h.within)

  pub same_formula_at : (n : ℕ) → IsFormulaNumber ns n → formula_at ms n ≡ formula_at ns n
  same_formula_at n h = ap formula_in (item_kept ns ms grown n h.within)

  pub same_universal : (u : Universal) → IsOfSort ns TriggersSort u.triggers → IsFormulaNumber ns u.body → universal_at ms u ≡ universal_at ns u
  same_universal u t b = λ i. for_all u.is_denied u.variable (triggers_in (item_kept ns ms grown u.triggers t.within i)) (formula_in (item_kept ns ms grown u.body b.within i))

  pub quantified_still : (b : Branch) (q : QuantifiedEntry) → IsQuantifiedEntry ns b q → IsQuantifiedEntry ms b q
  quantified_still b q h = record {
    entry = h.entry;
    found = h.found;
    generation = h.generation;
    formula = formula_still q.formula h.formula;
    says = h.says ∙ sym (same_formula_at q.formula h.formula);
    quantified = record {
      triggers = of_sort_still TriggersSort q.universal.triggers h.quantified.triggers;
      body = formula_still q.universal.body h.quantified.body;
      is = same_formula_at q.formula h.formula ∙ h.quantified.is ∙ sym (same_universal q.universal h.quantified.triggers h.quantified.body);
    };
    free = h.free ∙ ap quantifier_free (sym (same_formula_at q.universal.body h.quantified.body));
  }

  module _ (d : BranchData) (over : IsOver ns d) where
    pub still_over : IsOver ms d
    still_over = over_still ns ms grown d over

    pub still_says : branch_in ms d ≡ branch_in ns d
    still_says = says_still ns ms grown d.entries over.formulas

-- ---- depths and generations

module _ (ns : List Node) (n depth : ℕ) (is : depth ≡ counted (item_depth (item_at ns n))) where
  term_depth_at : IsTermNumber ns n → item_depth (item_at ns n) ≡ term_depth (term_at ns n)
  term_depth_at h = ap item_depth (sym (a_term (item_at ns n) h.sort))

  formula_depth_at : IsFormulaNumber ns n → item_depth (item_at ns n) ≡ formula_depth (formula_at ns n)
  formula_depth_at h = ap item_depth (sym (a_formula (item_at ns n) h.sort))

  pub shallow_term : IsTermNumber ns n → depth ≤ 2000 → term_depth (term_at ns n) ≤ 2000
  shallow_term h w = omega (arith, is, w, term_depth_at h)

  pub deep_term : IsTermNumber ns n → 2000 < depth → (b : Branch) (generation : ℕ) → HasNoGeneration b generation (term_at ns n)
  deep_term h w b generation = record { none = λ next g. (let s = g.shallow in omega (arith, is, w, s, term_depth_at h)) }

  pub shallow_formula : IsFormulaNumber ns n → depth ≤ 2000 → IsShallow (formula_at ns n)
  shallow_formula h w = omega (arith, is, w, formula_depth_at h)

  pub deep_formula : IsFormulaNumber ns n → 2000 < depth → IsShallow (formula_at ns n) → ⊥
  deep_formula h w s = omega (arith, is, w, s, formula_depth_at h)

module _ (b : Branch) (generation : ℕ) (t : TermData) where
  pub no_term : IsNoTerm b t → HasNoGeneration b generation t
  no_term none = record { none = λ next g. none.none (record { generation = g.older; holds = g.is_older.holds }) }

  module _ (older : ℕ) (is : IsGeneration b t older) where
    one_generation : (g : ℕ) → IsGeneration b t g → g ≡ older
    one_generation g h = (let l = h.least older is.holds in let m = is.least g h.holds in omega (arith, l, m))

    pub next_is : (before : ℕ) → before ≡ max generation older → before < 3 → term_depth t ≤ 2000 → IsNextGeneration b generation t (before + 1)
    next_is before e w shallow = record { older = older; is_older = is; is_next = omega (arith, e); few = omega (arith, w); shallow = shallow }

    pub too_late : (before : ℕ) → before ≡ max generation older → 3 ≤ before → HasNoGeneration b generation t
    too_late before e w = record { none = λ next g. (let same = one_generation g.older g.is_older in let n = g.is_next in let f = g.few in omega (arith, e, w, same, n, f)) }

-- ---- one entry and one term

module _ (ns : List Node) (b : Branch) (q : QuantifiedEntry) (h : IsQuantifiedEntry ns b q) (t : TermData) where
  universal_is : h.entry.formula ≡ universal_at ns q.universal
  universal_is = h.says ∙ h.quantified.is

  entry_is : (p : FormulaData) (g : ℕ) (due : InstanceDue b q.entry t p g) → due.entry ≡ h.entry
  entry_is p g due = same_Some due.entry h.entry (sym due.found ∙ h.found)

  formula_is : (p : FormulaData) (g : ℕ) (due : InstanceDue b q.entry t p g) → due.entry.formula ≡ universal_at ns q.universal
  formula_is p g due = ap (λ (e : Entry). e.formula) (entry_is p g due) ∙ universal_is

  pub for_no_generation : HasNoGeneration b q.generation t → NoInstanceFor b q.entry t
  for_no_generation none = record {
    none = λ p g due. none.none g (record {
      older = due.older;
      is_older = due.is_older;
      is_next = due.next ∙ ap (λ k. max k due.older + 1) (ap (λ (e : Entry). e.generation) (entry_is p g due) ∙ h.generation);
      few = due.few;
      shallow = due.shallow_term;
    });
  }

  pub for_deep : (p : FormulaData) → IsBodyWith ForAll t (universal_at ns q.universal) p → (IsShallow p → ⊥) → NoInstanceFor b q.entry t
  for_deep p is deep = record {
    none = λ r g due. deep (
        let body : IsBodyWith ForAll t (universal_at ns q.universal) r = subst (λ e. IsBodyWith ForAll t e r) (formula_is r g due) due.is_body in
        let same = same_said_depth q.universal.is_denied q.universal.variable (triggers_at ns q.universal.triggers) (formula_at ns q.universal.body) t p r is body in
        let s = due.shallow in
        omega (arith, s, same)
        );
  }

  pub for_said : HasInstance b (universal_at ns q.universal) t → NoInstanceFor b q.entry t
  for_said has = record { none = λ p g due. due.unsaid (subst (λ e. HasInstance b e t) (sym (formula_is p g due)) has) }

  pub is_due : (p : FormulaData) (g : ℕ) → IsMatched b t (formula_at ns q.formula) → IsBodyWith ForAll t (universal_at ns q.universal) p → IsNextGeneration b q.generation t g → (HasInstance b (universal_at ns q.universal) t → ⊥) → IsShallow p → InstanceDue b q.entry t p g
  is_due p g matched is next unsaid shallow = record {
    entry = h.entry;
    found = h.found;
    matched = subst (IsMatched b t) (sym h.says) matched;
    is_body = subst (λ e. IsBodyWith ForAll t e p) (sym universal_is) is;
    older = next.older;
    is_older = next.is_older;
    next = next.is_next ∙ ap (λ k. max k next.older + 1) (sym h.generation);
    few = next.few;
    unsaid = λ has. unsaid (subst (λ e. HasInstance b e t) universal_is has);
    shallow = shallow;
    shallow_term = next.shallow;
  }

-- the computed instance is in a larger pool
module _ (ns ms : List Node) (grown : Extends ns ms) (d : BranchData) (over : IsOver ns d) (q : QuantifiedEntry) (h : IsQuantifiedEntry ns (branch_in ns d) q) (n : ℕ) (term : IsTermNumber ns n) (made : ℕ) (is : IsSaidNumber ms (universal_at ns q.universal) (term_at ns n) made) where
  same_whole : universal_at ms q.universal ≡ universal_at ns q.universal
  same_whole = same_universal ns ms grown q.universal h.quantified.triggers h.quantified.body

  same_value : term_at ms n ≡ term_at ns n
  same_value = same_term_at ns ms grown n term

  pub made_still : IsSaidNumber ms (universal_at ms q.universal) (term_at ms n) made
  made_still = subst (λ t. IsSaidNumber ms (universal_at ms q.universal) t made) (sym same_value) (subst (λ u. IsSaidNumber ms u (term_at ns n) made) (sym same_whole) is)

  pub free_still : q.is_free ≡ quantifier_free (formula_at ms q.universal.body)
  free_still = h.free ∙ ap quantifier_free (sym (same_formula_at ns ms grown q.universal.body h.quantified.body))

  same_has : HasInstance (branch_in ms d) (universal_at ms q.universal) (term_at ms n) ≡ HasInstance (branch_in ns d) (universal_at ns q.universal) (term_at ns n)
  same_has = λ i. HasInstance (still_says ns ms grown d over i) (same_whole i) (same_value i)

  pub made_deep : (depth : ℕ) → depth ≡ counted (item_depth (item_at ms made)) → 2000 < depth → NoInstanceFor (branch_in ns d) q.entry (term_at ns n)
  made_deep depth e w = for_deep ns (branch_in ns d) q h (term_at ns n) (formula_at ms made) is.is_body (deep_formula ms made depth e is.number w)

  pub made_said : HasInstance (branch_in ms d) (universal_at ms q.universal) (term_at ms n) → NoInstanceFor (branch_in ns d) q.entry (term_at ns n)
  made_said has = for_said ns (branch_in ns d) q h (term_at ns n) (subst (λ T. T) same_has has)

  pub made_due : IsMatched (branch_in ns d) (term_at ns n) (formula_at ns q.formula) → (g : ℕ) → IsNextGeneration (branch_in ns d) q.generation (term_at ns n) g → (depth : ℕ) → depth ≡ counted (item_depth (item_at ms made)) → depth ≤ 2000 → (HasInstance (branch_in ms d) (universal_at ms q.universal) (term_at ms n) → ⊥) → IsInstanceAt ms (branch_in ns d) q.entry (record { entry = q.entry; term = n; formula = made; generation = g })
  made_due matched g next depth e w unsaid = record {
    position = refl;
    instance = record {
      term = term_still ns ms grown n term;
      formula = is.number;
      due = subst (λ t. InstanceDue (branch_in ns d) q.entry t (formula_at ms made) g) (sym same_value) (is_due ns (branch_in ns d) q h (term_at ns n) (formula_at ms made) g matched is.is_body next (λ has. unsaid (subst (λ T. T) (sym same_has) has)) (shallow_formula ms made depth e is.number w));
    };
  }

-- ---- one term after another

module _ (b : Branch) (i : ℕ) (ns : List Node) where
  -- no instance for any of the terms with these numbers
  pub record NoneAmong (numbers : List ℕ) : Type 0 where
    pub each : (v : ℕ) → IsAmong v numbers → NoInstanceFor b i (term_at ns v)

  pub among_first : (xs : List ℕ) → xs ≡ [] → NoneAmong xs
  among_first xs e = record { each = λ v a. absurd (subst (IsAmong v) e a) }

  pub among_next : (xs : List ℕ) (k : ℕ) → k < length xs → NoneAmong (take k xs) → NoInstanceFor b i (term_at ns (get_or xs k 0)) → NoneAmong (take (k + 1) xs)
  among_next xs k w h none = record { each = λ v a. go v (among_push_cases v (get_or xs k 0) (take k xs) (subst (IsAmong v) (take_more xs k 0 w) a)) }
    where
      go : (v : ℕ) → IsAmong v (take k xs) ⊎ (v ≡ get_or xs k 0) → NoInstanceFor b i (term_at ns v)
      go v (inl a) = h.each v a
      go v (inr e) = subst (λ n. NoInstanceFor b i (term_at ns n)) (sym e) none

module _ (ns : List Node) (d : BranchData) (over : IsOver ns d) (q : QuantifiedEntry) (h : IsQuantifiedEntry ns (branch_in ns d) q) (numbers : List ℕ) (are : AreMatches ns (branch_in ns d) (formula_at ns q.formula) numbers) where
  pub none_among : (k : ℕ) → length numbers ≤ k → NoneAmong (branch_in ns d) q.entry ns (take k numbers) → NoInstanceAt (branch_in ns d) q.entry
  none_among k w none = record { none = λ t p g due. go t p g due (term_node_of ns d over t (record { generation = due.older; holds = due.is_older.holds })) }
    where
      go : (t : TermData) (p : FormulaData) (g : ℕ) → InstanceDue (branch_in ns d) q.entry t p g → HasTermNode ns t → ⊥
      go t p g due node =
          let is : term_at ns node.number ≡ t = ap term_in node.is in
          let number : IsTermNumber ns node.number = record { within = slice_get_within ns node.number node.node node.made.found; sort = ap sort_of node.is } in
          let says : due.entry.formula ≡ formula_at ns q.formula = ap (λ (e : Entry). e.formula) (same_Some due.entry h.entry (sym due.found ∙ h.found)) ∙ h.says in
          let matched : IsMatched (branch_in ns d) (term_at ns node.number) (formula_at ns q.formula) = subst (λ u. IsMatched (branch_in ns d) u (formula_at ns q.formula)) (sym is) (subst (IsMatched (branch_in ns d) t) says due.matched) in
          let among : IsAmong node.number (take k numbers) = subst (IsAmong node.number) (sym (take_all k numbers w)) ((are.each node.number).1 (record { number = number; matched = matched })) in
          (none.each node.number among).none p g (subst (λ u. InstanceDue (branch_in ns d) q.entry u p g) (sym is) due)

  -- in a larger pool
  module _ (ms : List Node) (grown : Extends ns ms) (v : ℕ) (among : IsAmong v numbers) where
    match_number : IsTermNumber ns v
    match_number = ((are.each v).0 among).number

    pub number_still : IsTermNumber ms v
    number_still = term_still ns ms grown v match_number

    pub entry_still : IsQuantifiedEntry ms (branch_in ms d) q
    entry_still = subst (λ b. IsQuantifiedEntry ms b q) (sym (still_says ns ms grown d over)) (quantified_still ns ms grown (branch_in ns d) q h)

    pub matched_still : IsMatched (branch_in ms d) (term_at ms v) (formula_at ms q.formula)
    matched_still =
        let same : IsMatched (branch_in ms d) (term_at ms v) (formula_at ms q.formula) ≡ IsMatched (branch_in ns d) (term_at ns v) (formula_at ns q.formula) = λ i. IsMatched (still_says ns ms grown d over i) (same_term_at ns ms grown v match_number i) (same_formula_at ns ms grown q.formula h.formula i) in
        subst (λ T. T) (sym same) ((are.each v).0 among).matched

    pub none_back : NoInstanceFor (branch_in ms d) q.entry (term_at ms v) → NoInstanceFor (branch_in ns d) q.entry (term_at ns v)
    none_back none =
        let same : NoInstanceFor (branch_in ms d) q.entry (term_at ms v) ≡ NoInstanceFor (branch_in ns d) q.entry (term_at ns v) = λ i. NoInstanceFor (still_says ns ms grown d over i) q.entry (same_term_at ns ms grown v match_number i) in
        subst (λ T. T) same none

-- an instance that is due is so on the branch before the pool was extended
pub due_back : (ns ms ks : List Node) → Extends ns ms → (d : BranchData) → IsOver ns d → (i : ℕ) (step : InstanceStep) → IsInstanceAt ks (branch_in ms d) i step → IsInstanceAt ks (branch_in ns d) i step
due_back ns ms ks grown d over i step h = subst (λ b. IsInstanceAt ks b i step) (still_says ns ms grown d over) h

pub none_before : (ns ms : List Node) → Extends ns ms → (d : BranchData) → IsOver ns d → (i : ℕ) → NoInstanceAt (branch_in ms d) i → NoInstanceAt (branch_in ns d) i
none_before ns ms grown d over i h = subst (λ b. NoInstanceAt b i) (still_says ns ms grown d over) h

-- ---- an entry

module _ (ns : List Node) (d : BranchData) (over : IsOver ns d) (i : ℕ) where
  pub nothing_at : slice_get d.entries i ≡ None → NoInstanceAt (branch_in ns d) i
  nothing_at none = record {
    none = λ t p g due. (let it = stored ns d.entries i due.entry due.found in let both : Some it.entry ≡ None = sym it.found ∙ none in absurd (cc));
  }

  module _ (e : PoolEntry) (found : slice_get d.entries i ≡ Some e) where
    number_is : IsFormulaNumber ns e.formula
    number_is = over.formulas i e found

    pub found_entry : slice_get (branch_in ns d) i ≡ Some (entry_in ns e)
    found_entry = pure_entry ns d.entries i e found

    due_entry : (t : TermData) (p : FormulaData) (g : ℕ) (due : InstanceDue (branch_in ns d) i t p g) → due.entry ≡ entry_in ns e
    due_entry t p g due = same_Some due.entry (entry_in ns e) (sym due.found ∙ found_entry)

    pub too_old : 3 ≤ e.generation → NoInstanceAt (branch_in ns d) i
    too_old w = record {
      none = λ t p g due. (let same = ap (λ (x : Entry). x.generation) (due_entry t p g due) in let n = due.next in let f = due.few in omega (arith, w, same, n, f));
    }

    not_matched : (p : FormulaData) → IsNotQuantified p → (t : TermData) → IsMatched (branch_in ns d) t p → ⊥
    not_matched _ none t (ForAllMatched n ts body m) = none.none false n ts body refl
    not_matched _ none t (NoneMatched n ts body m) = none.none true n ts body refl

    pub not_quantified : IsNotQuantified (formula_at ns e.formula) → NoInstanceAt (branch_in ns d) i
    not_quantified none = record {
      none = λ t p g due. not_matched (formula_at ns e.formula) none t (subst (IsMatched (branch_in ns d) t) (ap (λ (x : Entry). x.formula) (due_entry t p g due)) due.matched);
    }

    pub entry_quantified : (u : Universal) → IsQuantified ns (formula_at ns e.formula) u → (free : Bool) → free ≡ quantifier_free (formula_at ns u.body) → IsQuantifiedAt ns (branch_in ns d) i (record { entry = i; formula = e.formula; generation = e.generation; universal = u; is_free = free })
    entry_quantified u is free f = record {
      position = refl;
      is = record { entry = entry_in ns e; found = found_entry; generation = refl; formula = number_is; says = refl; quantified = is; free = f };
    }

-- ---- one entry after another

module _ (b : Branch) where
  pub before_first : NoInstanceBefore b 0
  before_first = record { each = λ i w. absurd (omega (arith, w)) }

  pub before_next : (k : ℕ) → NoInstanceBefore b k → NoInstanceAt b k → NoInstanceBefore b (k + 1)
  before_next k h none = record { each = λ i w. go i w (cases_eq i k) }
    where
      go : (i : ℕ) → i < k + 1 → (i ≡ k) ⊎ (i ≡ k → ⊥) → NoInstanceAt b i
      go i w (inl e) = subst (NoInstanceAt b) (sym e) none
      go i w (inr f) = h.each i (omega (arith, w, f))

pub before_all : (ns : List Node) (d : BranchData) (k : ℕ) → length d.entries ≤ k → NoInstanceBefore (branch_in ns d) k → NoInstance (branch_in ns d)
before_all ns d k w h = record {
  each = λ i. record { none = λ t p g due. (h.each i (let l = slice_get_within (branch_in ns d) i due.entry due.found in let m = length-map d.entries (entry_in ns) in omega (arith, l, m, w))).none t p g due };
}

pub instance_step : (ns ms : List Node) → Extends ns ms → (d : BranchData) → IsOver ns d → (i : ℕ) (step : InstanceStep) → NoInstanceBefore (branch_in ns d) i → IsInstanceAt ms (branch_in ns d) i step → IsInstanceStep ms (branch_in ms d) step
instance_step ns ms grown d over i step none h = subst (λ b. IsInstanceStep ms b step) (sym (still_says ns ms grown d over)) (record {
  instance = h.instance;
  first = subst (NoInstanceBefore (branch_in ns d)) (sym h.position) none;
})

pub no_instance : (ns ms : List Node) → Extends ns ms → (d : BranchData) → IsOver ns d → NoInstance (branch_in ns d) → NoInstance (branch_in ms d)
no_instance ns ms grown d over none = subst NoInstance (sym (still_says ns ms grown d over)) none

pub at_position : (ms : List Node) (b : Branch) (i j : ℕ) → i ≡ j → {E : Type 0} (r : Result (Option InstanceStep) E) → IfOk r (λ found. MatchOption found (NoInstanceAt b i) (IsInstanceAt ms b i)) → IfOk r (λ found. MatchOption found (NoInstanceAt b j) (IsInstanceAt ms b j))
at_position ms b i j e r h = subst (λ k. IfOk r (λ found. MatchOption found (NoInstanceAt b k) (IsInstanceAt ms b k))) e h

-- a property that holds for any result
pub on_ok : {X E P : Type 0} (r : Result X E) → P → OnOk r P
on_ok (Ok x) p = p
on_ok (Err e) p = tt
