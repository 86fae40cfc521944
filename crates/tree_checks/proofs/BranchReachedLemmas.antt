-- Branches to which steps lead, over the pool of the steps.
use Rattle.std.proofs.Common.{◌≡◌, ◌↔◌, ℕ, Bool, true, false, IsTrue, List, [], ◌∷◌, ◌++◌, length, length-append, map, refl, sym, ap, ◌∙◌, subst, arith}
use Rattle.std.specs.Prelude.{All}
use Rattle.std.proofs.lemmas.List.Elements.{All-nil, All-cons, All-head, All-tail, All-append, All-map, All-weaker}
use Rattle.fol.specs.declared.shapes.Shape.{Shape}
use Rattle.fol.specs.FormulaData.{FormulaData}
use Rattle.term_pool.specs.Items.{FormulaItem}
use Rattle.term_pool.specs.Pools.{item_at, IsOneNumber, Extends}
use Rattle.term_pool.specs.declared.node.Node.{Node}
use Rattle.term_pool.proofs.ItemLemmas.{item_kept}
use Rattle.term_pool.proofs.ShapeLemmas.{a_formula}
use Rattle.certificates.specs.BranchesBranch.{Branch, Entry, formulas}
use Rattle.certificates.specs.Due.{IsSaturated}
use Rattle.certificates.specs.Names.{above_all}
use Rattle.certificates.specs.ProofTraces.{entry_with, left_of}
use Rattle.certificates.specs.declared.branches.origin.Origin.{Origin}
use Rattle.certificates.specs.declared.branches.origin.Origin.TheVariants.{Other}
use Rattle.tableau.specs.PoolBranches.{BranchData, entry_in, branch_in, IsFormulaNumber, IsOver}
use Rattle.tableau.proofs.AnswerLemmas.{pure_entry}
use Rattle.tableau.specs.Numbers.{formula_at, AreFormulas, IsNumberOf}
use Rattle.tableau.proofs.AboveLemmas.{all_new}
use Rattle.axiom_strategy.specs.Families.{HasVariable}
use Rattle.search.specs.Applications.{is_fork, origin_of, formulas_of}
use Rattle.search.proofs.AddedLemmas.{lefts, left_is}
use Rattle.search.specs.Decisions.{IsValued}
use Rattle.search.specs.declared.values.OpenValues.{OpenValues}
use Rattle.step_checks.proofs.StayLemmas.{HaveNumbersIn, AreEntriesIn, terms_of_entries, same_valued_before, same_valued_after}
use Rattle.tree_checks.specs.Grown.{IsGrown}
use Rattle.tree_checks.specs.Steps.{IsTaken, LeadsTo, LeadsNowhere, first_branch}
use Rattle.tree_checks.specs.declared.grown.steps.GrownStep.{GrownStep}
use Rattle.tree_checks.proofs.CaseLemmas.{one_taken}
use Rattle.tree_checks.proofs.GrownReachedLemmas.{found}
use Rattle.tree_checks.proofs.GrownTruthLemmas.{never}
use Rattle.tree_checks.specs.Reached.{HasNumberLeft, LeadsToOpen, IsOpenGrown}

-- ---- a variable number that is left

-- the number is that of a variable that is free in no entry
pub variable_left : (b : Branch) → HasNumberLeft b → HasVariable b
variable_left b room = record { number = above_all (formulas b); is_variable = room.left; is_new = all_new (above_all (formulas b)) (formulas b) (omega arith) }

-- ---- numbers of the formulas that steps add

-- the entry's formula has a number in the pool
record HasNumber (ns : List Node) (e : Entry) : Type 0 where
  number : ℕ
  is : IsNumberOf ns e.formula number

module _ (ns : List Node) where
  all_left : (f : Bool) (b : Branch) (es : List Entry) → All (HasNumber ns) b → All (HasNumber ns) es → All (All (HasNumber ns)) (lefts f b es)
  all_left false b es h k = All-cons (All (HasNumber ns)) (b ++ es) [] (All-append (HasNumber ns) b es h k) (All-nil (All (HasNumber ns)))
  all_left true b [] h k = All-nil (All (HasNumber ns))
  all_left true b (e ∷ es) h k =
      let one = All-append (HasNumber ns) b (e ∷ []) h (All-cons (HasNumber ns) e [] (All-head (HasNumber ns) e es k) (All-nil (HasNumber ns))) in
      All-cons (All (HasNumber ns)) (b ++ e ∷ []) (lefts true b es) one (all_left true b es h (All-tail (HasNumber ns) e es k))

  all_added : (g : ℕ) (o : Origin) (numbers : List ℕ) → AreFormulas ns numbers → All (HasNumber ns) (map (entry_with g o) (map (formula_at ns) numbers))
  all_added g o numbers h =
      All-map (HasNumber ns) (entry_with g o) (map (formula_at ns) numbers)
      (All-map (λ p. HasNumber ns (entry_with g o p)) (formula_at ns) numbers
      (All-weaker (IsFormulaNumber ns) (λ n. HasNumber ns (entry_with g o (formula_at ns n))) (λ n k. record { number = n; is = record { number = k; is = refl } }) numbers h.each))

  first_has : (n : ℕ) → IsFormulaNumber ns n → All (HasNumber ns) (first_branch ns n)
  first_has n h = All-cons (HasNumber ns) (entry_with 0 Other (formula_at ns n)) [] (record { number = n; is = record { number = h; is = refl } }) (All-nil (HasNumber ns))

  module _ (shapes : List Shape) where
    taken_has : (b c : Branch) (s : GrownStep) → IsTaken shapes ns b s c → All (HasNumber ns) b → All (HasNumber ns) c
    taken_has b c s h all =
        let g = s.extension in
        let application = h.growing.application in
        let left = left_is ns (formulas_of ns g) b g.reason g.generation application h.growing.is.added h.growing.from in
        let each = all_left (is_fork g.reason) b (map (entry_with g.generation (origin_of g.reason)) (formulas_of ns g)) all (all_added g.generation (origin_of g.reason) g.formulas.items h.growing.is.formulas) in
        found (All (HasNumber ns)) (left_of b application) s.case c (subst (All (All (HasNumber ns))) (sym left) each) h.left

    leads_has : (b c : Branch) (ss : List GrownStep) → LeadsTo shapes ns b ss c → All (HasNumber ns) b → All (HasNumber ns) c
    leads_has b c [] h all = subst (All (HasNumber ns)) h all
    leads_has b c (s ∷ ss) h all = leads_has h.0 c ss h.2 (taken_has b h.0 s h.1 all)

    -- the steps lead to at most one branch
    leads_to_one : (b c d : Branch) (ss : List GrownStep) → LeadsTo shapes ns b ss c → LeadsTo shapes ns b ss d → c ≡ d
    leads_to_one b c d [] h k = sym h ∙ k
    leads_to_one b c d (s ∷ ss) h k =
        let same : h.0 ≡ k.0 = one_taken shapes ns b s h.0 k.0 h.1 k.1 in
        leads_to_one k.0 c d ss (subst (λ x. LeadsTo shapes ns x ss c) same h.2) k.2

module _ (ns ms : List Node) (grown : Extends ns ms) (one : IsOneNumber ms) (d : BranchData) (over : IsOver ms d) where
  entries_in : All (HasNumber ns) (branch_in ms d) → AreEntriesIn ns d
  entries_in all = record {
    formulas = λ i e at. (
        let it = found (HasNumber ns) (branch_in ms d) i (entry_in ms e) all (pure_entry ms d.entries i e at) in
        let old = it.is.number in
        let new = over.formulas i e at in
        let item = item_kept ns ms grown it.number old.within ∙ sym (a_formula (item_at ns it.number) old.sort) ∙ ap FormulaItem it.is.is ∙ a_formula (item_at ms e.formula) new.sort in
        let l = ap length grown.is in
        let w = old.within in
        let same : it.number ≡ e.formula = one.one it.number e.formula (omega (arith, l, length-append ns grown.more, w)) new.within item in
        subst (IsFormulaNumber ns) same old);
  }

-- ---- results

module _ (shapes : List Shape) (ns : List Node) (start : Branch) (ss : List GrownStep) (v : OpenValues) where
  pub nowhere_open : LeadsNowhere shapes ns start ss → IsTrue false ↔ LeadsToOpen shapes ns start ss v
  nowhere_open none = never (λ w. none.none w.branch w.leads)

  module _ (b : Branch) (leads : LeadsTo shapes ns start ss b) where
    same : (w : LeadsToOpen shapes ns start ss v) → w.branch ≡ b
    same w = leads_to_one ns shapes start w.branch b ss w.leads leads

    pub none_left : (known : Bool) → known ≡ false → IsTrue known ↔ HasNumberLeft b → IsTrue false ↔ LeadsToOpen shapes ns start ss v
    none_left known e h = never (λ w. (let yes = h.1 (subst HasNumberLeft (same w) w.room) in absurd (cc)))

-- where the steps start with the formula with this number
module _ (shapes : List Shape) (ns ms : List Node) (grown : Extends ns ms) (one : IsOneNumber ms) (n : ℕ) (number : IsFormulaNumber ns n) (ss : List GrownStep) (v : OpenValues) (d : BranchData) (over : IsOver ms d) (leads : LeadsTo shapes ns (first_branch ns n) ss (branch_in ms d)) where
  terms : HaveNumbersIn ns ms (branch_in ms d)
  terms = terms_of_entries ns ms grown one d over (entries_in ns ms grown one d over (leads_has ns shapes (first_branch ns n) (branch_in ms d) ss leads (first_has ns n number)))

  pub open_exactly : HasNumberLeft (branch_in ms d) → (known : Bool) → IsTrue known ↔ (IsSaturated shapes (branch_in ms d) × IsValued ms (branch_in ms d) v) → IsTrue known ↔ LeadsToOpen shapes ns (first_branch ns n) ss v
  open_exactly room known h = (
    λ t. (let w = h.0 t in record { branch = branch_in ms d; leads = leads; room = room; saturated = w.0; valued = same_valued_before ns ms grown (branch_in ms d) terms v w.1 }),
    λ w. (
        let is = same shapes ns (first_branch ns n) ss v (branch_in ms d) leads w in
        h.1 (subst (IsSaturated shapes) is w.saturated, same_valued_after ns ms grown (branch_in ms d) terms v (subst (λ (c : Branch). IsValued ns c v) is w.valued))),
  )

pub open_grown : (shapes : List Shape) (p : FormulaData) (ms : List Node) (b : Branch) (v : OpenValues) → IsGrown shapes p b → IsSaturated shapes b × IsValued ms b v → IsOpenGrown shapes p v.values
open_grown shapes p ms b v grown h = record {
  branch = b;
  grown = grown;
  saturated = h.0;
  met = record { class = h.1.class; classes = v.classes.items; rows = h.1.rows; are_rows = h.1.are_rows; solution = h.1.solution; whole = h.1.whole };
}
