-- Where steps lead, one after another.
use Rattle.std.proofs.Common.{◌≡◌, ℕ, ◌+◌, ◌<◌, ◌≤◌, pos, ◌+ℤ◌, List, [], ◌∷◌, ◌++◌, length, take, drop, get_or, add-one, drop-cons, refl, sym, ap, ◌∙◌, subst}
use Rattle.std.specs.Prelude.{All}
use Rattle.std.proofs.lemmas.List.{take_more, take_all}
use Rattle.std.proofs.lemmas.List.Elements.{All-head, All-tail, All-get_or, All-weaker}
use Rattle.fol.specs.declared.shapes.Shape.{Shape}
use Rattle.fol.specs.FormulaData.{NumTerm, FormulaData, EqFormula, LeFormula, NotFormula}
use Rattle.axioms.specs.Forms.{DifferFormula}
use Rattle.term_pool.specs.Pools.{Extends}
use Rattle.term_pool.specs.declared.node.Node.{Node}
use Rattle.term_pool.proofs.GrowthLemmas.{extends_then}
use Rattle.certificates.specs.BranchesBranch.{Branch}
use Rattle.certificates.specs.ProofTraces.{Application, PartsApplication, InstanceApplication, SplitApplication, CutApplication, BoundApplication, entry_with}
use Rattle.certificates.specs.declared.branches.origin.Origin.TheVariants.{Other}
use Rattle.tableau.specs.PoolBranches.{BranchData, branch_in, IsTermNumber, IsOver}
use Rattle.tableau.specs.Numbers.{formula_at}
use Rattle.tableau.proofs.NumberLemmas.{formulas_stay, numbers_stay}
use Rattle.axiom_strategy.proofs.GrownLemmas.{number_grown, term_grown}
use Rattle.search.specs.Applications.{term_at, terms_of, IsAddedFor, AsParts, AsName, AsInstance, AsAxiom, AsSplit, AsCut, AsBound, formulas_of}
use Rattle.search.specs.declared.trees.application.Extension.{Extension}
use Rattle.search.specs.declared.trees.application.Reason.{Reason}
use Rattle.tree_checks.specs.Grown.{Step, IsGrownFrom, IsGrown}
use Rattle.tree_checks.specs.Kept.{IsKept}
use Rattle.tree_checks.specs.Steps.{HasNumbers, AreNumbered, IsTaken, IsNotTaken, LeadsTo, LeadsNowhere, first_branch}
use Rattle.tree_checks.specs.declared.grown.keeping.Kept.{Kept}
use Rattle.tree_checks.specs.declared.grown.steps.GrownStep.{GrownStep}
use Rattle.tree_checks.proofs.CaseLemmas.{one_taken}
use Rattle.tree_checks.proofs.GrowthLemmas.{number_within}

-- ---- the same numbers in two pools

module _ (ns ms : List Node) where
  abbrev pub IsSameTerm : ℕ → Type 0
  IsSameTerm t = term_at ms t ≡ term_at ns t

  pub added_also : (ps qs : List FormulaData) (r : Reason) (g : ℕ) (application : Application) → qs ≡ ps → All IsSameTerm (terms_of r) → IsAddedFor ns ps r g application → IsAddedFor ms qs r g application
  added_also ps qs r g application same terms (AsParts i k) = subst (λ xs. IsAddedFor ms qs r g (PartsApplication i xs)) same (AsParts i k)
  added_also ps qs r g application same terms (AsName i v k p is) = AsName i v k p (same ∙ is)
  added_also ps qs r g application same terms (AsInstance i t k p is) =
      subst (λ u. IsAddedFor ms qs r g (InstanceApplication i u p g)) (All-head IsSameTerm t [] terms) (AsInstance i t k p (same ∙ is))
  added_also ps qs r g application same terms (AsAxiom name k p is) = AsAxiom name k p (same ∙ is)
  added_also ps qs r g application same terms (AsSplit i k) = subst (λ xs. IsAddedFor ms qs r g (SplitApplication i xs)) same (AsSplit i k)
  added_also ps qs r g application same terms (AsCut t u k is) =
      let first : term_at ms t ≡ term_at ns t = All-head IsSameTerm t (u ∷ []) terms in
      let second : term_at ms u ≡ term_at ns u = All-head IsSameTerm u [] (All-tail IsSameTerm t (u ∷ []) terms) in
      let all : qs ≡ EqFormula (term_at ms t) (term_at ms u) ∷ DifferFormula (term_at ms t) (term_at ms u) ∷ [] = same ∙ is ∙ (λ i. EqFormula (sym first i) (sym second i) ∷ DifferFormula (sym first i) (sym second i) ∷ []) in
      subst (λ x. IsAddedFor ms qs r g (CutApplication x (term_at ns u) g)) first (subst (λ x. IsAddedFor ms qs r g (CutApplication (term_at ms t) x g)) second (AsCut t u k all))
  added_also ps qs r g application same terms (AsBound i t k z is) =
      let first : term_at ms t ≡ term_at ns t = All-head IsSameTerm t [] terms in
      let all : qs ≡ LeFormula (term_at ms t) (NumTerm z) ∷ LeFormula (NumTerm (z +ℤ pos 1)) (term_at ms t) ∷ [] = same ∙ is ∙ (λ j. LeFormula (sym first j) (NumTerm z) ∷ LeFormula (NumTerm (z +ℤ pos 1)) (sym first j) ∷ []) in
      subst (λ x. IsAddedFor ms qs r g (BoundApplication i x z)) first (AsBound i t k z all)

  taken_also : (shapes : List Shape) (s : GrownStep) → formulas_of ms s.extension ≡ formulas_of ns s.extension → All IsSameTerm (terms_of s.extension.reason) → HasNumbers ms s.extension → (b c : Branch) → IsTaken shapes ns b s c → IsTaken shapes ms b s c
  taken_also shapes s same terms numbers b c h = record {
    growing = record {
      application = h.growing.application;
      is = record {
        formulas = numbers.formulas;
        terms = number_within ms (terms_of s.extension.reason) numbers.terms;
        added = added_also (formulas_of ns s.extension) (formulas_of ms s.extension) s.extension.reason s.extension.generation h.growing.application same terms h.growing.is.added;
      };
      from = h.growing.from;
      due = h.growing.due;
      room = h.growing.room;
    };
    left = h.left;
    short = h.short;
  }

module _ (ns ms : List Node) (grown : Extends ns ms) where
  pub numbers_later : (g : Extension) → HasNumbers ns g → HasNumbers ms g
  numbers_later g h = record {
    formulas = formulas_stay ns ms grown g.formulas.items h.formulas;
    terms = All-weaker (IsTermNumber ns) (IsTermNumber ms) (number_grown ns ms grown) (terms_of g.reason) h.terms;
  }

  module _ (shapes : List Shape) (s : GrownStep) (h : HasNumbers ns s.extension) where
    pub same_formulas : formulas_of ms s.extension ≡ formulas_of ns s.extension
    same_formulas = (numbers_stay ns ms grown (formulas_of ns s.extension) s.extension.formulas.items (record { formulas = h.formulas; are = refl })).are

    taken_later : (b c : Branch) → IsTaken shapes ns b s c → IsTaken shapes ms b s c
    taken_later b c = taken_also ns ms shapes s same_formulas (All-weaker (IsTermNumber ns) (IsSameTerm ns ms) (λ t n. term_grown ns ms grown t n) (terms_of s.extension.reason) h.terms) (numbers_later s.extension h) b c

    pub taken_before : (b c : Branch) → IsTaken shapes ms b s c → IsTaken shapes ns b s c
    taken_before b c = taken_also ms ns shapes s (sym same_formulas) (All-weaker (IsTermNumber ns) (IsSameTerm ms ns) (λ t n. sym (term_grown ns ms grown t n)) (terms_of s.extension.reason) h.terms) h b c

    pub not_taken_before : (b : Branch) → IsNotTaken shapes ms b s → IsNotTaken shapes ns b s
    not_taken_before b none = record { none = λ c taken. none.none c (taken_later b c taken) }

-- ---- lists of steps

drop_less : (xs : List GrownStep) (k : ℕ) (d : GrownStep) → k < length xs → drop k xs ≡ get_or xs k d ∷ drop (k + 1) xs
drop_less xs k d w = rw add-one (drop-cons xs k d w)

module _ (shapes : List Shape) (ns : List Node) where
  leads_more : (b c d : Branch) (ss : List GrownStep) (s : GrownStep) → LeadsTo shapes ns b ss c → IsTaken shapes ns c s d → LeadsTo shapes ns b (ss ++ s ∷ []) d
  leads_more b c d [] s h taken = (d, subst (λ x. IsTaken shapes ns x s d) (sym h) taken, refl)
  leads_more b c d (r ∷ ss) s h taken = (h.0, h.1, leads_more h.0 c d ss s h.2 taken)

  grown_from : (b c : Branch) (ss : List GrownStep) → LeadsTo shapes ns b ss c → (steps : List Step) × IsGrownFrom shapes b steps c
  grown_from b c [] h = ([], h)
  grown_from b c (s ∷ ss) h =
      let rest = grown_from h.0 c ss h.2 in
      let step : Step = record { application = h.1.growing.application; case = s.case } in
      (step ∷ rest.0, (h.0, record { due = h.1.growing.due; left = h.1.left; short = h.1.short }, rest.1))

  -- the branch belongs to the formula that the first entry negates
  pub leads_to_grown : (p : FormulaData) (n : ℕ) → formula_at ns n ≡ NotFormula p → (ss : List GrownStep) (c : Branch) → LeadsTo shapes ns (first_branch ns n) ss c → IsGrown shapes p c
  leads_to_grown p n e ss c h =
      let it = grown_from (first_branch ns n) c ss h in
      record { steps = it.0; grown = subst (λ q. IsGrownFrom shapes (entry_with 0 Other q ∷ []) it.0 c) e it.1 }

-- ---- the loop

-- the first steps lead to the branch, and all steps lead to where the rest leads from there
pub record IsGoing (shapes : List Shape) (ns ms : List Node) (start : Branch) (ss : List GrownStep) (i : ℕ) (d : BranchData) (k : Kept) : Type 0 where
  pub extends : Extends ns ms
  pub over : IsOver ms d
  pub kept : IsKept ms d.entries k
  pub so_far : LeadsTo shapes ns start (take i ss) (branch_in ms d)
  pub only : (c : Branch) → LeadsTo shapes ns start ss c → LeadsTo shapes ns (branch_in ms d) (drop i ss) c

module _ (shapes : List Shape) (ns : List Node) (start : Branch) (ss : List GrownStep) where
  pub going_begun : (ms : List Node) (d : BranchData) (k : Kept) → Extends ns ms → IsOver ms d → IsKept ms d.entries k → start ≡ branch_in ms d → IsGoing shapes ns ms start ss 0 d k
  going_begun ms d k grown over kept is = record {
    extends = grown;
    over = over;
    kept = kept;
    so_far = is;
    only = λ c h. subst (λ b. LeadsTo shapes ns b ss c) is h;
  }

  pub gone : (ms : List Node) (i : ℕ) (d : BranchData) (k : Kept) → length ss ≤ i → IsGoing shapes ns ms start ss i d k → LeadsTo shapes ns start ss (branch_in ms d)
  gone ms i d k w h = subst (λ ts. LeadsTo shapes ns start ts (branch_in ms d)) (take_all i ss w) h.so_far

  module _ (ms : List Node) (i : ℕ) (d : BranchData) (k : Kept) (going : IsGoing shapes ns ms start ss i d k) (x : GrownStep) (w : i < length ss) (is : x ≡ get_or ss i x) (numbered : AreNumbered ns ss) where
    pub step_numbers : HasNumbers ns x.extension
    step_numbers = subst (λ (s : GrownStep). HasNumbers ns s.extension) (sym is) (All-get_or (λ (s : GrownStep). HasNumbers ns s.extension) ss i x w numbered.each)

    -- where the other steps lead
    onwards : (c : Branch) → LeadsTo shapes ns start ss c → LeadsTo shapes ns (branch_in ms d) (x ∷ drop (i + 1) ss) c
    onwards c h = subst (λ ts. LeadsTo shapes ns (branch_in ms d) ts c) (drop_less ss i x w ∙ ap (λ y. y ∷ drop (i + 1) ss) (sym is)) (going.only c h)

    pub lost : IsNotTaken shapes ms (branch_in ms d) x → LeadsNowhere shapes ns start ss
    lost none = record { none = λ c h. (let t = onwards c h in (not_taken_before ns ms going.extends shapes x step_numbers (branch_in ms d) none).none t.0 t.1) }

    pub going_on : (ks : List Node) (e : BranchData) (l : Kept) → Extends ms ks → IsOver ks e → IsKept ks e.entries l → IsTaken shapes ms (branch_in ms d) x (branch_in ks e) → IsGoing shapes ns ks start ss (i + 1) e l
    going_on ks e l grown over kept h =
        let taken = taken_before ns ms going.extends shapes x step_numbers (branch_in ms d) (branch_in ks e) h in
        record {
          extends = extends_then going.extends grown;
          over = over;
          kept = kept;
          so_far = subst (λ ts. LeadsTo shapes ns start ts (branch_in ks e)) (sym (take_more ss i x w ∙ ap (λ y. take i ss ++ y ∷ []) (sym is))) (leads_more shapes ns start (branch_in ms d) (branch_in ks e) (take i ss) x going.so_far taken);
          only = λ c f. (let t = onwards c f in subst (λ b. LeadsTo shapes ns b (drop (i + 1) ss) c) (one_taken shapes ns (branch_in ms d) x t.0 (branch_in ks e) t.1 taken) t.2);
        }
