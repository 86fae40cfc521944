-- The branches that a step leaves, by the entries of its cases.
use Rattle.std.proofs.Common.{◌≡◌, ℕ, zero, suc, ◌<◌, ◌≤◌, Bool, true, false, List, [], ◌∷◌, ◌++◌, length, map, get_or, Option, Some, None, refl, sym, ap, ◌∙◌, subst, arith, length-append}
use Rattle.std.specs.Prelude.{All, slice_get, MatchBool}
use Rattle.std.specs.Option.{option_map}
use Rattle.std.proofs.lemmas.List.{length-map}
use Rattle.std.proofs.lemmas.List.Elements.{All-nil, All-cons, All-append, All-map, All-weaker}
use Rattle.std.proofs.lemmas.Option.{slice_get-map, same_Some}
use Rattle.fol.specs.declared.shapes.Shape.{Shape}
use Rattle.term_pool.specs.Pools.{Extends}
use Rattle.term_pool.specs.declared.node.Node.{Node}
use Rattle.certificates.specs.BranchesBranch.{Branch}
use Rattle.certificates.specs.ProofTraces.{Application, left_of}
use Rattle.tableau.specs.PoolBranches.{entry_in, IsFormulaNumber}
use Rattle.tableau.specs.declared.entry.PoolEntry.{PoolEntry}
use Rattle.tableau.proofs.PushLemmas.{says_still}
use Rattle.tableau.specs.Numbers.{AreFormulas}
use Rattle.search.specs.Applications.{is_fork, entry_of, IsGenerationFrom, IsExtensionOf, formulas_of}
use Rattle.search.specs.Trees.{branch_of, entries_of}
use Rattle.search.specs.declared.trees.application.Extension.{Extension}
use Rattle.search.proofs.AddedLemmas.{lefts, left_is, entries_are, branch_append, branches_append}
use Rattle.search.proofs.PushLemmas.{entry_for}
use Rattle.tree_checks.specs.Entries.{cases_by, IsGoneOn, IsAtEnd}
use Rattle.tree_checks.specs.Steps.{IsGrowing, IsTaken, IsNotTaken}
use Rattle.tree_checks.specs.declared.grown.steps.GrownStep.{GrownStep}
use Rattle.tree_checks.proofs.GrownReachedLemmas.{all_found, found}

-- ---- one formula

abbrev pub alone : PoolEntry → List PoolEntry
alone e = e ∷ []

at_case : (f : ℕ → PoolEntry) (xs : List ℕ) (k : ℕ) (d : ℕ) → k < length xs → slice_get (map alone (map f xs)) k ≡ Some (f (get_or xs k d) ∷ [])
at_case f [] k d w = absurd (omega (arith, w))
at_case f (x ∷ xs) zero d w = refl
at_case f (x ∷ xs) (suc k) d w = at_case f xs k d (omega (arith, w))

pub one_alone : (es : List PoolEntry) (k : ℕ) (added : List PoolEntry) → slice_get (map alone es) k ≡ Some added → length added ≡ 1
one_alone [] k added e = absurd (cc)
one_alone (x ∷ es) zero added e = (let same : x ∷ [] ≡ added = cc in ap length (sym same))
one_alone (x ∷ es) (suc k) added e = one_alone es k added e

module _ (g : Extension) (number : ℕ) (before : List PoolEntry) where
  pub no_room : 4000 ≤ length before → IsAtEnd (cases_by true (entries_of g)) number before
  no_room w = record {
    none = λ after h. (
        let l : length after ≡ length (before ++ h.added) = ap length h.is in
        let m = length-append before h.added in
        let n = one_alone (entries_of g) number h.added h.found in
        let short = h.short in
        absurd (omega (arith, w, l, m, n, short)));
  }

  pub gone_aside : (d : ℕ) → number < length g.formulas.items → length before < 4000 → (after : List PoolEntry) → after ≡ before ++ entry_for g (get_or g.formulas.items number d) ∷ [] → IsGoneOn (cases_by true (entries_of g)) number before after
  gone_aside d w room after is = record {
    added = entry_for g (get_or g.formulas.items number d) ∷ [];
    found = at_case (entry_for g) g.formulas.items number d w;
    is = is;
    short = (
        let l : length after ≡ length (before ++ entry_for g (get_or g.formulas.items number d) ∷ []) = ap length is in
        let m = length-append before (entry_for g (get_or g.formulas.items number d) ∷ []) in
        omega (arith, room, l, m));
  }

-- ---- as branches

pub map_alone : (ns : List Node) (es ds : List PoolEntry) → map (λ (d : PoolEntry). branch_of ns (es ++ d ∷ [])) ds ≡ map (λ (xs : List PoolEntry). branch_of ns (es ++ xs)) (map alone ds)
map_alone ns es [] = refl
map_alone ns es (d ∷ ds) = (let rest = map_alone ns es ds in λ i. branch_of ns (es ++ d ∷ []) ∷ rest i)

pub lefts_are : (f : Bool) (ns : List Node) (es ds : List PoolEntry) → lefts f (branch_of ns es) (branch_of ns ds) ≡ map (λ (xs : List PoolEntry). branch_of ns (es ++ xs)) (cases_by f ds)
lefts_are false ns es ds = ap (λ b. b ∷ []) (sym (branch_append ns es ds))
lefts_are true ns es ds = sym (branches_append ns es ds) ∙ map_alone ns es ds

mapped : {X : Type 0} (f : X → Branch) (o : Option X) (c : Branch) → option_map f o ≡ Some c → (x : X) × (o ≡ Some x) × (f x ≡ c)
mapped f None c e = absurd (cc)
mapped f (Some x) c e = (x, refl, (let same : f x ≡ c = cc in same))

-- a step leads to at most one branch
pub one_taken : (shapes : List Shape) (ns : List Node) (b : Branch) (s : GrownStep) (c d : Branch) → IsTaken shapes ns b s c → IsTaken shapes ns b s d → c ≡ d
one_taken shapes ns b s c d h k =
    let first = left_is ns (formulas_of ns s.extension) b s.extension.reason s.extension.generation h.growing.application h.growing.is.added h.growing.from in
    let second = left_is ns (formulas_of ns s.extension) b s.extension.reason s.extension.generation k.growing.application k.growing.is.added k.growing.from in
    same_Some c d (sym h.left ∙ ap (λ bs. slice_get bs s.case) (first ∙ sym second) ∙ k.left)

pub short_entries : (ns : List Node) (es : List PoolEntry) → length (branch_of ns es) ≡ length es
short_entries ns es = length-map es (entry_in ns)

module _ (shapes : List Shape) (ns : List Node) (es : List PoolEntry) (s : GrownStep) where
  abbrev cases : List (List PoolEntry)
  cases = cases_by (is_fork s.extension.reason) (entries_of s.extension)

  left : (application : Application) → IsExtensionOf ns s.extension application → IsGenerationFrom (branch_of ns es) (entry_of s.extension.reason) s.extension.generation → left_of (branch_of ns es) application ≡ map (λ (xs : List PoolEntry). branch_of ns (es ++ xs)) cases
  left application is from =
      left_is ns (formulas_of ns s.extension) (branch_of ns es) s.extension.reason s.extension.generation application is.added from
      ∙ ap (λ ds. lefts (is_fork s.extension.reason) (branch_of ns es) ds) (sym (entries_are ns s.extension))
      ∙ lefts_are (is_fork s.extension.reason) ns es (entries_of s.extension)

  taken_so : IsGrowing shapes ns (branch_of ns es) s.extension → (fs : List PoolEntry) → IsGoneOn cases s.case es fs → IsTaken shapes ns (branch_of ns es) s (branch_of ns fs)
  taken_so growing fs h = record {
    growing = growing;
    left = ap (λ bs. slice_get bs s.case) (left growing.application growing.is growing.from) ∙ slice_get-map (λ (xs : List PoolEntry). branch_of ns (es ++ xs)) cases s.case ∙ ap (option_map (λ (xs : List PoolEntry). branch_of ns (es ++ xs))) h.found ∙ ap (λ xs. Some (branch_of ns xs)) (sym h.is);
    short = (let l = short_entries ns fs in let k = h.short in omega (arith, l, k));
  }

  pub at_end : IsAtEnd cases s.case es → IsNotTaken shapes ns (branch_of ns es) s
  at_end h = record {
    none = λ c taken. (
        let found : option_map (λ (xs : List PoolEntry). branch_of ns (es ++ xs)) (slice_get cases s.case) ≡ Some c = sym (slice_get-map (λ (xs : List PoolEntry). branch_of ns (es ++ xs)) cases s.case) ∙ ap (λ bs. slice_get bs s.case) (sym (left taken.growing.application taken.growing.is taken.growing.from)) ∙ taken.left in
        let it = mapped (λ (xs : List PoolEntry). branch_of ns (es ++ xs)) (slice_get cases s.case) c found in
        let l = short_entries ns (es ++ it.0) in
        let m : length (branch_of ns (es ++ it.0)) ≡ length c = ap length it.2 in
        let short = taken.short in
        h.none (es ++ it.0) (record { added = it.0; found = it.1; is = refl; short = omega (arith, l, m, short) }));
  }

  pub not_growing : (IsGrowing shapes ns (branch_of ns es) s.extension → ⊥) → IsNotTaken shapes ns (branch_of ns es) s
  not_growing none = record { none = λ c taken. none taken.growing }

  -- ---- the numbers of added formulas

  abbrev IsNumbered : PoolEntry → Type 0
  IsNumbered e = IsFormulaNumber ns e.formula

  case_numbered : (f : Bool) → All IsNumbered (entries_of s.extension) → All (All IsNumbered) (cases_by f (entries_of s.extension))
  case_numbered false h = All-cons (All IsNumbered) (entries_of s.extension) [] h (All-nil (All IsNumbered))
  case_numbered true h = All-map (All IsNumbered) alone (entries_of s.extension) (All-weaker IsNumbered (λ e. All IsNumbered (alone e)) (λ e one. All-cons IsNumbered e [] one (All-nil IsNumbered)) (entries_of s.extension) h)

  -- the branch over an extended pool
  pub taken_then : (ms : List Node) → Extends ns ms → AreFormulas ns s.extension.formulas.items → ((i : ℕ) (e : PoolEntry) → slice_get es i ≡ Some e → IsFormulaNumber ns e.formula) → IsGrowing shapes ns (branch_of ns es) s.extension → (fs : List PoolEntry) → IsGoneOn cases s.case es fs → IsTaken shapes ns (branch_of ns es) s (branch_of ms fs)
  taken_then ms grown formulas numbered growing fs h =
      let before : All IsNumbered es = all_found IsNumbered es numbered in
      let entries : All IsNumbered (entries_of s.extension) = All-map IsNumbered (entry_for s.extension) s.extension.formulas.items formulas.each in
      let added : All IsNumbered h.added = found (All IsNumbered) cases s.case h.added (case_numbered (is_fork s.extension.reason) entries) h.found in
      let all : All IsNumbered fs = subst (All IsNumbered) (sym h.is) (All-append IsNumbered es h.added before added) in
      let same : branch_of ms fs ≡ branch_of ns fs = says_still ns ms grown fs (λ i e at. found IsNumbered fs i e all at) in
      subst (IsTaken shapes ns (branch_of ns es) s) (sym same) (taken_so growing fs h)

  -- where the branch continues, and where it does not
  pub taken_or_not : (ms : List Node) → Extends ns ms → AreFormulas ns s.extension.formulas.items → ((i : ℕ) (e : PoolEntry) → slice_get es i ≡ Some e → IsFormulaNumber ns e.formula) → IsGrowing shapes ns (branch_of ns es) s.extension → (fs : List PoolEntry) (known : Bool) → MatchBool known (IsGoneOn cases s.case es fs) (IsAtEnd cases s.case es) → MatchBool known (IsTaken shapes ns (branch_of ns es) s (branch_of ms fs)) (IsNotTaken shapes ns (branch_of ns es) s)
  taken_or_not ms grown formulas numbered growing fs true h = taken_then ms grown formulas numbered growing fs h
  taken_or_not ms grown formulas numbered growing fs false h = at_end h
