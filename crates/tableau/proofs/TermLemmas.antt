-- The terms among the first numbers.
use Rattle.std.proofs.Common.{◌≡◌, inl, inr, ℕ, ◌+◌, ◌<◌, ◌≤◌, List, [], ◌∷◌, ◌++◌, length, subst, arith}
use Rattle.std.specs.Prelude.{Contains}
use Rattle.std.proofs.lemmas.Bool.{cases_lt}
use Rattle.std.proofs.lemmas.List.Elements.{Contains-push, Contains-push_cases, Contains-append_left}
use Rattle.term_pool.specs.Items.{TermSort}
use Rattle.term_pool.specs.Pools.{HasPart}
use Rattle.term_pool.specs.declared.node.Node.{Node}
use Rattle.certificates.specs.BranchesBranch.{Branch, IsGeneration}
use Rattle.tableau.specs.Terms.{term_at, IsBranchTerm, AreBranchTerms}

pub branch_term : (ns : List Node) (b : Branch) (n g : ℕ) → HasPart ns (length ns) n TermSort → IsGeneration b (term_at ns n) g → IsBranchTerm ns b n
branch_term ns b n g part h = record { number = record { within = part.earlier; sort = part.sort }; stands = record { generation = g; holds = h.holds } }

-- ---- the terms among the first numbers

pub record AreTermsBelow (ns : List Node) (b : Branch) (count : ℕ) (numbers : List ℕ) : Type 0 where
  pub within : (n : ℕ) → Contains numbers n → n < count
  pub terms : (n : ℕ) → Contains numbers n → IsBranchTerm ns b n
  pub all : (n : ℕ) → n < count → IsBranchTerm ns b n → Contains numbers n

module _ (ns : List Node) (b : Branch) where
  pub below_none : AreTermsBelow ns b 0 []
  below_none = record {
    within = λ n h. (let w = h.1 in absurd (omega (arith, w)));
    terms = λ n h. (let w = h.1 in absurd (omega (arith, w)));
    all = λ n w h. absurd (omega (arith, w));
  }

  pub below_push : (i : ℕ) (xs : List ℕ) → AreTermsBelow ns b i xs → IsBranchTerm ns b i → AreTermsBelow ns b (i + 1) (xs ++ i ∷ [])
  below_push i xs h term = record { within = within; terms = terms; all = all }
    where
      within : (n : ℕ) → Contains (xs ++ i ∷ []) n → n < i + 1
      within n m = elim (Contains-push_cases xs i n m) [ inl o ↦ (let w = h.within n o in omega (arith, w)) | inr e ↦ omega (arith, e) ]

      terms : (n : ℕ) → Contains (xs ++ i ∷ []) n → IsBranchTerm ns b n
      terms n m = elim (Contains-push_cases xs i n m) [ inl o ↦ h.terms n o | inr e ↦ subst (IsBranchTerm ns b) e term ]

      all : (n : ℕ) → n < i + 1 → IsBranchTerm ns b n → Contains (xs ++ i ∷ []) n
      all n w t = elim (cases_lt n i) [ inl l ↦ Contains-append_left xs (i ∷ []) n (h.all n l t) | inr l ↦ (let e : i ≡ n = omega (arith, w, l) in subst (Contains (xs ++ i ∷ [])) e (Contains-push xs i)) ]

  pub below_skip : (i : ℕ) (xs : List ℕ) → AreTermsBelow ns b i xs → (IsBranchTerm ns b i → ⊥) → AreTermsBelow ns b (i + 1) xs
  below_skip i xs h fails = record {
    within = λ n m. (let w = h.within n m in omega (arith, w));
    terms = h.terms;
    all = λ n w t. elim (cases_lt n i) [ inl l ↦ h.all n l t | inr l ↦ (let e : n ≡ i = omega (arith, w, l) in absurd (fails (subst (IsBranchTerm ns b) e t))) ];
  }

  pub below_all : (i : ℕ) (xs : List ℕ) → length ns ≤ i → AreTermsBelow ns b i xs → AreBranchTerms ns b xs
  below_all i xs w h = record { each = λ n. (h.terms n, λ t. h.all n (let v = t.number.within in omega (arith, v, w)) t) }
