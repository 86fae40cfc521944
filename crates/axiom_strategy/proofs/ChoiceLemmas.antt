-- Candidates chosen one after another.
use Rattle.std.proofs.Common.{◌≡◌, inl, inr, ℕ, Bool, true, false, List, [], ◌∷◌, ◌++◌, refl, sym, ap, ◌∙◌, subst, arith}
use Rattle.std.specs.Prelude.{Contains}
use Rattle.std.proofs.lemmas.List.Elements.{Contains-push, Contains-push_cases, Contains-append_left}
use Rattle.term_pool.specs.declared.node.Node.{Node}
use Rattle.base.specs.KeyedPairs.{AreMore}
use Rattle.congruence_closure.specs.Known.{BranchClassesData, class_of}
use Rattle.axiom_strategy.specs.Numbers.{mark_at}
use Rattle.axiom_strategy.specs.Cuts.{kind_of, IsShallowTerm, IsChoice, Chosen, PassedOver, HasCandidate, AreCandidates}

same_kind : (x y : Bool) → kind_of x ≡ kind_of y → x ≡ y
same_kind true true e = refl
same_kind false false e = refl
same_kind true false e = absurd (omega (arith, e))
same_kind false true e = absurd (omega (arith, e))

-- a candidate of the class and of the kind
pub record IsChosen (c : BranchClassesData) (marks : List Bool) (candidates : List ℕ) (class kind : ℕ) : Type 0 where
  pub candidate : ℕ
  pub among : Contains candidates candidate
  pub same_class : class_of c candidate ≡ class
  pub is_kind : kind_of (mark_at marks candidate) ≡ kind

pub record AreChosen (ns : List Node) (c : BranchClassesData) (marks : List Bool) (done candidates : List ℕ) (seen : List (ℕ × ℕ)) : Type 0 where
  pub candidates_are : AreCandidates ns c marks done candidates
  pub seen_are : (class kind : ℕ) → Contains seen (class, kind) → IsChosen c marks candidates class kind

module _ (ns : List Node) (c : BranchClassesData) (marks : List Bool) where
  pub chosen_begun : AreChosen ns c marks [] [] []
  chosen_begun = record {
    candidates_are = record { terms_are = λ t h. h; shallow = λ t h. absurd (let w = h.1 in omega (arith, w)); all = λ t h s. absurd (let w = h.1 in omega (arith, w)) };
    seen_are = λ k m h. absurd (let w = h.1 in omega (arith, w));
  }

  -- a term that is too deep
  pub chosen_deep : (done candidates : List ℕ) (seen : List (ℕ × ℕ)) (n : ℕ) → AreChosen ns c marks done candidates seen → (IsShallowTerm ns n → ⊥) → AreChosen ns c marks (done ++ n ∷ []) candidates seen
  chosen_deep done candidates seen n h deep = record {
    candidates_are = record {
      terms_are = λ t m. Contains-append_left done (n ∷ []) t (h.candidates_are.terms_are t m);
      shallow = h.candidates_are.shallow;
      all = λ t m s. elim (Contains-push_cases done n t m) [ inl o ↦ h.candidates_are.all t o s | inr o ↦ absurd (deep (subst (IsShallowTerm ns) (sym o) s)) ];
    };
    seen_are = h.seen_are;
  }

  has_chosen : (candidates : List ℕ) (n : ℕ) → IsChosen c marks candidates (class_of c n) (kind_of (mark_at marks n)) → HasCandidate c marks candidates n
  has_chosen candidates n h = record { candidate = h.candidate; among = h.among; same_class = h.same_class; same_mark = same_kind (mark_at marks h.candidate) (mark_at marks n) h.is_kind }

  -- a term that has another candidate
  chosen_same : (done candidates : List ℕ) (seen more : List (ℕ × ℕ)) (n kind : ℕ) → AreChosen ns c marks done candidates seen → kind ≡ kind_of (mark_at marks n) → AreMore seen more (class_of c n, kind) → Contains seen (class_of c n, kind) → AreChosen ns c marks (done ++ n ∷ []) candidates more
  chosen_same done candidates seen more n kind h is added old = record {
    candidates_are = record {
      terms_are = λ t m. Contains-append_left done (n ∷ []) t (h.candidates_are.terms_are t m);
      shallow = h.candidates_are.shallow;
      all = λ t m s. elim (Contains-push_cases done n t m) [ inl o ↦ h.candidates_are.all t o s | inr o ↦ subst (HasCandidate c marks candidates) o (has_chosen candidates n (subst (IsChosen c marks candidates (class_of c n)) is chosen)) ];
    };
    seen_are = λ k m o. elim (added.only (k, m) o) [ inl p ↦ h.seen_are k m p | inr p ↦ h.seen_are k m (subst (Contains seen) (sym p) old) ];
  }
    where
      chosen : IsChosen c marks candidates (class_of c n) kind
      chosen = h.seen_are (class_of c n) kind old

  -- a term that is chosen
  chosen_more : (done candidates : List ℕ) (seen more : List (ℕ × ℕ)) (n kind : ℕ) → AreChosen ns c marks done candidates seen → kind ≡ kind_of (mark_at marks n) → AreMore seen more (class_of c n, kind) → IsShallowTerm ns n → AreChosen ns c marks (done ++ n ∷ []) (candidates ++ n ∷ []) more
  chosen_more done candidates seen more n kind h is added shallow = record {
    candidates_are = record { terms_are = terms_are; shallow = shallow_are; all = all };
    seen_are = seen_are;
  }
    where
      terms_are : (t : ℕ) → Contains (candidates ++ n ∷ []) t → Contains (done ++ n ∷ []) t
      terms_are t m = elim (Contains-push_cases candidates n t m) [ inl o ↦ Contains-append_left done (n ∷ []) t (h.candidates_are.terms_are t o) | inr o ↦ subst (Contains (done ++ n ∷ [])) o (Contains-push done n) ]

      shallow_are : (t : ℕ) → Contains (candidates ++ n ∷ []) t → IsShallowTerm ns t
      shallow_are t m = elim (Contains-push_cases candidates n t m) [ inl o ↦ h.candidates_are.shallow t o | inr o ↦ subst (IsShallowTerm ns) o shallow ]

      later : (t : ℕ) → HasCandidate c marks candidates t → HasCandidate c marks (candidates ++ n ∷ []) t
      later t o = record { candidate = o.candidate; among = Contains-append_left candidates (n ∷ []) o.candidate o.among; same_class = o.same_class; same_mark = o.same_mark }

      all : (t : ℕ) → Contains (done ++ n ∷ []) t → IsShallowTerm ns t → HasCandidate c marks (candidates ++ n ∷ []) t
      all t m s = elim (Contains-push_cases done n t m) [
        | inl o ↦ later t (h.candidates_are.all t o s)
        | inr o ↦ subst (HasCandidate c marks (candidates ++ n ∷ [])) o (record { candidate = n; among = Contains-push candidates n; same_class = refl; same_mark = refl })
      ]

      seen_are : (k m : ℕ) → Contains more (k, m) → IsChosen c marks (candidates ++ n ∷ []) k m
      seen_are k m o = elim (added.only (k, m) o) [
        | inl p ↦ (let q = h.seen_are k m p in record { candidate = q.candidate; among = Contains-append_left candidates (n ∷ []) q.candidate q.among; same_class = q.same_class; is_kind = q.is_kind })
        | inr p ↦ record { candidate = n; among = Contains-push candidates n; same_class = sym (ap (λ (q : ℕ × ℕ). q.0) p); is_kind = sym is ∙ sym (ap (λ (q : ℕ × ℕ). q.1) p) }
      ]

  pub choice_made : (done candidates chosen : List ℕ) (seen more : List (ℕ × ℕ)) (n kind : ℕ) → AreChosen ns c marks done candidates seen → kind ≡ kind_of (mark_at marks n) → IsShallowTerm ns n → IsChoice (class_of c n) kind n candidates chosen seen more → AreChosen ns c marks (done ++ n ∷ []) chosen more
  choice_made done candidates chosen seen more n kind h is shallow (Chosen e added) = subst (λ xs. AreChosen ns c marks (done ++ n ∷ []) xs more) (sym e) (chosen_more done candidates seen more n kind h is added shallow)
  choice_made done candidates chosen seen more n kind h is shallow (PassedOver e old added) = subst (λ xs. AreChosen ns c marks (done ++ n ∷ []) xs more) (sym e) (chosen_same done candidates seen more n kind h is added old)
