-- The pairs that a set contains.
use Rattle.std.proofs.Common.{◌≡◌, ◌⊎◌, inl, inr, ◌↔◌, ℕ, zero, suc, Bool, true, false, not, List, [], ◌∷◌, ◌++◌, true≢false, refl, sym, ap, ◌∙◌, subst, if◌then◌else◌, arith}
use Rattle.std.specs.Prelude.{Contains, ◌&&◌, ◌||◌, nat_eq, IsTrue}
use Rattle.std.specs.List.{list_any}
use Rattle.std.proofs.lemmas.Bool.{eqb-true, eq-eqb, and_parts, and_from}
use Rattle.std.proofs.lemmas.List.Elements.{Contains-append_left, Contains-push_cases}
use Rattle.indexmap.specs.IndexSet.{insert_key}
use Rattle.indexmap.proofs.CallerLemmas.{Contains-list_any, Contains-insert_key}
use Rattle.base.specs.KeyedPairs.{AreMore}

abbrev pub same_pair : ℕ × ℕ → ℕ × ℕ → Bool
same_pair p q = nat_eq p.0 q.0 && nat_eq p.1 q.1

same_is : (p q : ℕ × ℕ) → same_pair p q ≡ true → p ≡ q
same_is p q e =
    let both = and_parts (nat_eq p.0 q.0) (nat_eq p.1 q.1) e in
    let left : p.0 ≡ q.0 = eqb-true p.0 q.0 both.0 in
    let right : p.1 ≡ q.1 = eqb-true p.1 q.1 both.1 in
    λ i. (left i, right i)

is_same : (p q : ℕ × ℕ) → p ≡ q → same_pair p q ≡ true
is_same p q e = and_from (nat_eq p.0 q.0) (nat_eq p.1 q.1) (eq-eqb p.0 q.0 (ap (λ (r : ℕ × ℕ). r.0) e)) (eq-eqb p.1 q.1 (ap (λ (r : ℕ × ℕ). r.1) e))

found : (ps : List (ℕ × ℕ)) (p : ℕ × ℕ) → Contains ps p → list_any (same_pair p) ps ≡ true
found [] p (k, w, e) = absurd (omega (arith, w))
found (q ∷ ps) p (zero, w, e) = ap (λ b. b || list_any (same_pair p) ps) (is_same p q (sym e))
found (q ∷ ps) p (suc k, w, e) = go (same_pair p q) (found ps p (k, omega (arith, w), e))
  where
    go : (b : Bool) → list_any (same_pair p) ps ≡ true → (b || list_any (same_pair p) ps) ≡ true
    go true h = refl
    go false h = h

pub pair_found : (ps qs : List (ℕ × ℕ)) (p : ℕ × ℕ) (r : Bool) → ps ≡ qs → r ≡ list_any (same_pair p) ps → IsTrue r ↔ Contains qs p
pair_found ps qs p r v e = subst (λ xs. IsTrue r ↔ Contains xs p) v (λ t. Contains-list_any same_pair same_is ps p (sym e ∙ t), λ h. e ∙ found ps p h)

pub pair_added : (ps qs rs : List (ℕ × ℕ)) (p : ℕ × ℕ) → ps ≡ qs → rs ≡ insert_key same_pair ps p → AreMore qs rs p
pair_added ps qs rs p v e = subst (λ xs. AreMore xs rs p) v (subst (λ xs. AreMore ps xs p) (sym e) (record { kept = λ q h. kept q h (list_any (same_pair p) ps); has = Contains-insert_key same_pair same_is ps p; only = λ q h. only q (list_any (same_pair p) ps) h }))
  where
    kept : (q : ℕ × ℕ) → Contains ps q → (b : Bool) → Contains (if b then ps else ps ++ p ∷ []) q
    kept q h true = h
    kept q h false = Contains-append_left ps (p ∷ []) q h

    only : (q : ℕ × ℕ) (b : Bool) → Contains (if b then ps else ps ++ p ∷ []) q → Contains ps q ⊎ (q ≡ p)
    only q true h = inl h
    only q false h = elim (Contains-push_cases ps p q h) [ inl o ↦ inl o | inr o ↦ inr (sym o) ]

pub pair_fresh : (ps qs : List (ℕ × ℕ)) (p : ℕ × ℕ) (r : Bool) → ps ≡ qs → r ≡ not (list_any (same_pair p) ps) → IsTrue r ↔ (Contains qs p → ⊥)
pair_fresh ps qs p r v e = subst (λ xs. IsTrue r ↔ (Contains xs p → ⊥)) v (λ t h. true≢false (sym (sym e ∙ t) ∙ ap not (found ps p h)), λ none. e ∙ go none (list_any (same_pair p) ps) refl)
  where
    go : (Contains ps p → ⊥) → (b : Bool) → list_any (same_pair p) ps ≡ b → not b ≡ true
    go none true f = absurd (none (Contains-list_any same_pair same_is ps p f))
    go none false f = refl
