-- Sets of numbers by key: one more number, or one that was there.
use Rattle.std.proofs.Common.{◌≡◌, ◌↔◌, ◌⊎◌, inl, inr, ℕ, Bool, true, false, List, [], ◌∷◌, ◌++◌, cond, refl, sym, ap, ◌∙◌, subst}
use Rattle.std.specs.Prelude.{Contains, nat_eq}
use Rattle.std.proofs.lemmas.Bool.{eqb-true, eq-eqb}
use Rattle.std.proofs.lemmas.List.Elements.{Contains-push, Contains-push_cases, Contains-append_left}
use Rattle.base.specs.Lists.{list_in}
use Rattle.base.specs.KeyedPairs.{AreMore}
use Rattle.axiom_strategy.specs.Keyed.{AreListed, ArePairsOf, HasOneMore}
use Rattle.axiom_strategy.proofs.TakenLemmas.{none_taken}

module _ (lists more : List (ℕ × List ℕ)) (key n : ℕ) where
  pub added : ((k : ℕ) → list_in more k ≡ cond (nat_eq k key) (list_in lists k ++ n ∷ []) (list_in lists k)) → HasOneMore lists more key n
  added e = record { each = λ k x. (there k x, back k x) }
    where
      there : (k x : ℕ) → Contains (list_in more k) x → Contains (list_in lists k) x ⊎ ((k ≡ key) × (x ≡ n))
      there k x m = go (nat_eq k key) refl (subst (λ xs. Contains xs x) (e k) m)
        where
          go : (s : Bool) → nat_eq k key ≡ s → Contains (cond s (list_in lists k ++ n ∷ []) (list_in lists k)) x → Contains (list_in lists k) x ⊎ ((k ≡ key) × (x ≡ n))
          go true q o = elim (Contains-push_cases (list_in lists k) n x o) [ inl p ↦ inl p | inr p ↦ inr (eqb-true k key q, sym p) ]
          go false q o = inl o

      back : (k x : ℕ) → Contains (list_in lists k) x ⊎ ((k ≡ key) × (x ≡ n)) → Contains (list_in more k) x
      back k x m = subst (λ xs. Contains xs x) (sym (e k)) (go (nat_eq k key) refl m)
        where
          go : (s : Bool) → nat_eq k key ≡ s → Contains (list_in lists k) x ⊎ ((k ≡ key) × (x ≡ n)) → Contains (cond s (list_in lists k ++ n ∷ []) (list_in lists k)) x
          go true q (inl o) = Contains-append_left (list_in lists k) (n ∷ []) x o
          go true q (inr o) = subst (Contains (list_in lists k ++ n ∷ [])) (sym o.1) (Contains-push (list_in lists k) n)
          go false q (inl o) = o
          go false q (inr o) = absurd (let never : true ≡ false = sym (eq-eqb k key o.0) ∙ q in cc)

-- a number that the key had
pub had : (lists : List (ℕ × List ℕ)) (key n : ℕ) → Contains (list_in lists key) n → HasOneMore lists lists key n
had lists key n m = record { each = λ k x. (λ o. inl o, back k x) }
  where
    back : (k x : ℕ) → Contains (list_in lists k) x ⊎ ((k ≡ key) × (x ≡ n)) → Contains (list_in lists k) x
    back k x (inl o) = o
    back k x (inr o) = subst (λ j. Contains (list_in lists j) x) (sym o.0) (subst (Contains (list_in lists key)) (sym o.1) m)

pub no_pairs : ArePairsOf [] []
no_pairs = record { each = λ k x. (λ m. absurd (none_taken (k, x) m), λ m. absurd (none_taken x m)) }

pub more_pairs : (lists more : List (ℕ × List ℕ)) (pairs next : List (ℕ × ℕ)) (key n : ℕ) → ArePairsOf lists pairs → AreMore pairs next (key, n) → HasOneMore lists more key n → ArePairsOf more next
more_pairs lists more pairs next key n h put one = record { each = λ k x. (there k x, back k x) }
  where
    there : (k x : ℕ) → Contains next (k, x) → Contains (list_in more k) x
    there k x m = elim (put.only (k, x) m) [
      | inl o ↦ (one.each k x).1 (inl ((h.each k x).0 o))
      | inr o ↦ (one.each k x).1 (inr (ap (λ (p : ℕ × ℕ). p.0) o, ap (λ (p : ℕ × ℕ). p.1) o))
    ]

    back : (k x : ℕ) → Contains (list_in more k) x → Contains next (k, x)
    back k x m = elim ((one.each k x).0 m) [
      | inl o ↦ put.kept (k, x) ((h.each k x).1 o)
      | inr o ↦ (let first : key ≡ k = sym o.0 in let second : n ≡ x = sym o.1 in subst (λ (p : ℕ × ℕ). Contains next p) (λ i. (first i, second i)) put.has)
    ]

-- ---- the contents of lists

module _ (IsOf IsNow : ℕ → ℕ → Type 0) where
  pub one_listed : {lists more : List (ℕ × List ℕ)} {key n : ℕ} → AreListed IsOf lists → HasOneMore lists more key n → ((k x : ℕ) → IsNow k x ↔ (IsOf k x ⊎ ((k ≡ key) × (x ≡ n)))) → AreListed IsNow more
  one_listed {lists} {more} {key} {n} h one same = record { each = λ k x. (there k x, back k x) }
    where
      there : (k x : ℕ) → Contains (list_in more k) x → IsNow k x
      there k x m = (same k x).1 (elim ((one.each k x).0 m) [ inl o ↦ inl ((h.each k x).0 o) | inr o ↦ inr o ])

      back : (k x : ℕ) → IsNow k x → Contains (list_in more k) x
      back k x s = (one.each k x).1 (elim ((same k x).0 s) [ inl o ↦ inl ((h.each k x).1 o) | inr o ↦ inr o ])

  pub as_listed : {lists : List (ℕ × List ℕ)} → AreListed IsOf lists → ((k x : ℕ) → IsNow k x ↔ IsOf k x) → AreListed IsNow lists
  as_listed h same = record { each = λ k x. (λ m. (same k x).1 ((h.each k x).0 m), λ s. (h.each k x).1 ((same k x).0 s)) }

pub none_listed : (IsOf : ℕ → ℕ → Type 0) → ((k x : ℕ) → IsOf k x → ⊥) → AreListed IsOf []
none_listed IsOf none = record { each = λ k x. (λ m. absurd (none_taken x m), λ s. absurd (none k x s)) }
