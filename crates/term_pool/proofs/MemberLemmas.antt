-- Members of lists of numbers, and the count of the unseen among the first numbers.
use Rattle.std.proofs.Common.{◌≡◌, ◌⊎◌, inl, inr, ℕ, zero, suc, ◌+◌, ◌<◌, ◌≤◌, Bool, true, false, List, [], ◌∷◌, ◌++◌, refl, sym, ap, ◌∙◌, arith}
use Rattle.std.specs.Prelude.{nat_eq, not}
use Rattle.std.proofs.lemmas.Bool.{cases_eq, eqb-true}
use Rattle.term_pool.specs.Free.{IsOneOf, IsAdded}

pub one_of_first : (n : ℕ) (ms ks : List ℕ) → IsOneOf n ms → IsOneOf n (ms ++ ks)
one_of_first n [] ks h = absurd h
one_of_first n (m ∷ ms) ks (inl e) = inl e
one_of_first n (m ∷ ms) ks (inr h) = inr (one_of_first n ms ks h)

pub one_of_last : (n : ℕ) (ms ks : List ℕ) → IsOneOf n ks → IsOneOf n (ms ++ ks)
one_of_last n [] ks h = h
one_of_last n (m ∷ ms) ks h = inr (one_of_last n ms ks h)

pub one_of_cases : (n : ℕ) (ms ks : List ℕ) → IsOneOf n (ms ++ ks) → IsOneOf n ms ⊎ IsOneOf n ks
one_of_cases n [] ks h = inr h
one_of_cases n (m ∷ ms) ks (inl e) = inl (inl e)
one_of_cases n (m ∷ ms) ks (inr h) = go (one_of_cases n ms ks h)
  where
    go : IsOneOf n ms ⊎ IsOneOf n ks → IsOneOf n (m ∷ ms) ⊎ IsOneOf n ks
    go (inl e) = inl (inr e)
    go (inr e) = inr e

-- ---- one more number was seen

not_same : (n k : ℕ) → (n ≡ k → ⊥) → nat_eq n k ≡ false
not_same n k d = go (nat_eq n k) refl
  where
    go : (b : Bool) → nat_eq n k ≡ b → nat_eq n k ≡ false
    go true e = absurd (d (eqb-true n k e))
    go false e = e

module _ (seen also : ℕ → Bool) (n : ℕ) (more : IsAdded seen also n) where
  pub other : (k : ℕ) → (n ≡ k → ⊥) → also k ≡ seen k
  other k d = more.others k (not_same n k d)

  pub kept : (k : ℕ) → seen k ≡ true → also k ≡ true
  kept k e = go (cases_eq n k)
    where
      go : (n ≡ k) ⊎ (n ≡ k → ⊥) → also k ≡ true
      go (inl h) = ap also (sym h) ∙ more.is
      go (inr d) = other k d ∙ e

-- ---- the count of unseen numbers

abbrev pub one_unless : Bool → ℕ
one_unless true = 0
one_unless false = 1

abbrev pub unseen : (ℕ → Bool) → ℕ → ℕ
unseen f zero = 0
unseen f (suc n) = one_unless (f n) + unseen f n

pub same_unseen : (f g : ℕ → Bool) → ((k : ℕ) → g k ≡ f k) → (count : ℕ) → unseen g count ≡ unseen f count
same_unseen f g same zero = refl
same_unseen f g same (suc count) = λ i. one_unless (same count i) + same_unseen f g same count i

module _ (seen also : ℕ → Bool) (n : ℕ) (more : IsAdded seen also n) where
  same_before : (count : ℕ) → count ≤ n → unseen also count ≡ unseen seen count
  same_before zero w = refl
  same_before (suc k) w =
      let here = ap one_unless (other seen also n more k (λ e. omega (arith, e, w))) in
      let rest = same_before k (omega (arith, w)) in
      omega (arith, here, rest)

  pub fewer : (count : ℕ) → seen n ≡ false → n < count → unseen also count + 1 ≡ unseen seen count
  fewer zero none w = absurd (omega arith)
  fewer (suc k) none w = go (cases_eq n k) (λ h. fewer k none h)
    where
      go : (n ≡ k) ⊎ (n ≡ k → ⊥) → (n < k → unseen also k + 1 ≡ unseen seen k) → unseen also (suc k) + 1 ≡ unseen seen (suc k)
      go (inl e) less =
          let has : one_unless (also k) ≡ 0 = ap one_unless (ap also (sym e) ∙ more.is) in
          let had : one_unless (seen k) ≡ 1 = ap one_unless (ap seen (sym e) ∙ none) in
          let rest = same_before k (omega (arith, e)) in
          omega (arith, has, had, rest)
      go (inr d) less = let here = ap one_unless (other seen also n more k d) in let rest = less (omega (arith, w, d)) in omega (arith, here, rest)

-- ---- the effect of inserting a number

pub was_seen : (a b : Bool) → a ≡ not b → a ≡ false → b ≡ true
was_seen a true e f = refl
was_seen a false e f = absurd (let both : true ≡ false = sym e ∙ f in (cc))

pub was_unseen : (a b : Bool) → a ≡ not b → a ≡ true → b ≡ false
was_unseen a true e f = absurd (let both : false ≡ true = sym e ∙ f in (cc))
was_unseen a false e f = refl

pub same_seen : (seen also : ℕ → Bool) (n : ℕ) → seen n ≡ true → IsAdded seen also n → (k : ℕ) → also k ≡ seen k
same_seen seen also n s more k = go (cases_eq n k)
  where
    go : (n ≡ k) ⊎ (n ≡ k → ⊥) → also k ≡ seen k
    go (inl e) = ap also (sym e) ∙ more.is ∙ sym s ∙ ap seen e
    go (inr d) = other seen also n more k d
