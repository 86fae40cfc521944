-- Elements of lists.
use Rattle.std.proofs.Common.{◌≡◌, ℕ, zero, suc, ◌+◌, ◌<◌, ◌≤◌, List, [], ◌∷◌, ◌++◌, length, get_or, pos, ℤ, ◌*ℤ◌, refl, sym, subst, arith, below_more, ◌⊎◌, inl, inr, Option, Some, None, IfSome, IfNone, Result, Ok, Err, OnOk}
use Rattle.std.specs.Option.{SomeIff}
use Rattle.std.proofs.Math.IntN.{*ℤ-zero}

-- at an index of the list the default does not matter
pub get_or-any_default : {A : Type 0} (xs : List A) (k : ℕ) (d e : A) → k < length xs → get_or xs k d ≡ get_or xs k e
get_or-any_default [] k d e h = absurd (omega arith)
get_or-any_default (x ∷ xs) zero d e h = refl
get_or-any_default (x ∷ xs) (suc k) d e h = get_or-any_default xs k d e (omega arith)

-- at any other index the element is the default
pub get_or-past : {A : Type 0} (xs : List A) (k : ℕ) (d : A) → length xs ≤ k → get_or xs k d ≡ d
get_or-past [] k d h = refl
get_or-past (x ∷ xs) zero d h = absurd (omega arith)
get_or-past (x ∷ xs) (suc k) d h = get_or-past xs k d (omega arith)

pub below_or_past : (k n : ℕ) → (k < n) ⊎ (n ≤ k)
below_or_past k zero = inr (omega arith)
below_or_past zero (suc n) = inl (omega arith)
below_or_past (suc k) (suc n) = elim (below_or_past k n) [ inl l ↦ inl (omega arith) | inr l ↦ inr (omega arith) ]

get_or-push_below : {A : Type 0} (xs : List A) (x : A) (k : ℕ) (d : A) → k < length xs → get_or (xs ++ x ∷ []) k d ≡ get_or xs k d
get_or-push_below [] x k d h = absurd (omega arith)
get_or-push_below (y ∷ xs) x zero d h = refl
get_or-push_below (y ∷ xs) x (suc k) d h = get_or-push_below xs x k d (omega arith)

get_or-push_at : {A : Type 0} (xs : List A) (x : A) (n : ℕ) (d : A) → n ≡ length xs → get_or (xs ++ x ∷ []) n d ≡ x
get_or-push_at [] x zero d h = refl
get_or-push_at [] x (suc n) d h = absurd (omega arith)
get_or-push_at (y ∷ xs) x zero d h = absurd (omega arith)
get_or-push_at (y ∷ xs) x (suc n) d h = get_or-push_at xs x n d (omega arith)

-- a property of each element, and of one more element
pub each-push : {A : Type 0} (P : ℕ → A → Type 0) (xs : List A) (x d : A) (n : ℕ) → n ≡ length xs → ((k : ℕ) → k < n → P k (get_or xs k d)) → P n x → (k : ℕ) → k < n + 1 → P k (get_or (xs ++ x ∷ []) k d)
each-push P xs x d n e before here =
    below_more _ _ (λ k h. subst (P k) (sym (get_or-push_below xs x k d (omega arith))) (before k h)) (subst (P n) (sym (get_or-push_at xs x n d e)) here)

-- two lists in a ratio at each index within their length are in the ratio at each index, where a missing element is 0
pub ratio_everywhere : (m : ℤ) (xs ys : List ℤ) → length xs ≡ length ys → ((k : ℕ) → k < length ys → m *ℤ get_or xs k (pos 0) ≡ get_or ys k (pos 0)) → (k : ℕ) → m *ℤ get_or xs k (pos 0) ≡ get_or ys k (pos 0)
ratio_everywhere m xs ys e h k = elim (below_or_past k (length ys)) [
  | inl l ↦ h k l
  | inr l ↦ rw (get_or-past xs k (pos 0) (omega arith), get_or-past ys k (pos 0) l) (*ℤ-zero m)
]

-- a property of an optional value, from the condition under which there is one
pub if_some : {T : Type 0} (r : Option T) (P : Type 0) (v : T) (Q : T → Type 0) → SomeIff r P v → Q v → IfSome r Q
if_some None P v Q h q = tt
if_some (Some x) P v Q h q = subst Q (sym h.1) q

pub if_none : {T : Type 0} (r : Option T) (P : Type 0) (v : T) (Q : Type 0) → SomeIff r P v → (¬ P → Q) → IfNone r Q
if_none None P v Q h q = q h
if_none (Some x) P v Q h q = tt

pub on_ok : {T E : Type 0} (r : Result T E) (P Q : Type 0) → (P → Q) → OnOk r P → OnOk r Q
on_ok (Ok x) P Q f h = f h
on_ok (Err e) P Q f h = tt
