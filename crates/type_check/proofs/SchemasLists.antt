-- Short facts on lists.
use Rattle.std.proofs.Common.{◌≡◌, ℕ, zero, suc, ◌+◌, ◌<◌, ◌≤◌, ◌⊎◌, inl, inr, Bool, false, List, [], ◌∷◌, ◌++◌, length, take, get_or, Some, refl, sym, ◌∙◌, ap, subst, arith, add-one}
use Rattle.std.specs.Prelude.{Contains, slice_get, slice_index_or}
use Rattle.std.proofs.lemmas.Bool.{cases_lt}
use Rattle.std.proofs.Math.Seq.{take-suc}
use Rattle.std.proofs.lemmas.List.{length-append, take_all}
use Rattle.std.proofs.lemmas.List.Elements.{All-contains, Contains-get_or, Contains-push_cases}
use Rattle.std.proofs.lemmas.Option.{slice_get_within, slice_get-get_or, get_or_from_slice_get}

pub some_inside : {A : Type 0} (x y : A) → Some x ≡ Some y → x ≡ y
some_inside x y e = cc

pub contained_at : {A : Type 0} (xs : List A) (x : A) → Contains xs x → (k : ℕ) × (slice_get xs k ≡ Some x)
contained_at xs x c = All-contains (λ y. (k : ℕ) × (slice_get xs k ≡ Some y)) xs x (λ k d lt. (k, slice_get-get_or xs k d lt)) c

pub at_contained : {A : Type 0} (xs : List A) (k : ℕ) (x : A) → slice_get xs k ≡ Some x → Contains xs x
at_contained xs k x e = subst (λ (y : _). Contains xs y) (get_or_from_slice_get xs k x x e) (Contains-get_or xs k x (slice_get_within xs k x e))

pub some_at : {A : Type 0} (xs : List A) (k : ℕ) → k < length xs → (x : A) × (slice_get xs k ≡ Some x)
some_at (x ∷ xs) zero lt = (x, refl)
some_at (x ∷ xs) (suc k) lt = some_at xs k (omega (arith, lt))
some_at [] k lt = absurd (omega (arith, lt))

-- an entry of a list is one of the list with others appended
pub get_before : {A : Type 0} (xs ys : List A) (k : ℕ) → k < length xs → slice_get (xs ++ ys) k ≡ slice_get xs k
get_before (x ∷ xs) ys zero lt = refl
get_before (x ∷ xs) ys (suc k) lt = get_before xs ys k (omega (arith, lt))
get_before [] ys k lt = absurd (omega (arith, lt))

pub get_grown : {A : Type 0} (old new more : List A) (k : ℕ) (x : A) → new ≡ old ++ more → slice_get old k ≡ Some x → slice_get new k ≡ Some x
get_grown old new more k x is e = ap (λ (xs : List _). slice_get xs k) is ∙ get_before old more k (slice_get_within old k x e) ∙ e

pub get_old : {A : Type 0} (old new more : List A) (k : ℕ) (x : A) → new ≡ old ++ more → k < length old → slice_get new k ≡ Some x → slice_get old k ≡ Some x
get_old old new more k x is lt e = sym (get_before old more k lt) ∙ ap (λ (xs : List _). slice_get xs k) (sym is) ∙ e

pub longer : {A : Type 0} (old new more : List A) → new ≡ old ++ more → length old ≤ length new
longer old new more is = (let a = ap (λ (xs : List _). length xs) is in let b = length-append old more in omega (arith, a, b))

-- a flag in a list with one more appended
pub flag_before : (xs : List Bool) (b : Bool) (k : ℕ) → k < length xs → slice_index_or (xs ++ b ∷ []) k false ≡ slice_index_or xs k false
flag_before (x ∷ xs) b zero lt = refl
flag_before (x ∷ xs) b (suc k) lt = flag_before xs b k (omega (arith, lt))
flag_before [] b k lt = absurd (omega (arith, lt))

pub flag_last : (xs : List Bool) (b : Bool) → slice_index_or (xs ++ b ∷ []) (length xs) false ≡ b
flag_last [] b = refl
flag_last (x ∷ xs) b = flag_last xs b

pub last_is : (k n : ℕ) → k < suc n → (k < n) ⊎ (k ≡ n)
last_is k n lt = elim (cases_lt k n) [
  | inl below ↦ inl below
  | inr other ↦ inr (omega (arith, lt, other))
]

pub length_pushed : {A : Type 0} (xs : List A) (x : A) (n : ℕ) → length xs ≡ n → length (xs ++ x ∷ []) ≡ suc n
length_pushed xs x n e = (let a = length-append xs (x ∷ []) in omega (arith, a, e))

-- ---- a property of one of the first so many

pub none_of_none : {A : Type 0} (IsSo : A → Type 0) (x : A) → Contains [] x → IsSo x → ⊥
none_of_none IsSo x c h = let b = c.1 in omega arith

pub take_next : {A : Type 0} (xs : List A) (n : ℕ) (x : A) → slice_get xs n ≡ Some x → take (n + 1) xs ≡ take n xs ++ x ∷ []
take_next xs n x h =
    ap (λ m. take m xs) (add-one n) ∙ take-suc xs n x (slice_get_within xs n x h)
    ∙ ap (λ (y : _). take n xs ++ y ∷ []) (get_or_from_slice_get xs n x x h)

pub taken_next : {A : Type 0} (xs all new : List A) (n : ℕ) (d : A) → n < length xs → new ≡ all ++ get_or xs n d ∷ [] → all ≡ take n xs → new ≡ take (n + 1) xs
taken_next xs all new n d lt e f = e ∙ ap (λ (ys : List _). ys ++ get_or xs n d ∷ []) f ∙ sym (take_next xs n (get_or xs n d) (slice_get-get_or xs n d lt))

pub none_next : {A : Type 0} (IsSo : A → Type 0) (xs : List A) (n : ℕ) (x : A) → slice_get xs n ≡ Some x → (IsSo x → ⊥) → ((y : A) → Contains (take n xs) y → IsSo y → ⊥)
    → (y : A) → Contains (take (n + 1) xs) y → IsSo y → ⊥
none_next IsSo xs n x at not none y c h = elim (Contains-push_cases (take n xs) x y (subst (λ (ys : List _). Contains ys y) (take_next xs n x at) c)) [
  | inl there ↦ none y there h
  | inr same ↦ not (subst IsSo (sym same) h)
]

pub none_all : {A : Type 0} (IsSo : A → Type 0) (xs : List A) (n : ℕ) → length xs ≤ n → ((y : A) → Contains (take n xs) y → IsSo y → ⊥) → (y : A) → Contains xs y → IsSo y → ⊥
none_all IsSo xs n le none y c h = none y (subst (λ (ys : List _). Contains ys y) (sym (take_all n xs le)) c) h
