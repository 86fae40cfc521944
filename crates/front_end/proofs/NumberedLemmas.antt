-- Facts about numbered items of a list that is read in order.
use Rattle.std.proofs.Common.{◌≡◌, ℕ, zero, suc, ◌+◌, ◌<◌, ◌≤◌, List, [], ◌∷◌, ◌++◌, length, take, get_or, refl, sym, ap, subst, ◌∙◌, arith}
use Rattle.std.proofs.lemmas.List.{take_more}
use Rattle.front_end.specs.Numbered.{Each, EachPair, IsFirst}

each_more : {A : Type 0} (P : ℕ → A → Type 0) (n : ℕ) (xs : List A) (x : A) → Each P n xs → P (n + length xs) x → Each P n (xs ++ x ∷ [])
each_more P n [] x e p = (subst (λ k. P k x) (omega arith) p, tt)
each_more P n (y ∷ xs) x e p = (e.0, each_more P (1 + n) xs x e.1 (subst (λ k. P k x) (omega arith) p))

pairs_more : {A B : Type 0} (P : ℕ → A → B → Type 0) (n : ℕ) (xs : List A) (ys : List B) (x : A) (y : B) → EachPair P n xs ys → P (n + length xs) x y → EachPair P n (xs ++ x ∷ []) (ys ++ y ∷ [])
pairs_more P n [] [] x y e p = (subst (λ k. P k x y) (omega arith) p, tt)
pairs_more P n [] (w ∷ ys) x y e p = absurd e
pairs_more P n (v ∷ xs) [] x y e p = absurd e
pairs_more P n (v ∷ xs) (w ∷ ys) x y e p = (e.0, pairs_more P (1 + n) xs ys x y e.1 (subst (λ k. P k x y) (omega arith) p))

pub length_taken : {A : Type 0} (xs : List A) (i : ℕ) → i ≤ length xs → length (take i xs) ≡ i
length_taken [] zero h = refl
length_taken [] (suc i) h = absurd (omega (arith, h))
length_taken (x ∷ xs) zero h = refl
length_taken (x ∷ xs) (suc i) h = ap suc (length_taken xs i (omega (arith, h)))

pub counted : {A : Type 0} (xs : List A) (i : ℕ) → i < length xs → i ≡ 0 + length (take i xs)
counted xs i h = omega (arith, length_taken xs i (omega (arith, h)))

-- one more item
pub each_taken : {A : Type 0} (P : ℕ → A → Type 0) (xs : List A) (i : ℕ) (d : A) → i < length xs → Each P 0 (take i xs) → P i (get_or xs i d) → Each P 0 (take (i + 1) xs)
each_taken P xs i d h e p =
    subst (Each P 0) (sym (take_more xs i d h)) (each_more P 0 (take i xs) (get_or xs i d) e (subst (λ k. P k (get_or xs i d)) (counted xs i h) p))

pub pairs_taken : {A B : Type 0} (P : ℕ → A → B → Type 0) (xs : List A) (i : ℕ) (d : A) (ys more : List B) (y : B) → i < length xs → EachPair P 0 (take i xs) ys → P i (get_or xs i d) y → more ≡ ys ++ y ∷ [] → EachPair P 0 (take (i + 1) xs) more
pairs_taken P xs i d ys more y h e p m =
    subst (EachPair P 0 (take (i + 1) xs)) (sym m)
    (subst (λ front. EachPair P 0 front (ys ++ y ∷ [])) (sym (take_more xs i d h)) (pairs_more P 0 (take i xs) ys (get_or xs i d) y e (subst (λ k. P k (get_or xs i d) y) (counted xs i h) p)))

-- the items after an item
abbrev pub behind : {A : Type 0} → List A → ℕ → List A
behind [] i = []
behind (x ∷ xs) zero = xs
behind (x ∷ xs) (suc i) = behind xs i

pub parts_at : {A : Type 0} (xs : List A) (i : ℕ) (d : A) → i < length xs → xs ≡ take i xs ++ get_or xs i d ∷ behind xs i
parts_at [] i d h = absurd (omega arith)
parts_at (x ∷ xs) zero d h = refl
parts_at (x ∷ xs) (suc i) d h = ap (λ ys. x ∷ ys) (parts_at xs i d (omega (arith, h)))

-- the item that was found is the first
pub first_at : {A : Type 0} {Right Found : ℕ → A → Type 0} (xs : List A) (i : ℕ) (d : A) → i < length xs → Each Right 0 (take i xs) → Found i (get_or xs i d) → IsFirst Right Found xs i
first_at xs i d h e f = record {
  before = take i xs;
  item = get_or xs i d;
  behind = behind xs i;
  parts = parts_at xs i d h;
  number_is = sym (length_taken xs i (omega (arith, h)));
  right = e;
  found = f;
}

pub taken_all : {A : Type 0} (xs : List A) (i : ℕ) → length xs ≤ i → take i xs ≡ xs
taken_all [] zero h = refl
taken_all [] (suc i) h = refl
taken_all (x ∷ xs) zero h = absurd (omega (arith, h))
taken_all (x ∷ xs) (suc i) h = ap (λ ys. x ∷ ys) (taken_all xs i (omega (arith, h)))

pub each_all : {A : Type 0} (P : ℕ → A → Type 0) (xs : List A) (i : ℕ) → length xs ≤ i → Each P 0 (take i xs) → Each P 0 xs
each_all P xs i h e = subst (Each P 0) (taken_all xs i h) e

pub pairs_all : {A B : Type 0} (P : ℕ → A → B → Type 0) (xs : List A) (ys : List B) (i : ℕ) → length xs ≤ i → EachPair P 0 (take i xs) ys → EachPair P 0 xs ys
pairs_all P xs ys i h e = subst (λ front. EachPair P 0 front ys) (taken_all xs i h) e

pub pairs_length : {A B : Type 0} (P : ℕ → A → B → Type 0) (n : ℕ) (xs : List A) (ys : List B) → EachPair P n xs ys → length ys ≡ length xs
pairs_length P n [] [] e = refl
pairs_length P n [] (y ∷ ys) e = absurd e
pairs_length P n (x ∷ xs) [] e = absurd e
pairs_length P n (x ∷ xs) (y ∷ ys) e = ap suc (pairs_length P (1 + n) xs ys e.1)

-- ---- the first item of one list is that of another

record FirstFrom {A : Type 0} (Right Found : ℕ → A → Type 0) (n : ℕ) (items : List A) (many : ℕ) : Type 0 where
  before : List A
  item : A
  behind : List A
  parts : items ≡ before ++ item ∷ behind
  many_is : length before ≡ many
  right : Each Right n before
  found : Found (n + many) item

first_across_from : {A B : Type 0} (R : ℕ → A → B → Type 0) {P F : ℕ → A → Type 0} {Q G : ℕ → B → Type 0} (n : ℕ) (before : List A) (x : A) (back : List A) (ys : List B)
    → ((k : ℕ) (a : A) (b : B) → R k a b → P k a → Q k b) → ((k : ℕ) (a : A) (b : B) → R k a b → F k a → G k b)
    → EachPair R n (before ++ x ∷ back) ys → Each P n before → F (n + length before) x → FirstFrom Q G n ys (length before)
first_across_from R n [] x back [] f g e p h = absurd e
first_across_from R {F = F} {G = G} n [] x back (y ∷ ys) f g e p h = record {
  before = [];
  item = y;
  behind = ys;
  parts = refl;
  many_is = refl;
  right = tt;
  found = subst (λ k. G k y) (from_zero n) (g n x y e.0 (subst (λ k. F k x) (sym (from_zero n)) h));
}
  where
    from_zero : (k : ℕ) → k ≡ k + 0
    from_zero k = omega arith
first_across_from R n (a ∷ before) x back [] f g e p h = absurd e
first_across_from R {F = F} {Q = Q} {G = G} n (a ∷ before) x back (y ∷ ys) f g e p h = grown (first_across_from R (1 + n) before x back ys f g e.1 p.1 (subst (λ k. F k x) (moved n (length before)) h))
  where
    moved : (k l : ℕ) → k + suc l ≡ (1 + k) + l
    moved k l = omega arith

    grown : FirstFrom Q G (1 + n) ys (length before) → FirstFrom Q G n (y ∷ ys) (suc (length before))
    grown r = record {
      before = y ∷ r.before;
      item = r.item;
      behind = r.behind;
      parts = ap (λ list. y ∷ list) r.parts;
      many_is = ap suc r.many_is;
      right = (f n a y e.0 p.0, r.right);
      found = subst (λ k. G k r.item) (sym (moved n (length before))) r.found;
    }

pub first_across : {A B : Type 0} (R : ℕ → A → B → Type 0) {P F : ℕ → A → Type 0} {Q G : ℕ → B → Type 0} (xs : List A) (ys : List B) (number : ℕ)
    → ((k : ℕ) (a : A) (b : B) → R k a b → P k a → Q k b) → ((k : ℕ) (a : A) (b : B) → R k a b → F k a → G k b)
    → EachPair R 0 xs ys → IsFirst P F xs number → IsFirst Q G ys number
first_across R {F = F} {G = G} xs ys number f g e first =
    let r = first_across_from R 0 first.before first.item first.behind ys f g (subst (λ list. EachPair R 0 list ys) first.parts e) first.right (subst (λ k. F k first.item) (omega (arith, first.number_is)) first.found) in
    record {
      before = r.before;
      item = r.item;
      behind = r.behind;
      parts = r.parts;
      number_is = first.number_is ∙ sym r.many_is;
      right = r.right;
      found = subst (λ k. G k r.item) (omega (arith, first.number_is)) r.found;
    }

-- ---- pairs and items

-- a property of each pair gives one of each first item
pub each_of_pairs : {A B : Type 0} (P : ℕ → A → B → Type 0) (Q : ℕ → A → Type 0) (n : ℕ) (xs : List A) (ys : List B) → ((k : ℕ) (x : A) (y : B) → P k x y → Q k x) → EachPair P n xs ys → Each Q n xs
each_of_pairs P Q n [] [] f e = tt
each_of_pairs P Q n [] (y ∷ ys) f e = absurd e
each_of_pairs P Q n (x ∷ xs) [] f e = absurd e
each_of_pairs P Q n (x ∷ xs) (y ∷ ys) f e = (f n x y e.0, each_of_pairs P Q (1 + n) xs ys f e.1)
