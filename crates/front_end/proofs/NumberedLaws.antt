-- There is at most one first item, and at most one list that is paired with another.
use Rattle.std.proofs.Common.{◌≡◌, ℕ, suc, ◌+◌, List, [], ◌∷◌, ◌++◌, length, refl, sym, ap, subst, ◌∙◌, arith}
use Rattle.base.proofs.ListEnds.{head_is, tail_is}
use Rattle.base.proofs.PairLaws.{one_list as same_list}
use Rattle.front_end.specs.Numbered.{Each, EachPair, IsFirst, with_numbers}

pub one_list : {A B : Type 0} (R : ℕ → A → B → Type 0) (n : ℕ) (xs : List A) (ys zs : List B) → ((k : ℕ) (x : A) (y z : B) → R k x y → R k x z → y ≡ z) → EachPair R n xs ys → EachPair R n xs zs → ys ≡ zs
one_list R n xs ys zs one p q = same_list (λ k y. R k.0 k.1 y) (with_numbers n xs) ys zs (λ k y z. one k.0 k.1 y z) p q

each_at : {A : Type 0} (R : ℕ → A → Type 0) (n : ℕ) (before : List A) (x : A) (back : List A) → Each R n (before ++ x ∷ back) → R (n + length before) x
each_at R n [] x back e = subst (λ k. R k x) (from_zero n) e.0
  where
    from_zero : (k : ℕ) → k ≡ k + 0
    from_zero k = omega arith
each_at R n (y ∷ before) x back e = subst (λ k. R k x) (moved n (length before)) (each_at R (1 + n) before x back e.1)
  where
    moved : (k l : ℕ) → (1 + k) + l ≡ k + suc l
    moved k l = omega arith

-- if each item is right, none is found
pub none_first : {A : Type 0} {R P F : ℕ → A → Type 0} (xs : List A) (i : ℕ) → ((k : ℕ) (x : A) → R k x → F k x → ⊥) → Each R 0 xs → IsFirst P F xs i → ⊥
none_first {R = R} {F = F} xs i apart e first =
    apart i first.item (subst (λ k. R k first.item) (omega (arith, first.number_is)) (each_at R 0 first.before first.item first.behind (subst (Each R 0) first.parts e))) first.found

record Same {A : Type 0} (x y : A) (many other : ℕ) : Type 0 where
  items : x ≡ y
  many_is : many ≡ other

once_from : {A : Type 0} {R P F G : ℕ → A → Type 0} (n : ℕ) (front other : List A) (x y : A) (back behind : List A)
    → ((k : ℕ) (a : A) → R k a → G k a → ⊥) → ((k : ℕ) (a : A) → P k a → F k a → ⊥)
    → front ++ x ∷ back ≡ other ++ y ∷ behind → Each R n front → Each P n other → F (n + length front) x → G (n + length other) y → Same x y (length front) (length other)
once_from n [] [] x y back behind g f e p q h i = record { items = head_is e; many_is = refl }
once_from {P = P} {F = F} n [] (w ∷ other) x y back behind g f e p q h i = absurd (f n w q.0 (subst (F n) (head_is e) (subst (λ k. F k x) (to_zero n) h)))
  where
    to_zero : (k : ℕ) → k + 0 ≡ k
    to_zero k = omega arith
once_from {R = R} {G = G} n (v ∷ front) [] x y back behind g f e p q h i = absurd (g n v p.0 (subst (G n) (sym (head_is e)) (subst (λ k. G k y) (to_zero n) i)))
  where
    to_zero : (k : ℕ) → k + 0 ≡ k
    to_zero k = omega arith
once_from {F = F} {G = G} n (v ∷ front) (w ∷ other) x y back behind g f e p q h i =
    let s = once_from (1 + n) front other x y back behind g f (tail_is e) p.1 q.1 (subst (λ k. F k x) (moved n (length front)) h) (subst (λ k. G k y) (moved n (length other)) i) in
    record { items = s.items; many_is = ap suc s.many_is }
  where
    moved : (k l : ℕ) → k + suc l ≡ (1 + k) + l
    moved k l = omega arith

-- the one first item, found in two ways
pub record Once {A : Type 0} (F G : ℕ → A → Type 0) (i j : ℕ) : Type 0 where
  pub number : i ≡ j
  pub item : A
  pub one : F i item
  pub other : G i item

pub once : {A : Type 0} {R P F G : ℕ → A → Type 0} (xs : List A) (i j : ℕ) → ((k : ℕ) (a : A) → R k a → G k a → ⊥) → ((k : ℕ) (a : A) → P k a → F k a → ⊥) → IsFirst R F xs i → IsFirst P G xs j → Once F G i j
once {F = F} {G = G} xs i j g f one other =
    let s = once_from 0 one.before other.before one.item other.item one.behind other.behind g f (sym one.parts ∙ other.parts) one.right other.right
    (subst (λ k. F k one.item) (omega (arith, one.number_is)) one.found) (subst (λ k. G k other.item) (omega (arith, other.number_is)) other.found) in
    let n = one.number_is ∙ s.many_is ∙ sym other.number_is in
    record { number = n; item = one.item; one = one.found; other = subst (λ a. G i a) (sym s.items) (subst (λ k. G k other.item) (sym n) other.found) }
