-- Laws of lists that are related item by item: an item without a partner excludes all lists, and unique partners give
-- one list.
use Rattle.std.proofs.Common.{◌≡◌, ℕ, zero, suc, ◌+◌, ◌<◌, List, [], ◌∷◌, ◌++◌, length, map, take, get_or, refl, sym, ap, subst, ◌∙◌, arith, append_assoc, append-nil}
use Rattle.std.specs.List.{AllByRecursion}
use Rattle.std.proofs.lemmas.List.{take_more}
use Rattle.base.specs.Pairs.{Paired}

pub paired_append : {A B : Type 0} (R : A → B → Type 0) (xs : List A) (ys : List B) (x : A) (y : B) → Paired R xs ys → R x y → Paired R (xs ++ x ∷ []) (ys ++ y ∷ [])
paired_append R [] [] x y p r = (r, tt)
paired_append R [] (w ∷ ys) x y p r = absurd p
paired_append R (v ∷ xs) [] x y p r = absurd p
paired_append R (v ∷ xs) (w ∷ ys) x y p r = (p.0, paired_append R xs ys x y p.1 r)

-- an item without a partner, with others before and after it
pub no_pair : {A B : Type 0} (R : A → B → Type 0) (front : List A) (x : A) (back : List A) (ys : List B) → ((y : B) → R x y → ⊥) → Paired R (front ++ x ∷ back) ys → ⊥
no_pair R [] x back [] none p = p
no_pair R [] x back (y ∷ ys) none p = none y p.0
no_pair R (a ∷ front) x back [] none p = p
no_pair R (a ∷ front) x back (y ∷ ys) none p = no_pair R front x back ys none p.1

pub one_list : {A B : Type 0} (R : A → B → Type 0) (xs : List A) (ys zs : List B) → ((x : A) (y z : B) → R x y → R x z → y ≡ z) → Paired R xs ys → Paired R xs zs → ys ≡ zs
one_list R [] [] [] one p q = refl
one_list R [] [] (z ∷ zs) one p q = absurd q
one_list R [] (y ∷ ys) zs one p q = absurd p
one_list R (x ∷ xs) [] zs one p q = absurd p
one_list R (x ∷ xs) (y ∷ ys) [] one p q = absurd q
one_list R (x ∷ xs) (y ∷ ys) (z ∷ zs) one p q = ap (λ w. w ∷ ys) (one x y z p.0 q.0) ∙ ap (λ ws. z ∷ ws) (one_list R xs ys zs one p.1 q.1)

pub all_append : {A : Type 0} (P : A → Type 0) (xs : List A) (x : A) → AllByRecursion P xs → P x → AllByRecursion P (xs ++ x ∷ [])
all_append P [] x a p = (p, tt)
all_append P (y ∷ ys) x a p = (a.0, all_append P ys x a.1 p)

pub all_at : {A : Type 0} (P : A → Type 0) (front : List A) (x : A) (back : List A) → AllByRecursion P (front ++ x ∷ back) → P x
all_at P [] x back a = a.0
all_at P (y ∷ front) x back a = all_at P front x back a.1

-- an item of a list of which each item has a property
pub all_seen : {A B : Type 0} (f : A → B) (P : B → Type 0) (xs : List A) (i : ℕ) (d : A) → i < length xs → AllByRecursion P (map f xs) → P (f (get_or xs i d))
all_seen f P [] i d h a = absurd (omega arith)
all_seen f P (x ∷ xs) zero d h a = a.0
all_seen f P (x ∷ xs) (suc i) d h a = all_seen f P xs i d (omega (arith, h)) a.1

-- ---- reading in order

-- the results so far are related to the items before the rest
pub record Reading {A B : Type 0} (R : A → B → Type 0) (all rest : List A) (found : List B) : Type 0 where
  pub front : List A
  pub parts : all ≡ front ++ rest
  pub paired : Paired R front found

pub reading_start : {A B : Type 0} (R : A → B → Type 0) (all : List A) → Reading R all all []
reading_start R all = record { front = []; parts = refl; paired = tt }

pub reading_more : {A B : Type 0} {R : A → B → Type 0} {all rest : List A} {found more : List B} (x : A) (back : List A) (y : B) → Reading R all rest found → rest ≡ x ∷ back → R x y → more ≡ found ++ y ∷ [] → Reading R all back more
reading_more {R = R} {more = more} x back y r e p q = record {
  front = r.front ++ x ∷ [];
  parts = r.parts ∙ ap (λ rest. r.front ++ rest) e ∙ sym (append_assoc r.front (x ∷ []) back);
  paired = subst (Paired R (r.front ++ x ∷ [])) (sym q) (paired_append R r.front _ x y r.paired p);
}

pub reading_stop : {A B : Type 0} {R : A → B → Type 0} {all rest : List A} {found : List B} (x : A) (back : List A) → Reading R all rest found → rest ≡ x ∷ back → ((y : B) → R x y → ⊥) → (ys : List B) → Paired R all ys → ⊥
reading_stop {R = R} x back r e none ys p = no_pair R r.front x back ys none (subst (λ all. Paired R all ys) (r.parts ∙ ap (λ rest. r.front ++ rest) e) p)

pub reading_end : {A B : Type 0} {R : A → B → Type 0} {all rest : List A} {found : List B} → Reading R all rest found → rest ≡ [] → Paired R all found
reading_end {R = R} {found = found} r e = subst (λ all. Paired R all found) (sym (r.parts ∙ ap (λ rest. r.front ++ rest) e ∙ append-nil r.front)) r.paired

-- ---- a loop over a list by index

mapped : {A B C : Type 0} (R : C → B → Type 0) (f : A → C) (xs : List A) (ys : List B) (x : A) (y : B) → Paired R (map f xs) ys → R (f x) y → Paired R (map f (xs ++ x ∷ [])) (ys ++ y ∷ [])
mapped R f [] [] x y p r = (r, tt)
mapped R f [] (w ∷ ys) x y p r = absurd p
mapped R f (v ∷ xs) [] x y p r = absurd p
mapped R f (v ∷ xs) (w ∷ ys) x y p r = (p.0, mapped R f xs ys x y p.1 r)

-- one more item
pub paired_next : {A B C : Type 0} (R : C → B → Type 0) (f : A → C) (xs : List A) (i : ℕ) (d : A) (ys more : List B) (y : B) → i < length xs → Paired R (map f (take i xs)) ys → R (f (get_or xs i d)) y → more ≡ ys ++ y ∷ [] → Paired R (map f (take (i + 1) xs)) more
paired_next R f xs i d ys more y h p r e =
    subst (Paired R (map f (take (i + 1) xs))) (sym e) (subst (λ zs. Paired R (map f zs) (ys ++ y ∷ [])) (sym (take_more xs i d h)) (mapped R f (take i xs) ys (get_or xs i d) y p r))

-- an item without a partner
pub no_pair_at : {A B C : Type 0} (R : C → B → Type 0) (f : A → C) (xs : List A) (i : ℕ) (d : A) (ys : List B) → i < length xs → ((y : B) → R (f (get_or xs i d)) y → ⊥) → Paired R (map f xs) ys → ⊥
no_pair_at R f [] i d ys h none p = absurd (omega (arith, h))
no_pair_at R f (x ∷ xs) i d [] h none p = p
no_pair_at R f (x ∷ xs) zero d (y ∷ ys) h none p = none y p.0
no_pair_at R f (x ∷ xs) (suc i) d (y ∷ ys) h none p = no_pair_at R f xs i d ys (omega (arith, h)) none p.1
