-- Lists whose items are paired by their numbers.
use Rattle.std.proofs.Common.{◌≡◌, ℕ, zero, suc, ◌+◌, ◌≤◌, List, [], ◌∷◌, ◌++◌, length, take, Some, refl, sym, ap, subst, arith}
use Rattle.std.specs.Prelude.{slice_get}
use Rattle.std.proofs.lemmas.List.{take_all}
use Rattle.std.proofs.lemmas.Option.{slice_get_within}
use Rattle.base.specs.Pairs.{Paired}
use Rattle.base.proofs.PairLaws.{paired_append}
use Rattle.type_check.proofs.SchemasLists.{some_inside, take_next}

pub get_front : {A : Type 0} (front : List A) (x : A) (back : List A) → slice_get (front ++ x ∷ back) (length front) ≡ Some x
get_front [] x back = refl
get_front (y ∷ front) x back = get_front front x back

-- one more item, by its number
pub paired_entry : {A B : Type 0} (R : A → B → Type 0) (xs : List A) (n : ℕ) (x : A) (ys more : List B) (y : B) → Paired R (take n xs) ys → slice_get xs n ≡ Some x → R x y → more ≡ ys ++ y ∷ []
    → Paired R (take (n + 1) xs) more
paired_entry R xs n x ys more y p at r e =
    subst (λ (zs : List _). Paired R zs more) (sym (take_next xs n x at)) (subst (λ (zs : List _). Paired R (take n xs ++ x ∷ []) zs) (sym e) (paired_append R (take n xs) ys x y p r))

-- all items
pub paired_taken : {A B : Type 0} (R : A → B → Type 0) (xs : List A) (n : ℕ) (ys : List B) → length xs ≤ n → Paired R (take n xs) ys → Paired R xs ys
paired_taken R xs n ys le p = subst (λ (zs : List _). Paired R zs ys) (take_all n xs le) p

pub paired_none : {A B : Type 0} (R : A → B → Type 0) (xs : List A) (ys : List B) → ys ≡ [] → Paired R (take 0 xs) ys
paired_none R xs ys e = subst (λ (zs : List _). Paired R (take 0 xs) zs) (sym e) tt

pub paired_size : {A B : Type 0} (R : A → B → Type 0) (xs : List A) (ys : List B) → Paired R xs ys → length ys ≡ length xs
paired_size R [] [] p = refl
paired_size R [] (y ∷ ys) p = absurd p
paired_size R (x ∷ xs) [] p = absurd p
paired_size R (x ∷ xs) (y ∷ ys) p = ap suc (paired_size R xs ys p.1)

pub paired_at : {A B : Type 0} (R : A → B → Type 0) (xs : List A) (ys : List B) (k : ℕ) (x : A) (y : B) → Paired R xs ys → slice_get xs k ≡ Some x → slice_get ys k ≡ Some y → R x y
paired_at R [] [] k x y p e f = absurd (let within = slice_get_within [] k x e in omega (arith, within))
paired_at R [] (w ∷ ys) k x y p e f = absurd p
paired_at R (v ∷ xs) [] k x y p e f = absurd p
paired_at R (v ∷ xs) (w ∷ ys) zero x y p e f = subst (λ (b : _). R x b) (some_inside w y f) (subst (λ (a : _). R a w) (some_inside v x e) p.0)
paired_at R (v ∷ xs) (w ∷ ys) (suc k) x y p e f = paired_at R xs ys k x y p.1 e f

pub nothing_left : {A : Type 0} (xs : List A) → length xs ≡ 0 → xs ≡ []
nothing_left [] e = refl
nothing_left (x ∷ xs) e = absurd (omega (arith, e))
