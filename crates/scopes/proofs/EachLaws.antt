-- The meaning of each item of a list, one after another.
use Rattle.std.proofs.Common.{◌≡◌, ℕ, zero, suc, ◌<◌, List, [], ◌∷◌, ◌++◌, length, get_or, take, Some, None, Option, refl, arith, ap, ◌∙◌, sym}
use Rattle.std.specs.Prelude.{option_and_then}
use Rattle.std.specs.Option.{option_map}
use Rattle.scopes.specs.Meanings.{each}

abbrev pub joined : {B : Type 0} → Option B → Option (List B) → Option (List B)
joined one more = option_and_then (λ x. option_map (λ xs. x ∷ xs) more) one

record Both {B : Type 0} (first : Option B) (others : Option (List B)) (done : List B) : Type 0 where
  one : B
  more : List B
  one_is : first ≡ Some one
  more_is : others ≡ Some more
  done_is : done ≡ one ∷ more

both : {B : Type 0} (one : Option B) (more : Option (List B)) (done : List B) → joined one more ≡ Some done → Both one more done
both None more done e = absurd (cc)
both (Some x) None done e = absurd (cc)
both (Some x) (Some xs) done e = record { one = x; more = xs; one_is = refl; more_is = refl; done_is = cc }

-- one more item, after those that have a meaning
pub each_next : {A B : Type 0} (f : A → Option B) (xs : List A) (i : ℕ) (d : A) (done : List B) (y : B) → i < length xs → each f (take i xs) ≡ Some done → f (get_or xs i d) ≡ Some y → each f (take (suc i) xs) ≡ Some (done ++ y ∷ [])
each_next f [] i d done y h e one = absurd (omega (arith, h))
each_next f (x ∷ xs) zero d done y h e one = let nil : done ≡ [] = cc in ap (λ o. joined o (Some [])) one ∙ ap (λ ys. Some (ys ++ y ∷ [])) (sym nil)
each_next f (x ∷ xs) (suc i) d done y h e one =
    let parts = both (f x) (each f (take i xs)) done e in
    let more = each_next f xs i d parts.more y (omega (arith, h)) parts.more_is one in
    ap (λ o. joined o (each f (take (suc i) xs))) parts.one_is ∙ ap (λ o. joined (Some parts.one) o) more ∙ ap (λ ys. Some (ys ++ y ∷ [])) (sym parts.done_is)

none_behind : {B : Type 0} (o : Option B) → joined o None ≡ None
none_behind None = refl
none_behind (Some x) = refl

-- an item without a meaning
pub each_none : {A B : Type 0} (f : A → Option B) (xs : List A) (i : ℕ) (d : A) → i < length xs → f (get_or xs i d) ≡ None → each f xs ≡ None
each_none f [] i d h e = absurd (omega (arith, h))
each_none f (x ∷ xs) zero d h e = ap (λ o. joined o (each f xs)) e
each_none f (x ∷ xs) (suc i) d h e = ap (λ o. joined (f x) o) (each_none f xs i d (omega (arith, h)) e) ∙ none_behind (f x)
