-- The entries of a table, read in order.
use Rattle.std.proofs.Common.{◌≡◌, ℕ, suc, ◌+◌, ◌<◌, List, [], ◌∷◌, ◌++◌, length, take, map, Some, None, refl, sym, ◌∙◌, ap, arith, add-one}
use Rattle.std.specs.Prelude.{Result, Ok, Err, IfOk, slice_get}
use Rattle.std.proofs.Math.Seq.{take-suc}
use Rattle.std.proofs.lemmas.List.{map-append}
use Rattle.std.proofs.lemmas.Option.{slice_get_within, get_or_from_slice_get, slice_get-get_or}

-- one more entry
pub one_more : {E B : Type 0} (f : E → B) (entries : List E) (n : ℕ) (e : E) (made more : List B) → slice_get entries n ≡ Some e
    → made ≡ map f (take n entries) → more ≡ made ++ f e ∷ [] → more ≡ map f (take (n + 1) entries)
one_more f entries n e made more h i m =
    let within = slice_get_within entries n e h in
    let read = get_or_from_slice_get entries n e e h in
    m ∙ ap (λ front. front ++ f e ∷ []) i
    ∙ sym (ap (λ k. map f (take k entries)) (add-one n)
    ∙ ap (λ xs. map f xs) (take-suc entries n e within)
    ∙ map-append f (take n entries) (_ ∷ [])
    ∙ ap (λ x. map f (take n entries) ++ f x ∷ []) read)

-- each index below the length has an item
pub nothing_there : {A : Type 0} (xs : List A) (n : ℕ) → n < length xs → None ≡ slice_get xs n → ⊥
nothing_there [] n b h = omega arith
nothing_there (x ∷ xs) n b h = let e = slice_get-get_or (x ∷ xs) n x b in cc

length_map : {E B : Type 0} (f : E → B) (xs : List E) → length (map f xs) ≡ length xs
length_map f [] = refl
length_map f (x ∷ xs) = ap suc (length_map f xs)

-- the result has as many items as the table has entries
pub counted : {V E B F : Type 0} (r : Result V F) (items : V → List B) (f : E → B) (xs : List E) → IfOk r (λ v. items v ≡ map f xs) → IfOk r (λ v. length (items v) ≡ length xs)
counted (Ok v) items f xs h = ap length h ∙ length_map f xs
counted (Err e) items f xs h = tt
