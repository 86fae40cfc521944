-- Lists of named declarations, piece by piece.
use Rattle.std.proofs.Common.{◌≡◌, ℕ, ◌+◌, ◌<◌, List, [], ◌∷◌, ◌++◌, length, take, map, Some, None, refl, sym, ◌∙◌, ap, arith, add-one, append_assoc}
use Rattle.std.specs.Prelude.{slice_get}
use Rattle.std.specs.List.{flat_map}
use Rattle.std.proofs.Math.Seq.{take-suc}
use Rattle.std.proofs.lemmas.Grind.{flat_map-append}
use Rattle.std.proofs.lemmas.List.{append-nil}
use Rattle.std.proofs.lemmas.Option.{slice_get_within, get_or_from_slice_get, slice_get-get_or}
use Rattle.base.specs.TypeData.{TypeData, types_of}
use Rattle.declaration_cycles.specs.Naming.{structs_in, structs_in_all}

pub structs_all : (ts : List TypeData) → structs_in_all (types_of ts) ≡ flat_map structs_in ts
structs_all [] = refl
structs_all (t ∷ ts) = ap (λ ss. structs_in t ++ ss) (structs_all ts)

-- one more item gives one more piece
pub next_piece : {A B : Type 0} (f : A → List B) (xs : List A) (n : ℕ) (x : A) → slice_get xs n ≡ Some x
    → flat_map f (take (n + 1) xs) ≡ flat_map f (take n xs) ++ f x
next_piece f xs n x h =
    let within = slice_get_within xs n x h in
    let read = get_or_from_slice_get xs n x x h in
    ap (λ m. flat_map f (take m xs)) (add-one n)
    ∙ ap (λ ys. flat_map f ys) (take-suc xs n x within)
    ∙ flat_map-append f (take n xs) (_ ∷ [])
    ∙ ap (λ y. flat_map f (take n xs) ++ flat_map f (y ∷ [])) read
    ∙ ap (λ ys. flat_map f (take n xs) ++ ys) (append-nil (f x))

-- the initial list, the pieces so far, and one more
pub pushed : {A B : Type 0} (f : A → List B) (xs : List A) (n : ℕ) (x : A) (start now new : List B) → slice_get xs n ≡ Some x
    → now ≡ start ++ flat_map f (take n xs) → new ≡ now ++ f x → new ≡ start ++ flat_map f (take (n + 1) xs)
pushed f xs n x start now new h old more =
    more ∙ ap (λ ys. ys ++ f x) old ∙ append_assoc start (flat_map f (take n xs)) (f x) ∙ ap (λ ys. start ++ ys) (sym (next_piece f xs n x h))

-- the same for the pieces of pieces
pub pushed_within : {A B C : Type 0} (g : B → List C) (f : A → List B) (xs : List A) (n : ℕ) (x : A) (start now new : List C) → slice_get xs n ≡ Some x
    → now ≡ start ++ flat_map g (flat_map f (take n xs)) → new ≡ now ++ flat_map g (f x) → new ≡ start ++ flat_map g (flat_map f (take (n + 1) xs))
pushed_within g f xs n x start now new h old more =
    more ∙ ap (λ ys. ys ++ flat_map g (f x)) old ∙ append_assoc start (flat_map g (flat_map f (take n xs))) (flat_map g (f x))
    ∙ ap (λ ys. start ++ ys) (sym (flat_map-append g (flat_map f (take n xs)) (f x)) ∙ ap (λ ys. flat_map g ys) (sym (next_piece f xs n x h)))

-- the same for the pieces of mapped items
flat_map_mapped : {A B C : Type 0} (g : B → List C) (f : A → B) (xs : List A) → flat_map g (map f xs) ≡ flat_map (λ x. g (f x)) xs
flat_map_mapped g f [] = refl
flat_map_mapped g f (x ∷ xs) = ap (λ ys. g (f x) ++ ys) (flat_map_mapped g f xs)

pub pushed_mapped : {A B C : Type 0} (g : B → List C) (f : A → B) (xs : List A) (n : ℕ) (x : A) (start now new : List C) → slice_get xs n ≡ Some x
    → now ≡ start ++ flat_map g (map f (take n xs)) → new ≡ now ++ g (f x) → new ≡ start ++ flat_map g (map f (take (n + 1) xs))
pushed_mapped g f xs n x start now new h old more =
    pushed (λ y. g (f y)) xs n x start now new h (old ∙ ap (λ ys. start ++ ys) (flat_map_mapped g f (take n xs))) more
    ∙ ap (λ ys. start ++ ys) (sym (flat_map_mapped g f (take (n + 1) xs)))

-- if there is no item at an index, the loop has taken all items
pub nothing_there : {A : Type 0} (xs : List A) (n : ℕ) → n < length xs → None ≡ slice_get xs n → ⊥
nothing_there [] n b h = omega arith
nothing_there (x ∷ xs) n b h = let e = slice_get-get_or (x ∷ xs) n x b in cc
