-- Loops over lists, one item after another.
use Rattle.std.proofs.Common.{◌≡◌, ℕ, zero, suc, ◌+◌, ◌<◌, List, [], ◌∷◌, ◌++◌, length, get_or, take, drop, refl, sym, ap, ◌∙◌, arith, append_assoc}
use Rattle.std.proofs.Math.Seq.{take-suc}
use Rattle.std.proofs.lemmas.List.{flat_map_more}
use Rattle.std.proofs.lemmas.List.Concat.{flat_map-cons}
use Rattle.std.proofs.lemmas.Grind.{flat_map-append}
use Rattle.std.specs.List.{flat_map}

-- the results for the first items, and then for one more
pub flat_next : {X A : Type 0} (g : X → List A) (xs : List X) (i : ℕ) (x : X) → i < length xs → x ≡ get_or xs i x → flat_map g (take i xs) ++ g x ≡ flat_map g (take (i + 1) xs)
flat_next g xs i x h e =
    let f : take (suc i) xs ≡ take i xs ++ x ∷ [] = take-suc xs i x h ∙ ap (λ y. take i xs ++ y ∷ []) (sym e) in
    let k : i + 1 ≡ suc i = omega arith in
    flat_map_more g [] (take i xs) x ∙ ap (flat_map g) (sym f) ∙ ap (λ n. flat_map g (take n xs)) (sym k)

split : {X : Type 0} (xs : List X) (i : ℕ) (d : X) → i < length xs → xs ≡ take i xs ++ (get_or xs i d ∷ drop (suc i) xs)
split [] i d h = absurd (omega (arith, h))
split (x ∷ xs) zero d h = refl
split (x ∷ xs) (suc i) d h = ap (λ ys. x ∷ ys) (split xs i d (omega (arith, h)))

-- the results for all items
pub flat_split : {X A : Type 0} (g : X → List A) (xs : List X) (i : ℕ) (x : X) → i < length xs → x ≡ get_or xs i x → flat_map g xs ≡ (flat_map g (take i xs) ++ g x) ++ flat_map g (drop (suc i) xs)
flat_split g xs i x h e =
    let f : xs ≡ take i xs ++ (x ∷ drop (suc i) xs) = split xs i x h ∙ ap (λ y. take i xs ++ (y ∷ drop (suc i) xs)) (sym e) in
    ap (flat_map g) f ∙ flat_map-append g (take i xs) (x ∷ drop (suc i) xs) ∙ ap (λ ys. flat_map g (take i xs) ++ ys) (flat_map-cons g x (drop (suc i) xs)) ∙ sym (append_assoc (flat_map g (take i xs)) (g x) (flat_map g (drop (suc i) xs)))
