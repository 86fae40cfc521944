-- The lines of a report are extended record by record.
use Rattle.std.proofs.Common.{◌≡◌, ℕ, ◌+◌, ◌<◌, List, [], ◌∷◌, ◌++◌, length, get_or, take, sym, ap, ◌∙◌, append_assoc}
use Rattle.std.specs.List.{flat_map}
use Rattle.std.proofs.lemmas.Grind.{flat_map-append}
use Rattle.std.proofs.lemmas.List.{append-nil, take_more}

-- the lines of one more record come after those of the records before
pub more_lines : {A B : Type 0} (f : A → List B) (xs : List A) (i : ℕ) (x : A) (start lines new : List B) → i < length xs → x ≡ get_or xs i x → lines ≡ start ++ flat_map f (take i xs) → new ≡ lines ++ f x → new ≡ start ++ flat_map f (take (i + 1) xs)
more_lines f xs i x start lines new within e before added =
    let items : take (i + 1) xs ≡ take i xs ++ x ∷ [] = take_more xs i x within ∙ ap (λ y. take i xs ++ y ∷ []) (sym e) in
    let one : flat_map f (take (i + 1) xs) ≡ flat_map f (take i xs) ++ f x =
    ap (flat_map f) items ∙ flat_map-append f (take i xs) (x ∷ []) ∙ ap (λ ys. flat_map f (take i xs) ++ ys) (append-nil (f x)) in
    added ∙ ap (λ ls. ls ++ f x) before ∙ append_assoc start (flat_map f (take i xs)) (f x) ∙ ap (λ ys. start ++ ys) (sym one)
