-- The first entries of a branch.
use Rattle.std.proofs.Common.{◌≡◌, ℕ, ◌≤◌, List, length, map, take, sym, ap, ◌∙◌, arith, length-take}
use Rattle.std.proofs.lemmas.List.{take-map, take-take, length-map}

pub cut : {A B : Type 0} (f : A → B) (xs : List A) (m n : ℕ) → m ≤ length (map f (take n xs)) → map f (take m xs) ≡ take m (map f (take n xs))
cut f xs m n h =
    let short : m ≤ n = omega (arith, h, length-map (take n xs) f, length-take n xs) in
    ap (map f) (sym (take-take m n xs short)) ∙ sym (take-map f m (take n xs))
