-- The results for the items of a list, if each has one.
use Rattle.std.specs.Prelude.{List, [], ◌∷◌, Option, Some, option_and_then}
use Rattle.std.specs.Option.{option_map}

abbrev pub each : {A B : Type 0} → (A → Option B) → List A → Option (List B)
each f [] = Some []
each f (x ∷ xs) = option_and_then (λ one. option_map (λ more. one ∷ more) (each f xs)) (f x)
