-- The meanings of several items and of more after them.
use Rattle.std.proofs.Common.{◌≡◌, ℕ, suc, ◌+◌, ◌<◌, List, [], ◌∷◌, ◌++◌, length, get_or, take, drop, Option, Some, None, refl, sym, ap, ◌∙◌}
use Rattle.std.specs.List.{flat_map}
use Rattle.std.specs.Prelude.{option_and_then}
use Rattle.std.specs.Option.{option_map}
use Rattle.scopes.specs.Meanings.{each}
use Rattle.resolution.proofs.ListLaws.{flat_next, flat_split}

abbrev pub before_more : {B : Type 0} → Option B → Option (List B) → Option (List B)
before_more one more = option_and_then (λ x. option_map (λ xs. x ∷ xs) more) one

-- the meanings of two lists
abbrev pub of_both : {B : Type 0} → Option (List B) → Option (List B) → Option (List B)
of_both first others = option_and_then (λ xs. option_map (λ ys. xs ++ ys) others) first

regroup : {B : Type 0} (one : Option B) (more others : Option (List B)) → before_more one (of_both more others) ≡ of_both (before_more one more) others
regroup None more others = refl
regroup (Some x) None others = refl
regroup (Some x) (Some xs) None = refl
regroup (Some x) (Some xs) (Some ys) = refl

alone : {B : Type 0} (others : Option (List B)) → others ≡ of_both (Some []) others
alone None = refl
alone (Some ys) = refl

pub each_append : {A B : Type 0} (f : A → Option B) (xs ys : List A) → each f (xs ++ ys) ≡ of_both (each f xs) (each f ys)
each_append f [] ys = alone (each f ys)
each_append f (x ∷ xs) ys = ap (before_more (f x)) (each_append f xs ys) ∙ regroup (f x) (each f xs) (each f ys)

-- the meanings with one more item
pub named_next : {X A B : Type 0} (f : A → Option B) (g : X → List A) (xs : List X) (i : ℕ) (x : X) (done more new : List B) → i < length xs → x ≡ get_or xs i x → each f (flat_map g (take i xs)) ≡ Some done → each f (g x) ≡ Some more → new ≡ done ++ more → each f (flat_map g (take (i + 1) xs)) ≡ Some new
named_next f g xs i x done more new h e a b n =
    ap (each f) (sym (flat_next g xs i x h e)) ∙ each_append f (flat_map g (take i xs)) (g x) ∙ (λ j. of_both (a j) (b j)) ∙ ap Some (sym n)

none_first : {B : Type 0} (o : Option (List B)) → of_both o None ≡ None
none_first None = refl
none_first (Some xs) = refl

-- one item has no meaning
pub named_none : {X A B : Type 0} (f : A → Option B) (g : X → List A) (xs : List X) (i : ℕ) (x : X) → i < length xs → x ≡ get_or xs i x → each f (g x) ≡ None → each f (flat_map g xs) ≡ None
named_none f g xs i x h e none =
    ap (each f) (flat_split g xs i x h e)
    ∙ each_append f (flat_map g (take i xs) ++ g x) (flat_map g (drop (suc i) xs))
    ∙ ap (λ o. of_both o (each f (flat_map g (drop (suc i) xs)))) (each_append f (flat_map g (take i xs)) (g x) ∙ ap (of_both (each f (flat_map g (take i xs)))) none ∙ none_first (each f (flat_map g (take i xs))))
