-- The first result for an item of a list, found in order.
use Rattle.std.proofs.Common.{◌≡◌, ℕ, zero, suc, ◌+◌, ◌<◌, ◌≤◌, List, [], ◌∷◌, ◌++◌, length, take, get_or, Option, Some, None, refl, sym, ap, ◌∙◌, arith}
use Rattle.std.specs.Option.{option_or}
use Rattle.std.proofs.lemmas.List.{take_more}
use Rattle.front_end.specs.LocalCounts.{first_of}
use Rattle.front_end.proofs.NumberedLemmas.{taken_all}

or_assoc : (a b c : Option ℕ) → option_or a (option_or b c) ≡ option_or (option_or a b) c
or_assoc None b c = refl
or_assoc (Some x) b c = refl

first_append : {A : Type 0} (f : A → Option ℕ) (xs ys : List A) → first_of f (xs ++ ys) ≡ option_or (first_of f xs) (first_of f ys)
first_append f [] ys = refl
first_append f (x ∷ xs) ys = ap (option_or (f x)) (first_append f xs ys) ∙ or_assoc (f x) (first_of f xs) (first_of f ys)

pub none_more : {A : Type 0} (f : A → Option ℕ) (xs : List A) (i : ℕ) (d : A) → i < length xs → first_of f (take i xs) ≡ None → f (get_or xs i d) ≡ None → first_of f (take (i + 1) xs) ≡ None
none_more f xs i d h e n =
    ap (first_of f) (take_more xs i d h) ∙ first_append f (take i xs) (get_or xs i d ∷ [])
    ∙ ap (λ o. option_or o (option_or (f (get_or xs i d)) None)) e ∙ ap (λ o. option_or o None) n

some_is_none : {a : ℕ} → Some a ≡ None → ⊥
some_is_none e = absurd (cc)

pub some_at : {A : Type 0} (f : A → Option ℕ) (xs : List A) (i : ℕ) (d : A) (count : ℕ) → i < length xs → first_of f (take i xs) ≡ None → f (get_or xs i d) ≡ Some count → first_of f xs ≡ Some count
some_at f [] i d count h e s = absurd (omega arith)
some_at f (x ∷ xs) zero d count h e s = ap (λ o. option_or o (first_of f xs)) s
some_at f (x ∷ xs) (suc i) d count h e s = go (f x) refl (λ n. some_at f xs i d count (omega (arith, h)) n s)
  where
    go : (o : Option ℕ) → f x ≡ o → (first_of f (take i xs) ≡ None → first_of f xs ≡ Some count) → option_or (f x) (first_of f xs) ≡ Some count
    go None n more = ap (λ o. option_or o (first_of f xs)) n ∙ more (ap (λ o. option_or o (first_of f (take i xs))) (sym n) ∙ e)
    go (Some c) n more = absurd (some_is_none (ap (λ o. option_or o (first_of f (take i xs))) (sym n) ∙ e))

pub none_over : {A : Type 0} (f : A → Option ℕ) (xs : List A) (i : ℕ) → length xs ≤ i → first_of f (take i xs) ≡ None → first_of f xs ≡ None
none_over f xs i h e = ap (first_of f) (sym (taken_all xs i h)) ∙ e

pub none_is : (o : Option ℕ) → ((count : ℕ) → o ≡ Some count → ⊥) → o ≡ None
none_is None n = refl
none_is (Some count) n = absurd (n count refl)
