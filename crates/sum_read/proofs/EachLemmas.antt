-- A traversal of a list, in which each item must give a result.
use Rattle.std.proofs.Common.{◌≡◌, ℕ, zero, suc, ◌+◌, ◌<◌, ◌≤◌, List, [], ◌∷◌, ◌++◌, Option, Some, None, length, take, get_or, refl, sym, ap, subst, ◌∙◌, arith}
use Rattle.std.specs.Prelude.{Result, Ok, Err, IsErrAnd, MatchResult, option_and_then}
use Rattle.std.specs.Option.{option_map}
use Rattle.std.proofs.lemmas.List.{take_more}
use Rattle.sum_read.specs.declared.fault.FormFault.{FormFault}
use Rattle.sum_read.specs.declared.fault.FormFault.TheVariants.{NotBuilt, NoMemory}
use Rattle.sum_read.specs.FormFault.{IfNotBuilt}
use Rattle.sum_read.specs.Each.{each}

-- one more item with a result
each_append : {A B : Type 0} (f : A → Option B) (xs : List A) (x : A) (ys : List B) (y : B) → each f xs ≡ Some ys → f x ≡ Some y → each f (xs ++ x ∷ []) ≡ Some (ys ++ y ∷ [])
each_append f [] x [] y e g = ap (λ o. option_and_then (λ one. Some (one ∷ [])) o) g
each_append f [] x (z ∷ ys) y e g = absurd (cc)
each_append {B = B} f (v ∷ xs) x ys y e g = go (f v) (each f xs) refl refl ys e (λ zs b. each_append f xs x zs y b g)
  where
    inside : (l m : List B) → ◌≡◌ {A = Option (List B)} (Some l) (Some m) → l ≡ m
    inside l m e = cc

    go : (o : Option B) (p : Option (List B)) → f v ≡ o → each f xs ≡ p → (ys : List B) → option_and_then (λ one. option_map (λ more. one ∷ more) p) o ≡ Some ys
        → ((zs : List B) → each f xs ≡ Some zs → each f (xs ++ x ∷ []) ≡ Some (zs ++ y ∷ []))
        → option_and_then (λ one. option_map (λ more. one ∷ more) (each f (xs ++ x ∷ []))) (f v) ≡ Some (ys ++ y ∷ [])
    go None p a b ys e rest = absurd (cc)
    go (Some z) None a b ys e rest = absurd (cc)
    go (Some z) (Some zs) a b ys e rest =
        ap (λ o. option_and_then (λ one. option_map (λ more. one ∷ more) (each f (xs ++ x ∷ []))) o) a
        ∙ ap (λ p. option_map (λ more. z ∷ more) p) (rest zs b)
        ∙ ap (λ list. Some (list ++ y ∷ [])) (inside (z ∷ zs) ys e)

pub each_more : {A B : Type 0} (f : A → Option B) (xs : List A) (i : ℕ) (d : A) (ys : List B) (y : B) → i < length xs → each f (take i xs) ≡ Some ys → f (get_or xs i d) ≡ Some y → each f (take (i + 1) xs) ≡ Some (ys ++ y ∷ [])
each_more f xs i d ys y h e g = ap (each f) (take_more xs i d h) ∙ each_append f (take i xs) (get_or xs i d) ys y e g

-- an item without a result
pub each_none : {A B : Type 0} (f : A → Option B) (xs : List A) (i : ℕ) (d : A) → i < length xs → f (get_or xs i d) ≡ None → each f xs ≡ None
each_none f [] i d h e = absurd (omega arith)
each_none f (x ∷ xs) zero d h e = ap (λ o. option_and_then (λ one. option_map (λ more. one ∷ more) (each f xs)) o) e
each_none {B = B} f (x ∷ xs) (suc i) d h e = ap (λ p. option_and_then (λ one. option_map (λ more. one ∷ more) p) (f x)) (each_none f xs i d (omega (arith, h)) e) ∙ go (f x)
  where
    go : (o : Option B) → option_and_then (λ one. option_map {U = List B} (λ more. one ∷ more) None) o ≡ None
    go None = refl
    go (Some y) = refl

-- the end of the traversal
pub each_over : {A B : Type 0} (f : A → Option B) (xs : List A) (i : ℕ) (ys : List B) → length xs ≤ i → each f (take i xs) ≡ Some ys → each f xs ≡ Some ys
each_over {A = A} f xs i ys h e = ap (each f) (sym (all xs i h)) ∙ e
  where
    all : (xs : List A) (i : ℕ) → length xs ≤ i → take i xs ≡ xs
    all [] zero h = refl
    all [] (suc i) h = refl
    all (x ∷ xs) zero h = absurd (omega (arith, h))
    all (x ∷ xs) (suc i) h = ap (λ ys. x ∷ ys) (all xs i (omega (arith, h)))

-- ---- faults

weaker : (fault : FormFault) (P Q : Type 0) → (P → Q) → IfNotBuilt fault P → IfNotBuilt fault Q
weaker NotBuilt P Q f h = f h
weaker NoMemory P Q f h = tt

pub hands_on : {X : Type 0} (r : Result X FormFault) (fault : FormFault) (P : X → Type 0) (Q R : Type 0) → IsErrAnd r (λ f. f ≡ fault) → (Q → R) → IfNotBuilt fault Q → MatchResult r P (λ f. IfNotBuilt f R)
hands_on (Ok x) fault P Q R e g h = absurd e
hands_on (Err f) fault P Q R e g h = subst (λ other. IfNotBuilt other R) (sym e) (weaker fault Q R g h)
