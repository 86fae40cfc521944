-- Runs of bytes that pass a test, up to a byte that does not.
use Rattle.std.proofs.Common.{◌≡◌, ℕ, ◌+◌, ◌≤◌, Bool, true, false, cond, ◌⊎◌, List, [], ◌∷◌, ◌++◌, length, take, drop, get_or, refl, sym, ap, ◌∙◌, inl, inr, arith, suc, Some, None}
use Rattle.std.specs.List.{prefix_len, list_all}
use Rattle.std.proofs.lemmas.List.{take_at}
use Rattle.std.proofs.lemmas.Bool.{and_parts, and_from, cases_Bool}

-- the text ends, or goes on with a byte that does not pass
abbrev pub Stops : (ℕ → Bool) → List ℕ → Type 0
Stops p [] = Unit {0}
Stops p (b ∷ rest) = p b ≡ false

-- a run of passing bytes that nothing continues is the whole run
pub run_is : (p : ℕ → Bool) (xs ys : List ℕ) → list_all p xs ≡ true → Stops p ys → prefix_len p (xs ++ ys) ≡ length xs
run_is p [] [] all stops = refl
run_is p [] (y ∷ ys) all stops = rw stops refl
run_is p (x ∷ xs) ys all stops =
    let parts = and_parts (p x) (list_all p xs) all in
    let more : prefix_len p (xs ++ ys) ≡ length xs = run_is p xs ys parts.1 stops in
    rw parts.0 (omega (arith, more))

-- a run of passing bytes is a part of the whole run
pub run_reaches : (p : ℕ → Bool) (xs ys : List ℕ) → list_all p xs ≡ true → length xs ≤ prefix_len p (xs ++ ys)
run_reaches p [] ys all = omega arith
run_reaches p (x ∷ xs) ys all =
    let parts = and_parts (p x) (list_all p xs) all in
    let more : length xs ≤ prefix_len p (xs ++ ys) = run_reaches p xs ys parts.1 in
    rw parts.0 (omega (arith, more))

one_add : (n : ℕ) → 1 + n ≡ suc n
one_add n = omega arith

-- the run passes, and the byte after it does not
pub run_passes : (p : ℕ → Bool) (xs : List ℕ) → list_all p (take (prefix_len p xs) xs) ≡ true
run_passes p [] = refl
run_passes p (x ∷ xs) =
    elim (cases_Bool (p x)) [
      | inl e ↦ rw (e, one_add, e) (run_passes p xs)
      | inr e ↦ rw e refl
    ]

pub run_stops : (p : ℕ → Bool) (xs : List ℕ) → Stops p (drop (prefix_len p xs) xs)
run_stops p [] = tt
run_stops p (x ∷ xs) =
    elim (cases_Bool (p x)) [
      | inl e ↦ rw (e, one_add) (run_stops p xs)
      | inr e ↦ rw e e
    ]

-- a text of passing bytes passes, and so do its parts
pub all_joined : (p : ℕ → Bool) (xs ys : List ℕ) → list_all p xs ≡ true → list_all p ys ≡ true → list_all p (xs ++ ys) ≡ true
all_joined p [] ys all more = more
all_joined p (x ∷ xs) ys all more =
    let parts = and_parts (p x) (list_all p xs) all in
    and_from (p x) (list_all p (xs ++ ys)) parts.0 (all_joined p xs ys parts.1 more)

-- what passes a test passes each weaker one
pub all_weaker : (p q : ℕ → Bool) → ((b : ℕ) → p b ≡ true → q b ≡ true) → (xs : List ℕ) → list_all p xs ≡ true → list_all q xs ≡ true
all_weaker p q weaker [] all = refl
all_weaker p q weaker (x ∷ xs) all =
    let parts = and_parts (p x) (list_all p xs) all in
    and_from (q x) (list_all q xs) (weaker x parts.0) (all_weaker p q weaker xs parts.1)

-- two fronts of one text with the same length are equal
pub same_front : (a b x y : List ℕ) → a ++ x ≡ b ++ y → length a ≡ length b → a ≡ b
same_front a b x y joined long =
    let left : take (length a) (a ++ x) ≡ a = take_at a x (length a) refl in
    let right : take (length a) (b ++ y) ≡ b = take_at b y (length a) (sym long) in
    sym left ∙ ap (take (length a)) joined ∙ right

-- a text whose first byte is not 0 begins with it
pub front_is : (b : ℕ) (xs : List ℕ) → get_or xs 0 0 ≡ suc b → xs ≡ suc b ∷ drop 1 xs
front_is b [] h = absurd (omega arith)
front_is b (x ∷ xs) h = ap (λ y. y ∷ xs) h

pub second_is : (b : ℕ) (xs : List ℕ) → get_or xs 1 0 ≡ suc b → drop 1 xs ≡ suc b ∷ drop 2 xs
second_is b [] h = absurd (omega arith)
second_is b (x ∷ xs) h = front_is b xs h

pub third_is : (b : ℕ) (xs : List ℕ) → get_or xs 2 0 ≡ suc b → drop 2 xs ≡ suc b ∷ drop 3 xs
third_is b [] h = absurd (omega arith)
third_is b (x ∷ xs) h = second_is b xs h

-- the branch of a choice whose value is z
pub chosen : {X : Type 0} (t : Bool) (x y z : X) → cond t x y ≡ z → ((t ≡ true) × (x ≡ z)) ⊎ ((t ≡ false) × (y ≡ z))
chosen true x y z h = inl (refl, h)
chosen false x y z h = inr (refl, h)

-- equal answers have equal parts
abbrev pub pair_of : {X Y : Type 0} → X → Y → X × Y
pair_of a b = (a, b)

pub same_parts : {X Y : Type 0} (a c : X) (b d : Y) → Some (pair_of a b) ≡ Some (pair_of c d) → (a ≡ c) × (b ≡ d)
same_parts {X} {Y} a c b d h =
    let e : pair_of a b ≡ pair_of c d = cc in
    (ap (λ (p : X × Y). p.0) e, ap (λ (p : X × Y). p.1) e)

-- `None` is not `Some`
pub none_is_some : {X : Type 0} (x : X) → None ≡ Some x → ⊥
none_is_some x h = cc
