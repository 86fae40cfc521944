-- Sparse lists, number by number.
use Rattle.std.proofs.Common.{◌≡◌, ℕ, zero, suc, ◌+◌, ◌-◌, ◌<◌, ◌≤◌, List, [], ◌∷◌, ◌++◌, length, replicate, get_or, pos, ℤ, ◌+ℤ◌, ◌*ℤ◌, refl, sym, ap, ◌∙◌, subst, arith, add-one, inl, inr}
use Rattle.std.proofs.lemmas.List.{append-nil, append_assoc, length-replicate, get_or-replicate, replicate-append-replicate, get_or_append_left, get_or-append-add, get_or-append_right, get_or_at}
use Rattle.std.proofs.Math.IntN.{*ℤ-zero}
use Rattle.std.proofs.lemmas.Int.{ints}
use Rattle.linear_arith.specs.Combination.{number}
use Rattle.linear_arith.specs.Packed.{spread, ahead}
use Rattle.linear_arith.specs.declared.packed.Entry.{Entry}
use Rattle.linear_arith.proofs.ListLemmas.{below_or_past, get_or-past, each-push}

abbrev zeros : ℕ → List ℤ
zeros n = replicate n (pos 0)

spread-append : (first second : List Entry) → spread (first ++ second) ≡ spread first ++ spread second
spread-append [] second = refl
spread-append (entry ∷ first) second =
    ap (λ (xs : List ℤ). zeros entry.zeros ++ entry.number ∷ xs) (spread-append first second) ∙ sym (append_assoc (zeros entry.zeros) (entry.number ∷ spread first) (spread second))

pub spread_push : (entries : List Entry) (entry : Entry) → spread (entries ++ entry ∷ []) ++ zeros 0 ≡ (spread entries ++ zeros entry.zeros) ++ entry.number ∷ []
spread_push entries entry =
    append-nil (spread (entries ++ entry ∷ [])) ∙ spread-append entries (entry ∷ []) ∙ sym (append_assoc (spread entries) (zeros entry.zeros) (entry.number ∷ []))

pub spread_zeros : (entries : List Entry) (n m : ℕ) → spread entries ++ zeros (n + m) ≡ (spread entries ++ zeros n) ++ zeros m
spread_zeros entries n m = ap (λ (xs : List ℤ). spread entries ++ xs) (sym (replicate-append-replicate n m (pos 0))) ∙ sym (append_assoc (spread entries) (zeros n) (zeros m))

-- more zeros at the end do not change a number
pub number_trailing : (xs : List ℤ) (n k : ℕ) → number k (xs ++ zeros n) ≡ number k xs
number_trailing xs n k = elim (below_or_past k (length xs)) [
  | inl l ↦ get_or_append_left xs (zeros n) (pos 0) k l
  | inr p ↦ get_or-append_right xs (zeros n) (length xs) k (pos 0) refl p ∙ number_zeros n (k - length xs) ∙ sym (get_or-past xs k (pos 0) p)
]
  where
    number_zeros : (n k : ℕ) → number k (zeros n) ≡ pos 0
    number_zeros n k = elim (below_or_past k n) [
      | inl l ↦ get_or-replicate n k (pos 0) (pos 0) l
      | inr p ↦ get_or-past (zeros n) k (pos 0) (subst (λ (m : ℕ). m ≤ k) (sym (length-replicate n (pos 0))) p)
    ]

-- where no entry comes, any number of zeros comes next
pub ahead_none : (n : ℕ) (rest : List Entry) → length rest ≡ 0 → ahead n rest ≡ spread rest
ahead_none n [] e = refl
ahead_none n (entry ∷ rest) e = absurd (omega (arith, e))

pub ahead_first : (entry : Entry) (rest : List Entry) (n : ℕ) → n ≡ entry.zeros → ahead n (entry ∷ rest) ≡ spread (entry ∷ rest)
ahead_first entry rest n e = ap (λ (m : ℕ). ahead m (entry ∷ rest)) e

pub ahead_zero : (n k : ℕ) (rest : List Entry) → k < n → number k (ahead n rest) ≡ pos 0
ahead_zero n k [] l = refl
ahead_zero n k (entry ∷ rest) l =
    get_or_append_left (zeros n) (entry.number ∷ spread rest) (pos 0) k (subst (λ (m : ℕ). k < m) (sym (length-replicate n (pos 0))) l) ∙ get_or-replicate n k (pos 0) (pos 0) l

past_zeros : (m n k : ℕ) (xs : List ℤ) → number (m + k) (zeros (m + n) ++ xs) ≡ number k (zeros n ++ xs)
past_zeros m n k xs =
    let parts : zeros (m + n) ++ xs ≡ zeros m ++ (zeros n ++ xs) = ap (λ (ys : List ℤ). ys ++ xs) (sym (replicate-append-replicate m n (pos 0))) ∙ append_assoc (zeros m) (zeros n) xs in
    ap (λ (ys : List ℤ). number (m + k) ys) parts ∙ ap (λ (j : ℕ). number (j + k) (zeros m ++ (zeros n ++ xs))) (sym (length-replicate m (pos 0))) ∙ get_or-append-add (zeros m) (zeros n ++ xs) k (pos 0)

-- with fewer zeros next each number comes so much earlier
pub ahead_skip : (before after count k : ℕ) (rest : List Entry) → before ≡ count + after → number k (ahead after rest) ≡ number (k + count) (ahead before rest)
ahead_skip before after count k [] e = refl
ahead_skip before after count k (entry ∷ rest) e =
    let sum : k + count ≡ count + k = omega arith in
    sym (ap (λ (n : ℕ). number (k + count) (zeros n ++ entry.number ∷ spread rest)) e ∙ ap (λ (j : ℕ). number j (zeros (count + after) ++ entry.number ∷ spread rest)) sum ∙ past_zeros count after k (entry.number ∷ spread rest))

-- the next number, and those after it
pub ahead_now : (n : ℕ) (entry : Entry) (rest : List Entry) → n ≡ 0 → number 0 (ahead n (entry ∷ rest)) ≡ entry.number
ahead_now n entry rest e = ap (λ (m : ℕ). number 0 (ahead m (entry ∷ rest))) e

pub ahead_later : (n k : ℕ) (entry : Entry) (rest : List Entry) → n ≡ 0 → number k (spread rest) ≡ number (k + 1) (ahead n (entry ∷ rest))
ahead_later n k entry rest e = sym (ap (λ (m : ℕ). number (k + 1) (ahead m (entry ∷ rest))) e ∙ later k)
  where
    later : (k : ℕ) → number (k + 1) (entry.number ∷ spread rest) ≡ number k (spread rest)
    later k = rw add-one refl

-- each number other than 0 is at some index of the list
pub spread_at : (entries : List Entry) (i : ℕ) (entry : Entry) → i < length entries → entry ≡ get_or entries i entry → (position : ℕ) × (number position (spread entries) ≡ entry.number)
spread_at [] i entry l e = absurd (omega (arith, l))
spread_at (first ∷ entries) zero entry l e = (first.zeros, get_or_at (zeros first.zeros) first.number (spread entries) (pos 0) first.zeros (length-replicate first.zeros (pos 0)) ∙ sym (ap (λ (it : Entry). it.number) e))
spread_at (first ∷ entries) (suc i) entry l e =
    let later = spread_at entries i entry (omega (arith, l)) e in
    (length (zeros first.zeros) + suc later.0, get_or-append-add (zeros first.zeros) (first.number ∷ spread entries) (suc later.0) (pos 0) ∙ later.1)

-- some zeros at the end, each with the right value
each_zero : (P : ℕ → ℤ → Type 0) (xs : List ℤ) (n m : ℕ) → length xs ≡ n → ((k : ℕ) → k < n → P k (number k xs)) → ((k : ℕ) → k < m → P (k + n) (pos 0)) → (k : ℕ) → k < n + m → P k (number k (xs ++ zeros m))
each_zero P xs n m e before here k l = elim (below_or_past k n) [
  | inl b ↦ subst (P k) (sym (number_trailing xs m k)) (before k b)
  | inr p ↦
      let at : number k (xs ++ zeros m) ≡ pos 0 = number_trailing xs m k ∙ get_or-past xs k (pos 0) (omega (arith, e, p)) in
      let back : k - n + n ≡ k = omega (arith, p) in
      subst (P k) (sym at) (subst (λ (j : ℕ). P j (pos 0)) back (here (k - n) (omega (arith, l, p))))
]

no_sum : (x y a b : ℤ) → a ≡ pos 0 → b ≡ pos 0 → pos 0 ≡ (x *ℤ a) +ℤ (y *ℤ b)
no_sum x y a b e f =
    let p : x *ℤ a ≡ pos 0 = ap (λ (z : ℤ). x *ℤ z) e ∙ *ℤ-zero x in
    let q : y *ℤ b ≡ pos 0 = ap (λ (z : ℤ). y *ℤ z) f ∙ *ℤ-zero y in
    omega (arith, ints, p, q)

-- the sum of two lists number by number, of the first n numbers, and some more zeros
pub mixed_past : (x y : ℤ) (first second made : List ℤ) (n m : ℕ) → length made ≡ n → ((k : ℕ) → k < n → number k made ≡ (x *ℤ number k first) +ℤ (y *ℤ number k second)) → ((k : ℕ) → k < m → number (k + n) first ≡ pos 0) → ((k : ℕ) → k < m → number (k + n) second ≡ pos 0) → (k : ℕ) → k < n + m → number k (made ++ zeros m) ≡ (x *ℤ number k first) +ℤ (y *ℤ number k second)
mixed_past x y first second made n m e before a b =
    each_zero (λ (k : ℕ) (z : ℤ). z ≡ (x *ℤ number k first) +ℤ (y *ℤ number k second)) made n m e before (λ k l. no_sum x y (number (k + n) first) (number (k + n) second) (a k l) (b k l))

-- .. and one more number
pub mixed_next : (x y : ℤ) (first second made : List ℤ) (n : ℕ) (z : ℤ) → length made ≡ n → ((k : ℕ) → k < n → number k made ≡ (x *ℤ number k first) +ℤ (y *ℤ number k second)) → z ≡ (x *ℤ number n first) +ℤ (y *ℤ number n second) → (k : ℕ) → k < n + 1 → number k (made ++ z ∷ []) ≡ (x *ℤ number k first) +ℤ (y *ℤ number k second)
mixed_next x y first second made n z e before here =
    each-push (λ (k : ℕ) (w : ℤ). w ≡ (x *ℤ number k first) +ℤ (y *ℤ number k second)) made z (pos 0) n (sym e) before here

-- the rest of a list after n numbers
pub zero_next : (list : List ℤ) (before : ℕ) (rest : List Entry) (n : ℕ) → ((k : ℕ) → number k (ahead before rest) ≡ number (k + n) list) → (k : ℕ) → k < before → number (k + n) list ≡ pos 0
zero_next list before rest n at k l = sym (at k) ∙ ahead_zero before k rest l

pub skipped : (list : List ℤ) (before after : ℕ) (rest next : List Entry) (n count m : ℕ) → m ≡ n + count → ((k : ℕ) → number k (ahead before rest) ≡ number (k + n) list) → ((k : ℕ) → number k (ahead after next) ≡ number (k + count) (ahead before rest)) → (k : ℕ) → number k (ahead after next) ≡ number (k + m) list
skipped list before after rest next n count m e at moved k =
    let sum : (k + count) + n ≡ k + m = omega (arith, e) in
    moved k ∙ at (k + count) ∙ ap (λ (j : ℕ). number j list) sum
