-- The entries of a contradictory combination are not all true.
use Rattle.std.proofs.Common.{◌≡◌, ℤ, pos, ◌+ℤ◌, ◌-ℤ◌, ◌*ℤ◌, List, [], ◌∷◌, Option, Some, None, slice_get, refl, sym, ap, ◌∙◌, subst, arith}
use Rattle.std.proofs.lemmas.Int.{ints}
use Rattle.fol.specs.FormulaData.{TermData, FormulaData}
use Rattle.certificates.specs.declared.certificate.Multiple.{Multiple}
use Rattle.certificates.specs.Linear.{kept_of, Row, row_of_entry, row_weight, combined, total}
use Rattle.certificates.specs.Unknowns.{EachUnknown}
use Rattle.base.proofs.WholeNumbers.{mul_add, add_mul, mul_assoc}
use Rattle.certificates.proofs.Sums.{kept_of_exact, Values, sum_of, without, splits, constant, without_all, without_all-kept, without_all-gone, IsKeptWithout, zeros_kept}

-- the row as a number: the lesser minus the greater, plus the gap
abbrev pub row_sum : Values → Option Row → ℤ
row_sum w None = pos 0
row_sum w (Some row) = (sum_of w row.lesser -ℤ sum_of w row.greater) +ℤ row.gap

abbrev pub row_at : List FormulaData → Multiple → Option Row
row_at entries m = row_of_entry (slice_get entries m.entry)

-- the sum of the rows times their multipliers
abbrev pub rows_sum : Values → List FormulaData → List Multiple → ℤ
rows_sum w entries [] = pos 0
rows_sum w entries (m ∷ ms) = m.multiplier *ℤ row_sum w (row_at entries m) +ℤ rows_sum w entries ms

-- ---- a combination without an unknown has the value that it has if the unknown is 0

row_splits : (x : TermData) (w : Values) (r : Option Row) (c : ℤ) → row_weight (Some x) r ≡ Some c → row_sum w r ≡ row_sum (without x w) r +ℤ c *ℤ w x
row_splits x w None c e = absurd (cc)
row_splits x w (Some row) c e =
    let whole = kept_of_exact ◌+ℤ◌ _ _ c e in
    let part = kept_of_exact ◌-ℤ◌ _ _ whole.left whole.is_left in
    let l : sum_of w row.lesser ≡ sum_of (without x w) row.lesser +ℤ part.left *ℤ w x = splits x w row.lesser part.left part.is_left in
    let g : sum_of w row.greater ≡ sum_of (without x w) row.greater +ℤ part.right *ℤ w x = splits x w row.greater part.right part.is_right in
    let no_gap : pos 0 ≡ whole.right = cc in
    let d : part.left *ℤ w x ≡ whole.left *ℤ w x +ℤ part.right *ℤ w x =
    ap (λ z. z *ℤ w x) (omega (arith, ints, part.exact)) ∙ add_mul whole.left part.right (w x) in
    let s : c *ℤ w x ≡ whole.left *ℤ w x = ap (λ z. z *ℤ w x) (omega (arith, ints, whole.exact, no_gap)) in
    omega (arith, ints, l, g, d, s)

combination_splits : (x : TermData) (w : Values) (entries : List FormulaData) (ms : List Multiple) (a c : ℤ) → combined (Some x) entries (Some a) ms ≡ Some c → rows_sum w entries ms +ℤ a *ℤ w x ≡ rows_sum (without x w) entries ms +ℤ c *ℤ w x
combination_splits x w entries [] a c e =
    let same : a ≡ c = cc in
    let times : a *ℤ w x ≡ c *ℤ w x = ap (λ z. z *ℤ w x) same in
    omega (arith, ints, times)
combination_splits x w entries (m ∷ ms) a c e =
    step (kept_of ◌+ℤ◌ (Some a) (kept_of ◌*ℤ◌ (Some m.multiplier) (row_weight (Some x) (row_at entries m)))) refl (λ b. combination_splits x w entries ms b c)
  where
    empty : (ks : List Multiple) → combined (Some x) entries None ks ≡ None
    empty [] = refl
    empty (k ∷ ks) = empty ks

    step : (sum : Option ℤ) → kept_of ◌+ℤ◌ (Some a) (kept_of ◌*ℤ◌ (Some m.multiplier) (row_weight (Some x) (row_at entries m))) ≡ sum → ((b : ℤ) → combined (Some x) entries (Some b) ms ≡ Some c → rows_sum w entries ms +ℤ b *ℤ w x ≡ rows_sum (without x w) entries ms +ℤ c *ℤ w x) → (m.multiplier *ℤ row_sum w (row_at entries m) +ℤ rows_sum w entries ms) +ℤ a *ℤ w x ≡ (m.multiplier *ℤ row_sum (without x w) (row_at entries m) +ℤ rows_sum (without x w) entries ms) +ℤ c *ℤ w x
    step None h later = absurd (let n : None ≡ Some c = sym (empty ms) ∙ ap (λ s. combined (Some x) entries s ms) (sym h) ∙ e in cc)
    step (Some b) h later =
        let added = kept_of_exact ◌+ℤ◌ (Some a) _ b h in
        let product = kept_of_exact ◌*ℤ◌ (Some m.multiplier) _ added.right added.is_right in
        let is_a : a ≡ added.left = cc in
        let is_m : m.multiplier ≡ product.left = cc in
        let row : row_sum w (row_at entries m) ≡ row_sum (without x w) (row_at entries m) +ℤ product.right *ℤ w x =
        row_splits x w (row_at entries m) product.right product.is_right in
        let exact : m.multiplier *ℤ product.right ≡ added.right = ap (λ z. z *ℤ product.right) is_m ∙ product.exact in
        let times : m.multiplier *ℤ row_sum w (row_at entries m) ≡ m.multiplier *ℤ row_sum (without x w) (row_at entries m) +ℤ added.right *ℤ w x =
        ap (λ z. m.multiplier *ℤ z) row
        ∙ mul_add m.multiplier (row_sum (without x w) (row_at entries m)) (product.right *ℤ w x)
        ∙ ap (λ z. m.multiplier *ℤ row_sum (without x w) (row_at entries m) +ℤ z) (sym (mul_assoc m.multiplier product.right (w x)) ∙ ap (λ z. z *ℤ w x) exact) in
        let sum : b *ℤ w x ≡ a *ℤ w x +ℤ added.right *ℤ w x =
        ap (λ z. z *ℤ w x) (sym added.exact ∙ ap (λ z. z +ℤ added.right) (sym is_a)) ∙ add_mul a added.right (w x) in
        let rest : rows_sum w entries ms +ℤ b *ℤ w x ≡ rows_sum (without x w) entries ms +ℤ c *ℤ w x =
        later b (ap (λ s. combined (Some x) entries s ms) (sym h) ∙ e) in
        omega (arith, ints, times, sum, rest)

abbrev HasSum : List FormulaData → List Multiple → ℤ → Values → Type 0
HasSum entries ms z w = rows_sum w entries ms ≡ z

sum_kept : (entries : List FormulaData) (ms : List Multiple) → ((x : TermData) → total (Some x) entries ms ≡ Some (pos 0)) → (z : ℤ) → IsKeptWithout (HasSum entries ms z)
sum_kept entries ms free z x w h =
    let e = combination_splits x w entries ms (pos 0) (pos 0) (free x) in
    omega (arith, ints, e, h)

-- ---- if all unknowns are 0, a combination has its constant part as its value

row_constant : (w : Values) (r : Option Row) (k : ℤ) → ((row : Row) → r ≡ Some row → EachUnknown (λ u. w u ≡ pos 0) row.lesser × EachUnknown (λ u. w u ≡ pos 0) row.greater) → row_weight None r ≡ Some k → row_sum w r ≡ k
row_constant w None k zeros e = absurd (cc)
row_constant w (Some row) k zeros e =
    let whole = kept_of_exact ◌+ℤ◌ _ _ k e in
    let part = kept_of_exact ◌-ℤ◌ _ _ whole.left whole.is_left in
    let z = zeros row refl in
    let l : sum_of w row.lesser ≡ part.left = constant w row.lesser z.0 part.left part.is_left in
    let g : sum_of w row.greater ≡ part.right = constant w row.greater z.1 part.right part.is_right in
    let gap : row.gap ≡ whole.right = cc in
    omega (arith, ints, l, g, gap, part.exact, whole.exact)

-- each unknown of each row is 0
abbrev pub AreZero : List FormulaData → List Multiple → Values → Type 0
AreZero entries [] w = Unit {0}
AreZero entries (m ∷ ms) w =
    ((row : Row) → row_at entries m ≡ Some row → EachUnknown (λ u. w u ≡ pos 0) row.lesser × EachUnknown (λ u. w u ≡ pos 0) row.greater) × AreZero entries ms w

combination_constant : (w : Values) (entries : List FormulaData) (ms : List Multiple) (a c : ℤ) → AreZero entries ms w → combined None entries (Some a) ms ≡ Some c → a +ℤ rows_sum w entries ms ≡ c
combination_constant w entries [] a c zeros e =
    let same : a ≡ c = cc in
    omega (arith, ints, same)
combination_constant w entries (m ∷ ms) a c zeros e =
    step (kept_of ◌+ℤ◌ (Some a) (kept_of ◌*ℤ◌ (Some m.multiplier) (row_weight None (row_at entries m)))) refl (λ b. combination_constant w entries ms b c zeros.1)
  where
    empty : (ks : List Multiple) → combined None entries None ks ≡ None
    empty [] = refl
    empty (k ∷ ks) = empty ks

    step : (sum : Option ℤ) → kept_of ◌+ℤ◌ (Some a) (kept_of ◌*ℤ◌ (Some m.multiplier) (row_weight None (row_at entries m))) ≡ sum → ((b : ℤ) → combined None entries (Some b) ms ≡ Some c → b +ℤ rows_sum w entries ms ≡ c) → a +ℤ (m.multiplier *ℤ row_sum w (row_at entries m) +ℤ rows_sum w entries ms) ≡ c
    step None h later = absurd (let n : None ≡ Some c = sym (empty ms) ∙ ap (λ s. combined None entries s ms) (sym h) ∙ e in cc)
    step (Some b) h later =
        let added = kept_of_exact ◌+ℤ◌ (Some a) _ b h in
        let product = kept_of_exact ◌*ℤ◌ (Some m.multiplier) _ added.right added.is_right in
        let is_a : a ≡ added.left = cc in
        let is_m : m.multiplier ≡ product.left = cc in
        let row : row_sum w (row_at entries m) ≡ product.right = row_constant w (row_at entries m) product.right zeros.0 product.is_right in
        let times : m.multiplier *ℤ row_sum w (row_at entries m) ≡ added.right = (λ i. is_m i *ℤ row i) ∙ product.exact in
        let rest : b +ℤ rows_sum w entries ms ≡ c =
        later b (ap (λ s. combined None entries s ms) (sym h) ∙ e) in
        omega (arith, ints, times, rest, added.exact, is_a)

-- ---- all unknowns of all rows set to 0

abbrev without_row : Option Row → Values → Values
without_row None w = w
without_row (Some row) w = without_all row.lesser (without_all row.greater w)

abbrev without_rows : List FormulaData → List Multiple → Values → Values
without_rows entries [] w = w
without_rows entries (m ∷ ms) w = without_row (row_at entries m) (without_rows entries ms w)

without_row-kept : (Q : Values → Type 0) → IsKeptWithout Q → (r : Option Row) (w : Values) → Q w → Q (without_row r w)
without_row-kept Q k None w q = q
without_row-kept Q k (Some row) w q =
    without_all-kept Q k row.lesser (without_all row.greater w) (without_all-kept Q k row.greater w q)

without_rows-kept : (Q : Values → Type 0) → IsKeptWithout Q → (entries : List FormulaData) (ms : List Multiple) (w : Values) → Q w → Q (without_rows entries ms w)
without_rows-kept Q k entries [] w q = q
without_rows-kept Q k entries (m ∷ ms) w q =
    without_row-kept Q k (row_at entries m) (without_rows entries ms w) (without_rows-kept Q k entries ms w q)

are_zero_kept : (entries : List FormulaData) (ms : List Multiple) → IsKeptWithout (AreZero entries ms)
are_zero_kept entries [] x w h = tt
are_zero_kept entries (m ∷ ms) x w h =
    (λ row e. let z = h.0 row e in (zeros_kept row.lesser x w z.0, zeros_kept row.greater x w z.1), are_zero_kept entries ms x w h.1)

row_gone : (r : Option Row) (w : Values) (row : Row) → r ≡ Some row → EachUnknown (λ u. without_row r w u ≡ pos 0) row.lesser × EachUnknown (λ u. without_row r w u ≡ pos 0) row.greater
row_gone None w row e = absurd (cc)
row_gone (Some r) w row e =
    let same : r ≡ row = cc in
    let lesser = without_all-gone r.lesser (without_all r.greater w) in
    let greater =
    without_all-kept (λ v. EachUnknown (λ u. v u ≡ pos 0) r.greater) (zeros_kept r.greater) r.lesser (without_all r.greater w) (without_all-gone r.greater w) in
    subst (λ (s : Row). EachUnknown (λ u. without_row (Some r) w u ≡ pos 0) s.lesser × EachUnknown (λ u. without_row (Some r) w u ≡ pos 0) s.greater) same (lesser, greater)

all_gone : (entries : List FormulaData) (ms : List Multiple) (w : Values) → AreZero entries ms (without_rows entries ms w)
all_gone entries [] w = tt
all_gone entries (m ∷ ms) w =
    (row_gone (row_at entries m) (without_rows entries ms w), without_row-kept (AreZero entries ms) (are_zero_kept entries ms) (row_at entries m) (without_rows entries ms w) (all_gone entries ms w))

-- a combination without unknowns has its constant part as its value, for all values of the unknowns
pub combination_value : (entries : List FormulaData) (ms : List Multiple) (c : ℤ) (w : Values) → ((x : TermData) → total (Some x) entries ms ≡ Some (pos 0)) → total None entries ms ≡ Some c → rows_sum w entries ms ≡ c
combination_value entries ms c w free e =
    let at_zero : pos 0 +ℤ rows_sum (without_rows entries ms w) entries ms ≡ c =
    combination_constant (without_rows entries ms w) entries ms (pos 0) c (all_gone entries ms w) e in
    let same : rows_sum (without_rows entries ms w) entries ms ≡ rows_sum w entries ms =
    without_rows-kept (HasSum entries ms (rows_sum w entries ms)) (sum_kept entries ms free (rows_sum w entries ms)) entries ms w refl in
    omega (arith, ints, at_zero, same)
