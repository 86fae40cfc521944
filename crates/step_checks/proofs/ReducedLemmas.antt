-- Rows divided by the greatest common divisor of their numbers: each row has exactly one such row, and proportional
-- rows have the same.
use Rattle.std.proofs.Common.{◌≡◌, ℕ, zero, suc, ◌+◌, ◌*◌, ◌/◌, ◌<◌, length, map, pos, negsuc, ℤ, ◌*ℤ◌, ◌≤ℤ◌, ◌<ℤ◌, neg_ℤ, refl, sym, ap, ◌∙◌, subst, arith, ◌⊎◌, inl, inr}
use Rattle.std.specs.Prelude.{unsigned_abs}
use Rattle.std.specs.Int.{◌∣◌}
use Rattle.std.proofs.Math.IntN.{*ℤ-zero}
use Rattle.std.proofs.Math.Nat.{eq-zero_of_zero-dvd}
use Rattle.std.proofs.lemmas.Int.{ints}
use Rattle.std.proofs.lemmas.List.{length-map, get_or-map, ext_get_or}
use Rattle.linear_arith.specs.Inequality.{Inequality, coefficient}
use Rattle.linear_arith.specs.Reduction.{DividesRow, IsGcdOfRow, IsTimes, IsReduced}
use Rattle.linear_arith.proofs.ListLemmas.{get_or-past, below_or_past}
use Rattle.linear_arith.proofs.NumberLemmas.{quotient-not_negative, quotient-negative}
use Rattle.base.proofs.WholeNumbers.{mul_assoc, le_of_mul, zero_of_multiple}
use Rattle.step_checks.proofs.GcdLemmas.{gcd_of_row, divides_each, row_gcd_times, one_row_gcd}

zero_or_positive : (n : ℕ) → (n ≡ 0) ⊎ (0 < n)
zero_or_positive zero = inl refl
zero_or_positive (suc n) = inr (omega arith)

pub size_positive : (n : ℕ) → 0 < n → pos 0 <ℤ pos n
size_positive n h = omega (arith, ints, h)

not_less : (a b : ℤ) → a ≤ℤ b → b ≤ℤ a → a ≡ b
not_less a b h k = omega (arith, ints, h, k)

itself : (z : ℤ) → z ≤ℤ z
itself z = omega (arith, ints)

-- equal multiples are multiples of equal numbers
pub mul_cancel : (c a b : ℤ) → pos 0 <ℤ c → c *ℤ a ≡ c *ℤ b → a ≡ b
mul_cancel c a b h e = not_less a b (le_of_mul c a b h (subst (λ (z : ℤ). (c *ℤ a) ≤ℤ z) e (itself (c *ℤ a)))) (le_of_mul c b a h (subst (λ (z : ℤ). z ≤ℤ (c *ℤ a)) e (itself (c *ℤ a))))

-- rows of one length with the same numbers are equal
pub same_rows : (first second : Inequality) → length first.coefficients ≡ length second.coefficients → ((u : ℕ) → coefficient u first ≡ coefficient u second) → first.bound ≡ second.bound → first ≡ second
same_rows first second len each bound =
    let same : first.coefficients ≡ second.coefficients = ext_get_or (pos 0) first.coefficients second.coefficients len (λ u l. each u) in
    λ i. record { coefficients = same i; bound = bound i }

-- the quotient of a number by a divisor of it
abbrev quotient : ℕ → ℤ → ℤ
quotient d (pos n) = pos (n / d)
quotient d (negsuc n) = neg_ℤ (pos ((n + 1) / d))

times_quotient : (d : ℕ) (z : ℤ) → 0 < d → d ∣ unsigned_abs z → pos d *ℤ quotient d z ≡ z
times_quotient d (pos n) p h = quotient-not_negative (pos n) d n p refl h (omega (arith, ints))
times_quotient d (negsuc n) p h = quotient-negative (negsuc n) d (n + 1) p (omega arith) h (omega (arith, ints))

abbrev divided : ℕ → Inequality → Inequality
divided d row = record { coefficients = map (quotient d) row.coefficients; bound = quotient d row.bound }

divided_times : (d : ℕ) (row : Inequality) → 0 < d → DividesRow d row → IsTimes d (divided d row) row
divided_times d row p h = record {
  same_unknowns = length-map row.coefficients (quotient d);
  coefficients = λ u. elim (below_or_past u (length row.coefficients)) as (λ _. pos d *ℤ coefficient u (divided d row) ≡ coefficient u row) [
    | inl l ↦ ap (λ (z : ℤ). pos d *ℤ z) (get_or-map (quotient d) row.coefficients u (pos 0) (pos 0) l) ∙ times_quotient d (coefficient u row) p (divides_each d row h u)
    | inr l ↦
        let len = length-map row.coefficients (quotient d) in
        ap (λ (z : ℤ). pos d *ℤ z) (get_or-past (divided d row).coefficients u (pos 0) (omega (arith, len, l))) ∙ *ℤ-zero (pos d) ∙ sym (get_or-past row.coefficients u (pos 0) l)
  ];
  bound = times_quotient d row.bound p h.bound;
}

-- each row can be so divided
pub record HasReduced (row : Inequality) : Type 0 where
  pub reduced : Inequality
  pub is_reduced : IsReduced row reduced

pub has_reduced : (row : Inequality) → HasReduced row
has_reduced row =
    let g = gcd_of_row row in
    elim (zero_or_positive g.divisor) [
      | inl z ↦ record { reduced = row; is_reduced = record { divisor = g.divisor; is_gcd = g.is_gcd; quotient = λ p. absurd (omega (arith, z, p)); zeros = λ e. refl } }
      | inr p ↦ record { reduced = divided g.divisor row; is_reduced = record { divisor = g.divisor; is_gcd = g.is_gcd; quotient = λ q. divided_times g.divisor row p g.is_gcd.divides; zeros = λ e. absurd (omega (arith, e, p)) } }
    ]

-- the divided row is unique
pub one_reduced : (row first second : Inequality) → IsReduced row first → IsReduced row second → first ≡ second
one_reduced row first second a b =
    let e : b.divisor ≡ a.divisor = one_row_gcd row b.divisor a.divisor b.is_gcd a.is_gcd in
    elim (zero_or_positive a.divisor) [
      | inl z ↦ a.zeros z ∙ sym (b.zeros (e ∙ z))
      | inr p ↦
          let q : 0 < b.divisor = omega (arith, e, p) in
          let s = a.quotient p in
          let t : IsTimes a.divisor second row = subst (λ (d : ℕ). IsTimes d second row) e (b.quotient q) in
          let positive = size_positive a.divisor p in
          same_rows first second (s.same_unknowns ∙ sym t.same_unknowns) (λ u. mul_cancel (pos a.divisor) _ _ positive (s.coefficients u ∙ sym (t.coefficients u))) (mul_cancel (pos a.divisor) _ _ positive (s.bound ∙ sym t.bound))
    ]

-- all numbers of the row are 0
pub record IsZeroRow (row : Inequality) : Type 0 where
  pub coefficients : (u : ℕ) → coefficient u row ≡ pos 0
  pub bound : row.bound ≡ pos 0

zero_by_size : (z : ℤ) → 0 ∣ unsigned_abs z → z ≡ pos 0
zero_by_size (pos n) h = ap pos (eq-zero_of_zero-dvd h)
zero_by_size (negsuc n) h = let e = eq-zero_of_zero-dvd h in absurd (omega (arith, e))

zero_row : (row : Inequality) → DividesRow 0 row → IsZeroRow row
zero_row row h = record { coefficients = λ u. zero_by_size (coefficient u row) (divides_each 0 row h u); bound = zero_by_size row.bound h.bound }

-- a divided row has the greatest common divisor 1, or only zeros
lowest : (row reduced : Inequality) → IsReduced row reduced → IsGcdOfRow reduced 1 ⊎ IsZeroRow reduced
lowest row reduced h = elim (zero_or_positive h.divisor) [
  | inl z ↦ inr (subst (λ (r : Inequality). IsZeroRow r) (sym (h.zeros z)) (zero_row row (subst (λ (d : ℕ). DividesRow d row) z h.is_gcd.divides)))
  | inr p ↦
      let g = gcd_of_row reduced in
      let e = one_row_gcd row (h.divisor * g.divisor) h.divisor (row_gcd_times h.divisor g.divisor reduced row p (h.quotient p) g.is_gcd) h.is_gcd in
      inl (subst (λ (d : ℕ). IsGcdOfRow reduced d) (one_factor h.divisor g.divisor p e) g.is_gcd)
]
  where
    one_factor : (d g : ℕ) → 0 < d → d * g ≡ d → g ≡ 1
    one_factor d zero p e = absurd (omega (arith, p, e))
    one_factor d (suc zero) p e = refl
    one_factor d (suc (suc g)) p e = absurd (omega (arith, p, e))

abbrev times : ℕ → Inequality → Inequality
times k row = record { coefficients = map (λ (z : ℤ). pos k *ℤ z) row.coefficients; bound = pos k *ℤ row.bound }

times_is : (k : ℕ) (row : Inequality) → IsTimes k row (times k row)
times_is k row = record {
  same_unknowns = sym (length-map row.coefficients (λ (z : ℤ). pos k *ℤ z));
  coefficients = λ u. elim (below_or_past u (length row.coefficients)) as (λ _. pos k *ℤ coefficient u row ≡ coefficient u (times k row)) [
    | inl l ↦ sym (get_or-map (λ (z : ℤ). pos k *ℤ z) row.coefficients u (pos 0) (pos 0) l)
    | inr l ↦
        let len = length-map row.coefficients (λ (z : ℤ). pos k *ℤ z) in
        ap (λ (z : ℤ). pos k *ℤ z) (get_or-past row.coefficients u (pos 0) l) ∙ *ℤ-zero (pos k) ∙ sym (get_or-past (times k row).coefficients u (pos 0) (omega (arith, len, l)))
  ];
  bound = refl;
}

-- p times the first row is q times the second
pub record AreInRatio (first second : Inequality) : Type 0 where
  pub p : ℕ
  pub q : ℕ
  pub first_positive : 0 < p
  pub second_positive : 0 < q
  pub same_unknowns : length second.coefficients ≡ length first.coefficients
  pub coefficients : (u : ℕ) → pos p *ℤ coefficient u first ≡ pos q *ℤ coefficient u second
  pub bound : pos p *ℤ first.bound ≡ pos q *ℤ second.bound

zero_in_ratio : (p q : ℕ) (a b : ℤ) → 0 < q → pos p *ℤ a ≡ pos q *ℤ b → a ≡ pos 0 → b ≡ pos 0
zero_in_ratio p q a b h e z = zero_of_multiple (pos q) b (size_positive q h) (sym e ∙ ap (λ (w : ℤ). pos p *ℤ w) z ∙ *ℤ-zero (pos p))

part_of_ratio : (p q t : ℕ) (a b : ℤ) → 0 < q → p ≡ q * t → pos p *ℤ a ≡ pos q *ℤ b → pos t *ℤ a ≡ b
part_of_ratio p q t a b h e r =
    mul_cancel (pos q) (pos t *ℤ a) b (size_positive q h) (sym (mul_assoc (pos q) (pos t) a) ∙ ap (λ (n : ℕ). pos n *ℤ a) (sym e) ∙ r)

-- a row in lowest terms that is proportional to another one is that one divided
pub reduced_in_ratio : (sum row total : Inequality) → IsReduced sum row → AreInRatio row total → IsReduced total row
reduced_in_ratio sum row total h r =
    let g = gcd_of_row total in
    elim (lowest sum row h) [
      | inr z ↦
          let none : IsZeroRow total = record { coefficients = λ u. zero_in_ratio r.p r.q _ _ r.second_positive (r.coefficients u) (z.coefficients u); bound = zero_in_ratio r.p r.q _ _ r.second_positive r.bound z.bound } in
          let same : row ≡ total = same_rows row total (sym r.same_unknowns) (λ u. z.coefficients u ∙ sym (none.coefficients u)) (z.bound ∙ sym none.bound) in
          subst (λ (t : Inequality). IsReduced t row) same (reduced_zero row z)
      | inl one ↦
          let whole = times r.p row in
          let t = times_is r.p row in
          let s : IsTimes r.q total whole = record { same_unknowns = r.same_unknowns ∙ t.same_unknowns; coefficients = λ u. sym (r.coefficients u) ∙ t.coefficients u; bound = sym r.bound ∙ t.bound } in
          let e : r.p * 1 ≡ r.q * g.divisor = one_row_gcd whole (r.p * 1) (r.q * g.divisor) (row_gcd_times r.p 1 row whole r.first_positive t one) (row_gcd_times r.q g.divisor total whole r.second_positive s g.is_gcd) in
          let f : r.p ≡ r.q * g.divisor = omega (arith, e) in
          record {
            divisor = g.divisor;
            is_gcd = g.is_gcd;
            quotient = λ _. record { same_unknowns = sym r.same_unknowns; coefficients = λ u. part_of_ratio r.p r.q g.divisor _ _ r.second_positive f (r.coefficients u); bound = part_of_ratio r.p r.q g.divisor _ _ r.second_positive f r.bound };
            zeros = λ z. absurd (no_factor r.p r.q g.divisor r.first_positive f z);
          }
    ]
  where
    no_factor : (p q t : ℕ) → 0 < p → p ≡ q * t → t ≡ 0 → ⊥
    no_factor p q t h e z = let f : p ≡ q * 0 = e ∙ ap (λ (n : ℕ). q * n) z in omega (arith, h, f)

    reduced_zero : (row : Inequality) → IsZeroRow row → IsReduced row row
    reduced_zero row z =
        let g = gcd_of_row row in
        record { divisor = g.divisor; is_gcd = g.is_gcd; quotient = λ _. record { same_unknowns = refl; coefficients = λ u. ap (λ (w : ℤ). pos g.divisor *ℤ w) (z.coefficients u) ∙ *ℤ-zero (pos g.divisor) ∙ sym (z.coefficients u); bound = ap (λ (w : ℤ). pos g.divisor *ℤ w) z.bound ∙ *ℤ-zero (pos g.divisor) ∙ sym z.bound }; zeros = λ _. refl }
