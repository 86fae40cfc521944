-- Numbers and their digits.
use Rattle.std.proofs.Common.{◌≡◌, ◌≢◌, inl, inr, ◌↔◌, ℕ, zero, suc, ◌+◌, ◌*◌, ◌-◌, ◌^◌, ◌<◌, ◌≤◌, ◌/◌, ◌%◌, Bool, IsTrue, ltb, List, [], ◌∷◌, ◌++◌, length, take, get_or, refl, sym, ap, ◌∙◌, subst, arith}
use Rattle.std.proofs.Math.Numerals.{add-one}
use Rattle.std.proofs.lemmas.Nat.{mul-le, div_below, div-add-mod'}
use Rattle.std.proofs.lemmas.Bool.{cases_lt, ltb-true, lt-ltb}
use Rattle.step_checks.specs.Digits.{number_of}

-- the weight of a digit at this index
abbrev pub weight : ℕ → ℕ
weight zero = 1
weight (suc k) = 2 ^ 64 * weight k

pub number_push : (ds : List ℕ) (d : ℕ) → number_of (ds ++ d ∷ []) ≡ number_of ds + weight (length ds) * d
number_push [] d = omega arith
number_push (x ∷ xs) d = let more = number_push xs d in omega (arith, more)

number_next : (ds : List ℕ) (k : ℕ) → number_of (take (suc k) ds) ≡ number_of (take k ds) + weight k * get_or ds k 0
number_next [] zero = omega arith
number_next [] (suc k) = omega arith
number_next (x ∷ xs) zero = omega arith
number_next (x ∷ xs) (suc k) = let more = number_next xs k in omega (arith, more)

pub number_more : (ds : List ℕ) (k : ℕ) → number_of (take (k + 1) ds) ≡ number_of (take k ds) + weight k * get_or ds k 0
number_more ds k = rw add-one (number_next ds k)

pub weight_more : (k : ℕ) → weight (k + 1) ≡ 2 ^ 64 * weight k
weight_more k = rw add-one refl

pub number_all : (ds : List ℕ) (k : ℕ) → length ds ≤ k → number_of (take k ds) ≡ number_of ds
number_all [] zero w = refl
number_all [] (suc k) w = refl
number_all (x ∷ xs) zero w = absurd (omega (arith, w))
number_all (x ∷ xs) (suc k) w = let more = number_all xs k (omega (arith, w)) in omega (arith, more)

-- ---- one more digit

pub product_fits : (d f c : ℕ) → d < 2 ^ 64 → f < 2 ^ 64 → c < 2 ^ 64 → d * f + c < 2 ^ 128
product_fits d f c x y z = let p = mul-le d f (2 ^ 64 - 1) (2 ^ 64 - 1) (omega (arith, x)) (omega (arith, y)) in omega (arith, p, z)

pub carry_fits : (sum : ℕ) → sum < 2 ^ 128 → sum / 2 ^ 64 < 2 ^ 64
carry_fits sum h = div_below sum (2 ^ 64) (2 ^ 64) (omega arith) (omega (arith, h))

-- one more digit of a product
pub times_step : (ds ps qs : List ℕ) (k f c sum : ℕ) → length ps ≡ k → number_of ps + weight k * c ≡ number_of (take k ds) * f → sum ≡ get_or ds k 0 * f + c → qs ≡ ps ++ sum % 2 ^ 64 ∷ [] → number_of qs + weight (k + 1) * (sum / 2 ^ 64) ≡ number_of (take (k + 1) ds) * f
times_step ds ps qs k f c sum long so_far is pushed =
    let parts = div-add-mod' sum (2 ^ 64) in
    let push : number_of qs ≡ number_of ps + weight k * (sum % 2 ^ 64) = ap number_of pushed ∙ number_push ps (sum % 2 ^ 64) ∙ ap (λ n. number_of ps + weight n * (sum % 2 ^ 64)) long in
    let more = number_more ds k in
    let w = weight_more k in
    step (weight k) (weight (k + 1)) (number_of ps) (number_of qs) (number_of (take k ds)) (number_of (take (k + 1) ds)) (get_or ds k 0) f c (sum % 2 ^ 64) (sum / 2 ^ 64) w so_far (parts ∙ is) push more
  where
    step : (w v p q n m d f c low high : ℕ) → v ≡ 2 ^ 64 * w → p + w * c ≡ n * f → high * 2 ^ 64 + low ≡ d * f + c → q ≡ p + w * low → m ≡ n + w * d → q + v * high ≡ m * f
    step w v p q n m d f c low high e so_far is push more =
        let x = ap (λ (z : ℕ). w * z) is in
        let y = ap (λ (z : ℕ). z * high) e in
        let z = ap (λ (z : ℕ). z * f) more in
        omega (arith, so_far, x, y, z, push)

-- one more digit of a sum
pub sum_step : (xs ys ps qs : List ℕ) (k c sum : ℕ) → length ps ≡ k → number_of ps + weight k * c ≡ number_of (take k xs) + number_of (take k ys) → sum ≡ get_or xs k 0 + get_or ys k 0 + c → qs ≡ ps ++ sum % 2 ^ 64 ∷ [] → number_of qs + weight (k + 1) * (sum / 2 ^ 64) ≡ number_of (take (k + 1) xs) + number_of (take (k + 1) ys)
sum_step xs ys ps qs k c sum long so_far is pushed =
    let parts = div-add-mod' sum (2 ^ 64) in
    let push : number_of qs ≡ number_of ps + weight k * (sum % 2 ^ 64) = ap number_of pushed ∙ number_push ps (sum % 2 ^ 64) ∙ ap (λ n. number_of ps + weight n * (sum % 2 ^ 64)) long in
    let left = number_more xs k in
    let right = number_more ys k in
    let w = weight_more k in
    step (weight k) (weight (k + 1)) (number_of ps) (number_of qs) (number_of (take k xs)) (number_of (take k ys)) (number_of (take (k + 1) xs)) (number_of (take (k + 1) ys)) (get_or xs k 0) (get_or ys k 0) c (sum % 2 ^ 64) (sum / 2 ^ 64) w so_far (parts ∙ is) push left right
  where
    step : (w v p q n o m r d e c low high : ℕ) → v ≡ 2 ^ 64 * w → p + w * c ≡ n + o → high * 2 ^ 64 + low ≡ d + e + c → q ≡ p + w * low → m ≡ n + w * d → r ≡ o + w * e → q + v * high ≡ m + r
    step w v p q n o m r d e c low high up so_far is push left right =
        let x = ap (λ (z : ℕ). w * z) is in
        let y = ap (λ (z : ℕ). z * high) up in
        omega (arith, so_far, x, y, push, left, right)

-- the last digit
pub last_digit : (ps qs : List ℕ) (k c : ℕ) → length ps ≡ k → qs ≡ ps ++ c ∷ [] → number_of qs ≡ number_of ps + weight k * c
last_digit ps qs k c long pushed = ap number_of pushed ∙ number_push ps c ∙ ap (λ n. number_of ps + weight n * c) long

-- ---- which number is the greater

-- all digits are below the base
pub record AreDigits (ds : List ℕ) : Type 0 where
  pub below : (k : ℕ) → get_or ds k 0 < 2 ^ 64

pub low_below : (ds : List ℕ) (k : ℕ) → AreDigits ds → number_of (take k ds) < weight k
low_below [] zero h = omega arith
low_below [] (suc k) h = let w = low_below [] k h in let e = number_all [] k (omega arith) in omega (arith, w, e)
low_below (x ∷ xs) zero h = omega arith
low_below (x ∷ xs) (suc k) h = let v = h.below 0 in let w = low_below xs k (record { below = λ j. h.below (suc j) }) in omega (arith, v, w)

module _ (xs ys : List ℕ) (are : AreDigits xs) (others : AreDigits ys) (k : ℕ) where
  less : get_or xs k 0 < get_or ys k 0 → number_of (take (k + 1) xs) < number_of (take (k + 1) ys)
  less h =
      let left = number_more xs k in
      let right = number_more ys k in
      let below = low_below xs k are in
      step (weight k) (number_of (take k xs)) (number_of (take k ys)) (number_of (take (k + 1) xs)) (number_of (take (k + 1) ys)) (get_or xs k 0) (get_or ys k 0) h left right below
    where
      step : (w n o m r d e : ℕ) → d < e → m ≡ n + w * d → r ≡ o + w * e → n < w → m < r
      step w n o m r d e h left right below = let p = mul-le w (d + 1) w e (omega arith) (omega (arith, h)) in omega (arith, p, left, right, below)

  same : get_or xs k 0 ≡ get_or ys k 0 → (number_of (take k xs) ≤ number_of (take k ys)) ↔ (number_of (take (k + 1) xs) ≤ number_of (take (k + 1) ys))
  same e =
      let left = number_more xs k in
      let right = number_more ys k in
      let z = ap (λ d. weight k * d) e in
      (λ h. omega (arith, left, right, z, h), λ h. omega (arith, left, right, z, h))

pub at_most_same : (xs ys : List ℕ) (k : ℕ) (r : Bool) → AreDigits xs → AreDigits ys → get_or xs k 0 ≡ get_or ys k 0 → IsTrue r ↔ (number_of (take k xs) ≤ number_of (take k ys)) → IsTrue r ↔ (number_of (take (k + 1) xs) ≤ number_of (take (k + 1) ys))
at_most_same xs ys k r are others e h = (λ t. (same xs ys are others k e).0 (h.0 t), λ w. h.1 ((same xs ys are others k e).1 w))

pub at_most_differing : (xs ys : List ℕ) (k : ℕ) (r : Bool) → AreDigits xs → AreDigits ys → get_or xs k 0 ≢ get_or ys k 0 → IsTrue r ↔ (get_or xs k 0 < get_or ys k 0) → IsTrue r ↔ (number_of (take (k + 1) xs) ≤ number_of (take (k + 1) ys))
at_most_differing xs ys k r are others differ h = (λ t. (let w = less xs ys are others k (h.0 t) in omega (arith, w)), λ w. elim (cases_lt (get_or xs k 0) (get_or ys k 0)) [ inl l ↦ h.1 l | inr l ↦ (let above : get_or ys k 0 < get_or xs k 0 = omega (arith, l, differ) in let v = less ys xs others are k above in absurd (omega (arith, v, w))) ])

-- how the result continues with the digits d and e
module _ (xs ys : List ℕ) (k : ℕ) (r : Bool) (d e : ℕ) (are : AreDigits xs) (others : AreDigits ys) (first : d ≡ get_or xs k 0) (second : e ≡ get_or ys k 0) where
  pub decided_here : (d ≡ e → ⊥) → r ≡ ltb d e → IsTrue r ↔ (number_of (take (k + 1) xs) ≤ number_of (take (k + 1) ys))
  decided_here differ is = at_most_differing xs ys k r are others (λ same. differ (first ∙ same ∙ sym second)) ((λ t. (let w = ltb-true d e (sym is ∙ t) in omega (arith, w, first, second)), λ w. is ∙ lt-ltb d e (omega (arith, w, first, second))))

  pub decided_below : (old : Bool) → d ≡ e → r ≡ old → IsTrue old ↔ (number_of (take k xs) ≤ number_of (take k ys)) → IsTrue r ↔ (number_of (take (k + 1) xs) ≤ number_of (take (k + 1) ys))
  decided_below old same is h = at_most_same xs ys k r are others (sym first ∙ same ∙ second) (subst (λ t. IsTrue t ↔ (number_of (take k xs) ≤ number_of (take k ys))) (sym is) h)

pub times_parts : (n f : ℕ) → n * (f % 2 ^ 64) + 2 ^ 64 * (n * (f / 2 ^ 64)) ≡ n * f
times_parts n f = let e = ap (λ (z : ℕ). n * z) (div-add-mod' f (2 ^ 64)) in omega (arith, e)

pub number_of_two : (n : ℕ) (ds : List ℕ) → ds ≡ n % 2 ^ 64 ∷ n / 2 ^ 64 ∷ [] → number_of ds ≡ n
number_of_two n ds e = let parts = div-add-mod' n (2 ^ 64) in let f = ap number_of e in omega (arith, parts, f)
