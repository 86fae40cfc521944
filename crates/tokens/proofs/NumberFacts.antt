-- Numbers: `number_of` reads a run exactly where it is a number, and returns its value and its suffix.
use Rattle.std.proofs.Common.{◌≡◌, ℕ, ◌+◌, ◌*◌, ◌^◌, ◌<◌, ◌≤◌, Bool, true, false, eqb, ltb, ◌&&◌, ◌||◌, List, [], ◌∷◌, ◌++◌, length, drop, get_or, refl, sym, ap, ◌∙◌, inl, inr, arith, suc, add-zero, Option, Some, None, IfSome, codes}
use Rattle.std.specs.List.{list_all}
use Rattle.std.specs.Option.{option_map}
use Rattle.std.specs.Char.{is_ascii_digit, is_ascii_hexdigit, digit_value}
use Rattle.std.specs.Cmp.Lexicographic.{pointwise, same_text}
use Rattle.std.proofs.Math.Nat.{mul-le-mul_left}
use Rattle.std.proofs.lemmas.List.{drop_at, get_or-drop}
use Rattle.std.proofs.lemmas.Bool.{and_parts, and_from, cond_both, ltb-true, lt-ltb, or_left, and_left, and_right, eqb-true, true≢false}
use Rattle.std.proofs.lemmas.Bool.Decides.{nat_tests}
use Rattle.tokens.specs.declared.token.NumberSuffix.{NumberSuffix}
use Rattle.tokens.specs.declared.token.NumberSuffix.TheVariants.{Absent, U8, U16, U32, U64, U128, U256}
use Rattle.tokens.specs.declared.token.NumberLiteral.{NumberLiteral}
use Rattle.tokens.specs.Characters.{continues_word}
use Rattle.tokens.specs.Signs.{suffix_text}
use Rattle.tokens.specs.Texts.{IsDigits, number_from, IsNumber}
use Rattle.tokens.specs.Reading.{continues_numeral, more_number, numeral_at, suffix_of, suffixed, is_hexadecimal, number_of}
use Rattle.tokens.proofs.Runs.{Stops, all_joined, all_weaker, front_is, second_is, chosen, same_parts, pair_of, none_is_some}

-- more digits do not decrease the number
more_increases : (base before b : ℕ) → 1 ≤ base → before ≤ more_number base before b
unfolding more_number
more_increases base before b positive =
    cond_both (eqb b 95) before (before * base + digit_value b) (λ n. before ≤ n)
    (λ _. omega arith)
    (λ _. let grown = mul-le-mul_left before positive in omega (arith, grown))

number_increases : (base before : ℕ) (digits : List ℕ) → 1 ≤ base → before ≤ number_from base before digits
unfolding more_number
number_increases base before [] positive = omega arith
number_increases base before (b ∷ digits) positive =
    let one : before ≤ more_number base before b = more_increases base before b positive in
    let rest : more_number base before b ≤ number_from base (more_number base before b) digits = number_increases base (more_number base before b) digits positive in
    omega arith

-- a numeral that ends is read to its end
pub numeral_reads : (base before count : ℕ) (front rest : List ℕ) → 1 ≤ base → list_all (continues_numeral base) front ≡ true → number_from base before front < 2 ^ 128 → Stops (continues_numeral base) rest → numeral_at base before count (front ++ rest) ≡ Some (number_from base before front, count + length front)
unfolding more_number
numeral_reads base before count [] [] positive all small stops = rw add-zero refl
numeral_reads base before count [] (r ∷ rest) positive all small stops = rw (stops, add-zero) refl
numeral_reads base before count (b ∷ front) rest positive all small stops =
    let parts = and_parts (continues_numeral base b) (list_all (continues_numeral base) front) all in
    let grown : more_number base before b ≤ number_from base (more_number base before b) front = number_increases base (more_number base before b) front positive in
    let fits : ltb (more_number base before b) (2 ^ 128) ≡ true = lt-ltb _ _ (omega arith) in
    let more : numeral_at base (more_number base before b) (count + 1) (front ++ rest) ≡ Some (number_from base (more_number base before b) front, count + 1 + length front) = numeral_reads base (more_number base before b) (count + 1) front rest positive parts.1 small stops in
    let same : count + 1 + length front ≡ count + suc (length front) = omega arith in
    rw (parts.0, fits) (more ∙ ap (λ n. Some (number_from base (more_number base before b) front, n)) same)

-- the properties of a numeral that is read
pub record IsRead (base before count : ℕ) (digits : List ℕ) (value len : ℕ) : Type 0 where
  pub front : List ℕ
  pub rest : List ℕ
  pub split : digits ≡ front ++ rest
  pub passes : list_all (continues_numeral base) front ≡ true
  pub valued : value ≡ number_from base before front
  pub long : len ≡ count + length front
  pub bounded : value < 2 ^ 128

pub numeral_read : (base before count : ℕ) (digits : List ℕ) (value len : ℕ) → before < 2 ^ 128 → numeral_at base before count digits ≡ Some (value, len) → IsRead base before count digits value len
unfolding more_number
numeral_read base before count [] value len small h =
    let parts = same_parts before value count len h in
    let v : before ≡ value = parts.0 in
    let n : count ≡ len = parts.1 in
    record { front = []; rest = []; split = refl; passes = refl; valued = sym v; long = omega arith; bounded = omega arith }
numeral_read base before count (b ∷ digits) value len small h =
    elim (chosen (continues_numeral base b) _ _ _ h) [
      | inl on ↦
          elim (chosen (ltb (more_number base before b) (2 ^ 128)) _ _ _ on.1) [
            | inl fits ↦
                let more : IsRead base (more_number base before b) (count + 1) digits value len = numeral_read base (more_number base before b) (count + 1) digits value len (ltb-true _ _ fits.0) fits.1 in
                record {
                  front = b ∷ more.front;
                  rest = more.rest;
                  split = ap (λ t. b ∷ t) more.split;
                  passes = and_from _ _ on.0 more.passes;
                  valued = more.valued;
                  long = omega (arith, more.long);
                  bounded = more.bounded;
                }
            | inr large ↦ absurd (none_is_some _ large.1)
          ]
      | inr off ↦
          let parts = same_parts before value count len off.1 in
          let v : before ≡ value = parts.0 in
          let n : count ≡ len = parts.1 in
          record { front = []; rest = b ∷ digits; split = refl; passes = refl; valued = sym v; long = omega arith; bounded = omega arith }
    ]

-- a suffix is read from its text alone
suffix_reads : (s : NumberSuffix) → suffix_of (suffix_text s) ≡ Some s
unfolding suffix_of
suffix_reads Absent = refl
suffix_reads U8 = refl
suffix_reads U16 = refl
suffix_reads U32 = refl
suffix_reads U64 = refl
suffix_reads U128 = refl
suffix_reads U256 = refl

suffix_is : (text : List ℕ) → IfSome (suffix_of text) (λ s. text ≡ suffix_text s)
unfolding suffix_of
suffix_is text =
    let P : Option NumberSuffix → Type 0 = λ o. IfSome o (λ s. text ≡ suffix_text s) in
    cond_both (pointwise eqb (codes "") text) (Some Absent) _ P (λ e. sym (same_text _ _ (sym e)))
    (λ _. cond_both (pointwise eqb (codes "u8") text) (Some U8) _ P (λ e. sym (same_text _ _ (sym e)))
    (λ _. cond_both (pointwise eqb (codes "u16") text) (Some U16) _ P (λ e. sym (same_text _ _ (sym e)))
    (λ _. cond_both (pointwise eqb (codes "u32") text) (Some U32) _ P (λ e. sym (same_text _ _ (sym e)))
    (λ _. cond_both (pointwise eqb (codes "u64") text) (Some U64) _ P (λ e. sym (same_text _ _ (sym e)))
    (λ _. cond_both (pointwise eqb (codes "u128") text) (Some U128) _ P (λ e. sym (same_text _ _ (sym e)))
    (λ _. cond_both (pointwise eqb (codes "u256") text) (Some U256) None P (λ e. sym (same_text _ _ (sym e)))
    (λ _. tt)))))))

-- a suffix continues no numeral
suffix_stops_decimal : (s : NumberSuffix) → Stops (continues_numeral 10) (suffix_text s)
unfolding continues_numeral
suffix_stops_decimal Absent = tt
suffix_stops_decimal U8 = refl
suffix_stops_decimal U16 = refl
suffix_stops_decimal U32 = refl
suffix_stops_decimal U64 = refl
suffix_stops_decimal U128 = refl
suffix_stops_decimal U256 = refl

suffix_stops_hexadecimal : (s : NumberSuffix) → Stops (continues_numeral 16) (suffix_text s)
unfolding continues_numeral
suffix_stops_hexadecimal Absent = tt
suffix_stops_hexadecimal U8 = refl
suffix_stops_hexadecimal U16 = refl
suffix_stops_hexadecimal U32 = refl
suffix_stops_hexadecimal U64 = refl
suffix_stops_hexadecimal U128 = refl
suffix_stops_hexadecimal U256 = refl

-- a numeral with a suffix is read to its end
suffixed_reads : (base : ℕ) (front : List ℕ) (s : NumberSuffix) → 1 ≤ base → list_all (continues_numeral base) front ≡ true → number_from base 0 front < 2 ^ 128 → Stops (continues_numeral base) (suffix_text s) → suffixed (front ++ suffix_text s) (numeral_at base 0 0 (front ++ suffix_text s)) ≡ Some (number_from base 0 front, s)
suffixed_reads base front s positive all small stops =
    let read : numeral_at base 0 0 (front ++ suffix_text s) ≡ Some (number_from base 0 front, 0 + length front) = numeral_reads base 0 0 front (suffix_text s) positive all small stops in
    let left : drop (0 + length front) (front ++ suffix_text s) ≡ suffix_text s = drop_at front (suffix_text s) (0 + length front) (omega arith) in
    rw (read, left, suffix_reads) refl

-- the properties of a numeral with a suffix that is read
record IsSuffixed (base : ℕ) (digits : List ℕ) (value : ℕ) (s : NumberSuffix) : Type 0 where
  pub front : List ℕ
  pub split : digits ≡ front ++ suffix_text s
  pub passes : list_all (continues_numeral base) front ≡ true
  pub valued : value ≡ number_from base 0 front
  pub bounded : value < 2 ^ 128

suffix_read : (base : ℕ) (digits : List ℕ) (value len : ℕ) (s : NumberSuffix) (o : Option NumberSuffix) → suffix_of (drop len digits) ≡ o → IsRead base 0 0 digits value len → (v : ℕ) → option_map {U = ℕ × NumberSuffix} (λ suffix. (value, suffix)) o ≡ Some (v, s) → IsSuffixed base digits v s
suffix_read base digits value len s None e read v h = absurd (none_is_some _ h)
suffix_read base digits value len s (Some t) e read v h =
    let parts = same_parts value v t s h in
    let same_value : value ≡ v = parts.0 in
    let same_suffix : t ≡ s = parts.1 in
    let left : drop len digits ≡ read.rest = rw read.split (drop_at read.front read.rest len (omega (arith, read.long))) in
    let text : drop len digits ≡ suffix_text t = rw e at (suffix_is (drop len digits)) in
    record {
      front = read.front;
      split = read.split ∙ ap (λ r. read.front ++ r) (sym left ∙ text ∙ ap suffix_text same_suffix);
      passes = read.passes;
      valued = sym same_value ∙ read.valued;
      bounded = omega (arith, read.bounded);
    }

suffixed_read : (base : ℕ) (digits : List ℕ) (value : ℕ) (s : NumberSuffix) (o : Option (ℕ × ℕ)) → numeral_at base 0 0 digits ≡ o → suffixed digits o ≡ Some (value, s) → IsSuffixed base digits value s
suffixed_read base digits value s None e h = absurd (none_is_some _ h)
suffixed_read base digits value s (Some n) e h =
    suffix_read base digits n.0 n.1 s (suffix_of (drop n.1 digits)) refl (numeral_read base 0 0 digits n.0 n.1 (omega arith) e) value h

-- the first byte of a numeral with a suffix is a digit, so it is the first byte of the numeral
digits_begin : (test : ℕ → Bool) (front : List ℕ) (s : NumberSuffix) → test 0 ≡ false → test 117 ≡ false → test (get_or (front ++ suffix_text s) 0 0) ≡ true → list_all (λ c. test c || (eqb c 95)) front ≡ true → IsDigits test front
digits_begin test [] Absent zero u first all = absurd (true≢false (sym first ∙ zero))
digits_begin test [] U8 zero u first all = absurd (true≢false (sym first ∙ u))
digits_begin test [] U16 zero u first all = absurd (true≢false (sym first ∙ u))
digits_begin test [] U32 zero u first all = absurd (true≢false (sym first ∙ u))
digits_begin test [] U64 zero u first all = absurd (true≢false (sym first ∙ u))
digits_begin test [] U128 zero u first all = absurd (true≢false (sym first ∙ u))
digits_begin test [] U256 zero u first all = absurd (true≢false (sym first ∙ u))
digits_begin test (b ∷ front) s zero u first all =
    (first, (and_parts (test b || eqb b 95) (list_all (λ c. test c || (eqb c 95)) front) all).1)

hexadecimal_parts : (run : List ℕ) → is_hexadecimal run ≡ true → (run ≡ codes "0x" ++ drop 2 run) × (is_ascii_hexdigit (get_or (drop 2 run) 0 0) ≡ true)
unfolding is_hexadecimal
hexadecimal_parts run h =
    let first = and_parts (eqb (get_or run 0 0) 48 && eqb (get_or run 1 0) 120) (is_ascii_hexdigit (get_or run 2 0)) h in
    let two = and_parts (eqb (get_or run 0 0) 48) (eqb (get_or run 1 0) 120) first.0 in
    let zero = front_is 47 run (eqb-true _ _ two.0) in
    let x = second_is 119 run (eqb-true _ _ two.1) in
    let third : get_or run 2 0 ≡ get_or (drop 2 run) 0 0 = sym (get_or-drop 2 run 0 0) in
    (zero ∙ ap (λ t. 48 ∷ t) x, ap is_ascii_hexdigit (sym third) ∙ first.1)

-- a run that is read is a number
number_decimal : (run : List ℕ) (value : ℕ) (s : NumberSuffix) → is_ascii_digit (get_or run 0 0) ≡ true → IsSuffixed 10 run value s → IsNumber (record { text = run; value = value; suffix = s })
unfolding continues_numeral
number_decimal run value s first is = record {
  numeral = is.front;
  spelled = is.split;
  valued = inl (digits_begin is_ascii_digit is.front s refl refl (ap (λ r. is_ascii_digit (get_or r 0 0)) (sym is.split) ∙ first) is.passes, is.valued);
  bounded = is.bounded;
}

number_hexadecimal : (run : List ℕ) (value : ℕ) (s : NumberSuffix) → is_hexadecimal run ≡ true → IsSuffixed 16 (drop 2 run) value s → IsNumber (record { text = run; value = value; suffix = s })
unfolding continues_numeral
number_hexadecimal run value s hex is =
    let parts = hexadecimal_parts run hex in
    record {
      numeral = codes "0x" ++ is.front;
      spelled = parts.0 ∙ ap (λ t. 48 ∷ 120 ∷ t) is.split;
      valued = inr (is.front, refl, digits_begin is_ascii_hexdigit is.front s refl refl (ap (λ r. is_ascii_hexdigit (get_or r 0 0)) (sym is.split) ∙ parts.1) is.passes, is.valued);
      bounded = is.bounded;
    }

pub number_read : (run : List ℕ) (value : ℕ) (s : NumberSuffix) → is_ascii_digit (get_or run 0 0) ≡ true → number_of run ≡ Some (pair_of value s) → IsNumber (record { text = run; value = value; suffix = s })
unfolding number_of
number_read run value s first h =
    elim (chosen (is_hexadecimal run) _ _ _ h) [
      | inl hex ↦ number_hexadecimal run value s hex.0 (suffixed_read 16 (drop 2 run) value s (numeral_at 16 0 0 (drop 2 run)) refl hex.1)
      | inr decimal ↦ number_decimal run value s first (suffixed_read 10 run value s (numeral_at 10 0 0 run) refl decimal.1)
    ]

-- a number is read from its text
digit_no_x : (b : ℕ) → continues_numeral 10 b ≡ true → eqb b 120 ≡ false
unfolding continues_numeral
digit_no_x b h = grind (arith, nat_tests)

no_x : (digits : List ℕ) (s : NumberSuffix) → list_all (continues_numeral 10) digits ≡ true → eqb (get_or (digits ++ suffix_text s) 0 0) 120 ≡ false
no_x [] Absent all = refl
no_x [] U8 all = refl
no_x [] U16 all = refl
no_x [] U32 all = refl
no_x [] U64 all = refl
no_x [] U128 all = refl
no_x [] U256 all = refl
no_x (b ∷ digits) s all = digit_no_x b (and_parts (continues_numeral 10 b) (list_all (continues_numeral 10) digits) all).0

decimal_is_no_hexadecimal : (b : ℕ) (rest : List ℕ) → eqb (get_or rest 0 0) 120 ≡ false → is_hexadecimal (b ∷ rest) ≡ false
unfolding is_hexadecimal
decimal_is_no_hexadecimal b rest h = and_left _ _ (and_right (eqb b 48) _ h)

digits_all : (test : ℕ → Bool) (digits : List ℕ) → IsDigits test digits → list_all (λ c. test c || (eqb c 95)) digits ≡ true
digits_all test [] is = absurd is
digits_all test (b ∷ digits) is = and_from _ _ (or_left _ _ is.0) is.1

decimal_reads : (numeral : List ℕ) (s : NumberSuffix) → IsDigits is_ascii_digit numeral → number_from 10 0 numeral < 2 ^ 128 → number_of (numeral ++ suffix_text s) ≡ Some (pair_of (number_from 10 0 numeral) s)
unfolding number_of continues_numeral
decimal_reads [] s is small = absurd is
decimal_reads (b ∷ numeral) s is small =
    let all : list_all (continues_numeral 10) (b ∷ numeral) ≡ true = digits_all is_ascii_digit (b ∷ numeral) is in
    let hex : is_hexadecimal (b ∷ (numeral ++ suffix_text s)) ≡ false = decimal_is_no_hexadecimal b (numeral ++ suffix_text s) (no_x numeral s is.1) in
    rw hex (suffixed_reads 10 (b ∷ numeral) s (omega arith) all small (suffix_stops_decimal s))

hexadecimal_is : (digits : List ℕ) (s : NumberSuffix) → IsDigits is_ascii_hexdigit digits → is_hexadecimal (codes "0x" ++ (digits ++ suffix_text s)) ≡ true
unfolding is_hexadecimal
hexadecimal_is [] s is = absurd is
hexadecimal_is (b ∷ digits) s is = is.0

hexadecimal_reads : (digits : List ℕ) (s : NumberSuffix) → IsDigits is_ascii_hexdigit digits → number_from 16 0 digits < 2 ^ 128 → number_of (codes "0x" ++ (digits ++ suffix_text s)) ≡ Some (pair_of (number_from 16 0 digits) s)
unfolding number_of continues_numeral
hexadecimal_reads digits s is small =
    let all : list_all (continues_numeral 16) digits ≡ true = digits_all is_ascii_hexdigit digits is in
    rw (hexadecimal_is digits s is) (suffixed_reads 16 digits s (omega arith) all small (suffix_stops_hexadecimal s))

pub number_reads : (n : NumberLiteral) → IsNumber n → number_of n.text ≡ Some (pair_of n.value n.suffix)
number_reads n is =
    elim is.valued [
      | inl decimal ↦
          ap number_of is.spelled ∙ decimal_reads is.numeral n.suffix decimal.0 (omega (arith, decimal.1, is.bounded)) ∙ ap (λ v. Some (pair_of v n.suffix)) (sym decimal.1)
      | inr (digits, spelled, passes, valued) ↦
          ap number_of (is.spelled ∙ ap (λ t. t ++ suffix_text n.suffix) spelled) ∙ hexadecimal_reads digits n.suffix passes (omega (arith, valued, is.bounded)) ∙ ap (λ v. Some (pair_of v n.suffix)) (sym valued)
    ]

-- a number is a run of letters, digits and `_`, and begins with a digit
suffix_word : (s : NumberSuffix) → list_all continues_word (suffix_text s) ≡ true
unfolding continues_word
suffix_word Absent = refl
suffix_word U8 = refl
suffix_word U16 = refl
suffix_word U32 = refl
suffix_word U64 = refl
suffix_word U128 = refl
suffix_word U256 = refl

digit_word : (b : ℕ) → (is_ascii_digit b || eqb b 95) ≡ true → continues_word b ≡ true
unfolding continues_word
digit_word b h = grind (arith, nat_tests)

hexdigit_word : (b : ℕ) → (is_ascii_hexdigit b || eqb b 95) ≡ true → continues_word b ≡ true
unfolding continues_word
hexdigit_word b h = grind (arith, nat_tests)

prefix_word : list_all continues_word (codes "0x") ≡ true
unfolding continues_word
prefix_word = refl

pub number_word : (n : NumberLiteral) → IsNumber n → list_all continues_word n.text ≡ true
number_word n is =
    let numeral : list_all continues_word is.numeral ≡ true =
    elim is.valued [
      | inl decimal ↦ all_weaker (λ c. is_ascii_digit c || eqb c 95) continues_word digit_word is.numeral (digits_all is_ascii_digit is.numeral decimal.0)
      | inr (digits, spelled, passes, valued) ↦ rw spelled (all_joined continues_word (codes "0x") digits prefix_word (all_weaker (λ c. is_ascii_hexdigit c || eqb c 95) continues_word hexdigit_word digits (digits_all is_ascii_hexdigit digits passes)))
    ] in
    rw is.spelled (all_joined continues_word is.numeral (suffix_text n.suffix) numeral (suffix_word n.suffix))

-- the first byte is a digit
abbrev pub BeginsDigit : List ℕ → Type 0
BeginsDigit [] = ⊥
BeginsDigit (b ∷ rest) = is_ascii_digit b ≡ true

digits_first : (digits : List ℕ) (s : NumberSuffix) → IsDigits is_ascii_digit digits → BeginsDigit (digits ++ suffix_text s)
digits_first [] s is = absurd is
digits_first (b ∷ digits) s is = is.0

pub number_first : (n : NumberLiteral) → IsNumber n → BeginsDigit n.text
number_first n is =
    elim is.valued [
      | inl decimal ↦ rw is.spelled (digits_first is.numeral n.suffix decimal.0)
      | inr (digits, spelled, passes, valued) ↦ rw (is.spelled, spelled) refl
    ]
