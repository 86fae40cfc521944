-- Byte strings: `quoted_end` finds the closing quote exactly where there is one.
use Rattle.std.proofs.Common.{◌≡◌, ℕ, ◌+◌, Bool, true, false, eqb, List, [], ◌∷◌, ◌++◌, length, refl, ap, ◌∙◌, inl, inr, arith, suc, Some, ◌≢◌}
use Rattle.std.specs.List.{concat, AllByRecursion}
use Rattle.std.proofs.lemmas.Bool.{eqb-true, eqb-false, ne_eqb}
use Rattle.tokens.specs.Texts.{IsUnit}
use Rattle.tokens.specs.Reading.{quoted_end}
use Rattle.tokens.proofs.Runs.{chosen, none_is_some}

-- the quote after units is found
pub quoted_reads : (units : List (List ℕ)) (count : ℕ) (rest : List ℕ) → AllByRecursion IsUnit units → quoted_end false count (concat units ++ 34 ∷ rest) ≡ Some (count + length (concat units) + 1)
quoted_reads [] count rest is = ap Some (omega arith)
quoted_reads ([] ∷ units) count rest is = absurd is.0
quoted_reads ((b ∷ []) ∷ units) count rest is =
    let line : eqb b 10 ≡ false = ne_eqb _ _ is.0.2 in
    let quote : eqb b 34 ≡ false = ne_eqb _ _ is.0.0 in
    let slash : eqb b 92 ≡ false = ne_eqb _ _ is.0.1 in
    let more : quoted_end false (count + 1) (concat units ++ 34 ∷ rest) ≡ Some (count + 1 + length (concat units) + 1) = quoted_reads units (count + 1) rest is.1 in
    let same : count + 1 + length (concat units) + 1 ≡ count + suc (length (concat units)) + 1 = omega arith in
    rw (line, quote, slash) (more ∙ ap Some same)
quoted_reads ((b ∷ c ∷ []) ∷ units) count rest is =
    let line : eqb c 10 ≡ false = ne_eqb _ _ is.0.1 in
    let more : quoted_end false (count + 1 + 1) (concat units ++ 34 ∷ rest) ≡ Some (count + 1 + 1 + length (concat units) + 1) = quoted_reads units (count + 1 + 1) rest is.1 in
    let same : count + 1 + 1 + length (concat units) + 1 ≡ count + suc (suc (length (concat units))) + 1 = omega arith in
    rw (is.0.0, line) (more ∙ ap Some same)
quoted_reads ((b ∷ c ∷ d ∷ u) ∷ units) count rest is = absurd is.0

-- the bytes before a quote that is found
pub record IsQuoted (count : ℕ) (bytes : List ℕ) (end : ℕ) : Type 0 where
  pub units : List (List ℕ)
  pub rest : List ℕ
  pub split : bytes ≡ concat units ++ 34 ∷ rest
  pub units_are : AllByRecursion IsUnit units
  pub ends : end ≡ count + length (concat units) + 1

with_byte : (b count : ℕ) (bytes : List ℕ) (end : ℕ) → (b ≢ 34) × (b ≢ 92) × (b ≢ 10) → IsQuoted (count + 1) bytes end → IsQuoted count (b ∷ bytes) end
with_byte b count bytes end is more = record {
  units = (b ∷ []) ∷ more.units;
  rest = more.rest;
  split = ap (λ t. b ∷ t) more.split;
  units_are = (is, more.units_are);
  ends = omega (arith, more.ends);
}

with_pair : (b c count : ℕ) (bytes : List ℕ) (end : ℕ) → (b ≡ 92) × (c ≢ 10) → IsQuoted (count + 1 + 1) bytes end → IsQuoted count (b ∷ c ∷ bytes) end
with_pair b c count bytes end is more = record {
  units = (b ∷ c ∷ []) ∷ more.units;
  rest = more.rest;
  split = ap (λ t. b ∷ c ∷ t) more.split;
  units_are = (is, more.units_are);
  ends = omega (arith, more.ends);
}

at_quote : (b count : ℕ) (bytes : List ℕ) (end : ℕ) → b ≡ 34 → Some (count + 1) ≡ Some end → IsQuoted count (b ∷ bytes) end
at_quote b count bytes end quote h =
    let e : count + 1 ≡ end = cc in
    record { units = []; rest = bytes; split = ap (λ c. c ∷ bytes) quote; units_are = tt; ends = omega arith }

no_quote : (t : Bool) (count end : ℕ) → quoted_end t count [] ≡ Some end → ⊥
no_quote true count end h = none_is_some _ h
no_quote false count end h = none_is_some _ h

quoted_after : (b c count : ℕ) (bytes : List ℕ) (end : ℕ) (slash : Bool) → eqb b 92 ≡ slash → b ≢ 10 → b ≢ 34 → quoted_end slash (count + 1) (c ∷ bytes) ≡ Some end → (quoted_end false (count + 1) (c ∷ bytes) ≡ Some end → IsQuoted (count + 1) (c ∷ bytes) end) → (quoted_end false (count + 1 + 1) bytes ≡ Some end → IsQuoted (count + 1 + 1) bytes end) → IsQuoted count (b ∷ c ∷ bytes) end
quoted_after b c count bytes end false slash no_line no_quote h one two =
    with_byte b count (c ∷ bytes) end (no_quote, eqb-false _ _ slash, no_line) (one h)
quoted_after b c count bytes end true slash no_line no_quote h one two =
    elim (chosen (eqb c 10) _ _ _ h) [
      | inl line ↦ absurd (none_is_some _ line.1)
      | inr other ↦ with_pair b c count bytes end (eqb-true _ _ slash, eqb-false _ _ other.0) (two other.1)
    ]

pub quoted_read : (count : ℕ) (bytes : List ℕ) (end : ℕ) → quoted_end false count bytes ≡ Some end → IsQuoted count bytes end
quoted_read count [] end h = absurd (none_is_some _ h)
quoted_read count (b ∷ []) end h =
    elim (chosen (eqb b 10) _ _ _ h) [
      | inl line ↦ absurd (none_is_some _ line.1)
      | inr other ↦
          elim (chosen (eqb b 34) _ _ _ other.1) [
            | inl quote ↦ at_quote b count [] end (eqb-true _ _ quote.0) quote.1
            | inr plain ↦ absurd (no_quote (eqb b 92) (count + 1) end plain.1)
          ]
    ]
quoted_read count (b ∷ c ∷ bytes) end h =
    elim (chosen (eqb b 10) _ _ _ h) [
      | inl line ↦ absurd (none_is_some _ line.1)
      | inr other ↦
          elim (chosen (eqb b 34) _ _ _ other.1) [
            | inl quote ↦ at_quote b count (c ∷ bytes) end (eqb-true _ _ quote.0) quote.1
            | inr plain ↦ quoted_after b c count bytes end (eqb b 92) refl (eqb-false _ _ other.0) (eqb-false _ _ plain.0) plain.1 (λ e. quoted_read (count + 1) (c ∷ bytes) end e) (λ e. quoted_read (count + 1 + 1) bytes end e)
          ]
    ]
