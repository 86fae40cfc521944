-- Block comments: `comment_end` finds the `*/` that closes a `/*` exactly where there is one.
use Rattle.std.proofs.Common.{◌≡◌, ℕ, ◌+◌, ◌-◌, true, false, cond, eqb, ◌&&◌, List, [], ◌∷◌, ◌++◌, length, refl, sym, ap, ◌∙◌, inl, inr, arith, suc, Option, Some, codes, append_assoc, length-append}
use Rattle.std.specs.List.{AllByRecursion}
use Rattle.std.proofs.lemmas.Bool.{and_parts, and_from, eqb-true, eqb-false, ne_eqb, false_from_ne_true, true≢false, eq-eqb}
use Rattle.tokens.specs.Comments.{Inside, inside_text, NoMark, IsInside}
use Rattle.tokens.specs.Comments.Inside.{nothing, byte, comment}
use Rattle.tokens.specs.Reading.{comment_end}
use Rattle.tokens.proofs.Runs.{chosen, none_is_some}

-- a byte that begins no mark does not change the end
unmarked : (depth b count c : ℕ) (t rest : List ℕ) → NoMark (b ∷ c ∷ t) → comment_end depth b count (c ∷ t ++ rest) ≡ comment_end depth 0 count (c ∷ t ++ rest)
unmarked depth b count c t rest unmark =
    let opens : (eqb b 47 && eqb c 42) ≡ false =
    false_from_ne_true _ (λ e. let parts = and_parts (eqb b 47) (eqb c 42) e in
    unmark.0 t (ap (λ x. x ∷ c ∷ t) (eqb-true _ _ parts.0) ∙ ap (λ x. 47 ∷ x ∷ t) (eqb-true _ _ parts.1))) in
    let closes : (eqb b 42 && eqb c 47) ≡ false =
    false_from_ne_true _ (λ e. let parts = and_parts (eqb b 42) (eqb c 47) e in
    unmark.1 t (ap (λ x. x ∷ c ∷ t) (eqb-true _ _ parts.0) ∙ ap (λ x. 42 ∷ x ∷ t) (eqb-true _ _ parts.1))) in
    rw (opens, closes) refl

-- the same before the content and `*/`
unmarked_before : (depth b count : ℕ) (x : Inside) (rest : List ℕ) → NoMark (b ∷ (inside_text x ++ codes "*/")) → comment_end depth b count ((inside_text x ++ codes "*/") ++ rest) ≡ comment_end depth 0 count ((inside_text x ++ codes "*/") ++ rest)
unmarked_before depth b count nothing rest unmark = unmarked depth b count 42 (codes "/") rest unmark
unmarked_before depth b count (byte c x) rest unmark = unmarked depth b count c (inside_text x ++ codes "*/") rest unmark
unmarked_before depth b count (comment x y) rest unmark = unmarked depth b count 47 (codes "*" ++ (inside_text x ++ (codes "*/" ++ inside_text y)) ++ codes "*/") rest unmark

-- the end after the `*/`
abbrev behind : ℕ → ℕ → List ℕ → Option ℕ
behind depth count rest = cond (eqb depth 0) (Some count) (comment_end (depth - 1) 0 count rest)

regrouped : (x y z w : List ℕ) → (x ++ (y ++ z)) ++ w ≡ x ++ (y ++ (z ++ w))
regrouped x y z w = simp append_assoc

after_deeper : (depth count : ℕ) (rest : List ℕ) → behind (depth + 1) count rest ≡ comment_end depth 0 count rest
after_deeper depth count rest =
    let deeper : eqb (depth + 1) 0 ≡ false = ne_eqb _ _ (λ e. absurd (omega arith)) in
    let same : depth + 1 - 1 ≡ depth = omega arith in
    rw (deeper, same) refl

pub comment_reads : (x : Inside) (depth count : ℕ) (rest : List ℕ) → IsInside x → comment_end depth 0 count (inside_text x ++ (codes "*/" ++ rest)) ≡ behind depth (count + length (inside_text x) + 2) rest
comment_reads nothing depth count rest is = ap (λ n. behind depth n rest) (omega arith)
comment_reads (byte b x) depth count rest is =
    let grouped : inside_text x ++ (codes "*/" ++ rest) ≡ (inside_text x ++ codes "*/") ++ rest = sym (append_assoc (inside_text x) (codes "*/") rest) in
    let same : count + 1 + length (inside_text x) + 2 ≡ count + suc (length (inside_text x)) + 2 = omega arith in
    ap (comment_end depth b (count + 1)) grouped
    ∙ unmarked_before depth b (count + 1) x rest is.0
    ∙ ap (comment_end depth 0 (count + 1)) (sym grouped)
    ∙ comment_reads x depth (count + 1) rest is.1
    ∙ ap (λ n. behind depth n rest) same
comment_reads (comment x y) depth count rest is =
    let inner = comment_reads x (depth + 1) (count + 1 + 1) (inside_text y ++ (codes "*/" ++ rest)) is.0 in
    let outer = comment_reads y depth (count + 1 + 1 + length (inside_text x) + 2) rest is.1 in
    let long = length-append (inside_text x) (codes "*/" ++ inside_text y) in
    let same : count + 1 + 1 + length (inside_text x) + 2 + length (inside_text y) + 2 ≡ count + suc (suc (length (inside_text x ++ (codes "*/" ++ inside_text y)))) + 2 = omega (arith, long) in
    ap (comment_end (depth + 1) 0 (count + 1 + 1)) (regrouped (inside_text x) (codes "*/") (inside_text y) (codes "*/" ++ rest))
    ∙ inner
    ∙ after_deeper depth (count + 1 + 1 + length (inside_text x) + 2) (inside_text y ++ (codes "*/" ++ rest))
    ∙ outer
    ∙ ap (λ n. behind depth n rest) same

-- the contents of nested block comments, from the innermost up to the end of the outermost
abbrev pub insides_text : List Inside → List ℕ
insides_text [] = []
insides_text (x ∷ xs) = inside_text x ++ (codes "*/" ++ insides_text xs)

-- the text is the content of the innermost of depth and one more comments, and of those around it
pub record IsClosed (depth count : ℕ) (text bytes : List ℕ) (end : ℕ) : Type 0 where
  pub inner : Inside
  pub outer : List Inside
  pub rest : List ℕ
  pub split : text ≡ inside_text inner ++ (codes "*/" ++ (insides_text outer ++ rest))
  pub inner_is : IsInside inner
  pub outer_are : AllByRecursion IsInside outer
  pub deep : length outer ≡ depth
  pub ends : end + length rest ≡ count + length bytes

-- what an end means, with a byte before the bytes, and without
record AreClosed (bytes : List ℕ) : Type 0 where
  pub after_byte : (depth last count end : ℕ) → comment_end depth last count bytes ≡ Some end → IsClosed depth count (last ∷ bytes) bytes end
  pub at_start : (depth count end : ℕ) → comment_end depth 0 count bytes ≡ Some end → IsClosed depth count bytes bytes end

is_plain : (last b : ℕ) (tail text rest : List ℕ) → (eqb last 47 && eqb b 42) ≡ false → (eqb last 42 && eqb b 47) ≡ false → b ∷ tail ≡ text ++ rest → (c : ℕ) (t : List ℕ) → text ≡ c ∷ t → NoMark (last ∷ text)
is_plain last b tail text rest opens closes split c t begins =
    let first : b ≡ c = (let e : b ∷ tail ≡ c ∷ (t ++ rest) = split ∙ ap (λ x. x ++ rest) begins in cc) in (
      λ more e. let here : last ≡ 47 = cc in let there : c ∷ t ≡ 42 ∷ more = (let f : text ≡ 42 ∷ more = cc in sym begins ∙ f) in let second : c ≡ 42 = cc in
          true≢false (sym (and_from _ _ (eq-eqb last 47 here) (eq-eqb b 42 (first ∙ second))) ∙ opens),
      λ more e. let here : last ≡ 42 = cc in let there : c ∷ t ≡ 47 ∷ more = (let f : text ≡ 47 ∷ more = cc in sym begins ∙ f) in let second : c ≡ 47 = cc in
          true≢false (sym (and_from _ _ (eq-eqb last 42 here) (eq-eqb b 47 (first ∙ second))) ∙ closes),
    )

plain_before : (last b : ℕ) (tail : List ℕ) (x : Inside) (rest : List ℕ) → (eqb last 47 && eqb b 42) ≡ false → (eqb last 42 && eqb b 47) ≡ false → b ∷ tail ≡ (inside_text x ++ codes "*/") ++ rest → NoMark (last ∷ (inside_text x ++ codes "*/"))
plain_before last b tail nothing rest opens closes split = is_plain last b tail (codes "*/") rest opens closes split 42 (codes "/") refl
plain_before last b tail (byte c x) rest opens closes split = is_plain last b tail (c ∷ (inside_text x ++ codes "*/")) rest opens closes split c (inside_text x ++ codes "*/") refl
plain_before last b tail (comment x y) rest opens closes split = is_plain last b tail _ rest opens closes split 47 (codes "*" ++ (inside_text x ++ (codes "*/" ++ inside_text y)) ++ codes "*/") refl

-- a plain byte before
with_plain : (depth last b count : ℕ) (tail : List ℕ) (end : ℕ) → (eqb last 47 && eqb b 42) ≡ false → (eqb last 42 && eqb b 47) ≡ false → IsClosed depth (count + 1) (b ∷ tail) tail end → IsClosed depth count (last ∷ b ∷ tail) (b ∷ tail) end
with_plain depth last b count tail end opens closes more = record {
  inner = byte last more.inner;
  outer = more.outer;
  rest = more.rest;
  split = ap (λ t. last ∷ t) more.split;
  inner_is = (plain_before last b tail more.inner (insides_text more.outer ++ more.rest) opens closes (more.split ∙ sym (append_assoc (inside_text more.inner) (codes "*/") (insides_text more.outer ++ more.rest))), more.inner_is);
  outer_are = more.outer_are;
  deep = more.deep;
  ends = omega (arith, more.ends);
}

-- the opening of a comment
with_opening : (depth last b count : ℕ) (tail : List ℕ) (end : ℕ) → (eqb last 47 && eqb b 42) ≡ true → (inner : Inside) (outer : List Inside) (rest : List ℕ) → tail ≡ inside_text inner ++ (codes "*/" ++ (insides_text outer ++ rest)) → IsInside inner → AllByRecursion IsInside outer → length outer ≡ depth + 1 → end + length rest ≡ count + 1 + length tail → IsClosed depth count (last ∷ b ∷ tail) (b ∷ tail) end
with_opening depth last b count tail end opens inner [] rest split inner_is outer_are deep ends = absurd (omega arith)
with_opening depth last b count tail end opens inner (x ∷ outer) rest split inner_is outer_are deep ends =
    let parts = and_parts (eqb last 47) (eqb b 42) opens in
    record {
      inner = comment inner x;
      outer = outer;
      rest = rest;
      split = ap (λ c. c ∷ b ∷ tail) (eqb-true _ _ parts.0) ∙ ap (λ c. 47 ∷ c ∷ tail) (eqb-true _ _ parts.1) ∙ ap (λ t. 47 ∷ 42 ∷ t) (split ∙ regroup inner x outer rest);
      inner_is = (inner_is, outer_are.0);
      outer_are = outer_are.1;
      deep = omega arith;
      ends = omega arith;
    }
  where
    regroup : (inner x : Inside) (outer : List Inside) (rest : List ℕ) → inside_text inner ++ (codes "*/" ++ ((inside_text x ++ (codes "*/" ++ insides_text outer)) ++ rest)) ≡ (inside_text inner ++ (codes "*/" ++ inside_text x)) ++ (codes "*/" ++ (insides_text outer ++ rest))
    regroup inner x outer rest = simp append_assoc

-- the end of the outermost comment
with_last : (depth last b count : ℕ) (tail : List ℕ) (end : ℕ) → (eqb last 42 && eqb b 47) ≡ true → eqb depth 0 ≡ true → Some (count + 1) ≡ Some end → IsClosed depth count (last ∷ b ∷ tail) (b ∷ tail) end
with_last depth last b count tail end closes none h =
    let parts = and_parts (eqb last 42) (eqb b 47) closes in
    let e : count + 1 ≡ end = cc in
    record {
      inner = nothing;
      outer = [];
      rest = tail;
      split = ap (λ c. c ∷ b ∷ tail) (eqb-true _ _ parts.0) ∙ ap (λ c. 42 ∷ c ∷ tail) (eqb-true _ _ parts.1);
      inner_is = tt;
      outer_are = tt;
      deep = sym (eqb-true _ _ none);
      ends = omega arith;
    }

-- the end of an inner comment
with_closing : (depth last b count : ℕ) (tail : List ℕ) (end : ℕ) → (eqb last 42 && eqb b 47) ≡ true → eqb depth 0 ≡ false → IsClosed (depth - 1) (count + 1) tail tail end → IsClosed depth count (last ∷ b ∷ tail) (b ∷ tail) end
with_closing depth last b count tail end closes some more =
    let parts = and_parts (eqb last 42) (eqb b 47) closes in
    let deep : depth ≡ 0 → ⊥ = eqb-false depth 0 some in
    record {
      inner = nothing;
      outer = more.inner ∷ more.outer;
      rest = more.rest;
      split = ap (λ c. c ∷ b ∷ tail) (eqb-true _ _ parts.0) ∙ ap (λ c. 42 ∷ c ∷ tail) (eqb-true _ _ parts.1) ∙ ap (λ t. 42 ∷ 47 ∷ t) (more.split ∙ sym (regrouped (inside_text more.inner) (codes "*/") (insides_text more.outer) more.rest));
      inner_is = tt;
      outer_are = (more.inner_is, more.outer_are);
      deep = omega (arith, more.deep);
      ends = omega (arith, more.ends);
    }

closed_after : (depth last b count : ℕ) (tail : List ℕ) (end : ℕ) → AreClosed tail → comment_end depth last count (b ∷ tail) ≡ Some end → IsClosed depth count (last ∷ b ∷ tail) (b ∷ tail) end
closed_after depth last b count tail end more h =
    elim (chosen (eqb last 47 && eqb b 42) _ _ _ h) [
      | inl opens ↦
          let is = more.at_start (depth + 1) (count + 1) end opens.1 in
          with_opening depth last b count tail end opens.0 is.inner is.outer is.rest is.split is.inner_is is.outer_are is.deep is.ends
      | inr other ↦
          elim (chosen (eqb last 42 && eqb b 47) _ _ _ other.1) [
            | inl closes ↦
                elim (chosen (eqb depth 0) _ _ _ closes.1) [
                  | inl outermost ↦ with_last depth last b count tail end closes.0 outermost.0 outermost.1
                  | inr inner ↦ with_closing depth last b count tail end closes.0 inner.0 (more.at_start (depth - 1) (count + 1) end inner.1)
                ]
            | inr plain ↦ with_plain depth last b count tail end other.0 plain.0 (more.after_byte depth b (count + 1) end plain.1)
          ]
    ]

-- the bytes themselves, without a byte before them
without_byte : (depth b count : ℕ) (tail : List ℕ) (end : ℕ) → IsClosed depth (count + 1) (b ∷ tail) tail end → IsClosed depth count (b ∷ tail) (b ∷ tail) end
without_byte depth b count tail end more = record {
  inner = more.inner;
  outer = more.outer;
  rest = more.rest;
  split = more.split;
  inner_is = more.inner_is;
  outer_are = more.outer_are;
  deep = more.deep;
  ends = omega (arith, more.ends);
}

are_closed : (bytes : List ℕ) → AreClosed bytes
are_closed [] = record { after_byte = λ depth last count end h. absurd (none_is_some _ h); at_start = λ depth count end h. absurd (none_is_some _ h) }
are_closed (b ∷ tail) =
    let more = are_closed tail in
    record {
      after_byte = λ depth last count end h. closed_after depth last b count tail end more h;
      at_start = λ depth count end h. without_byte depth b count tail end (more.after_byte depth b (count + 1) end h);
    }

pub comment_read : (count : ℕ) (bytes : List ℕ) (end : ℕ) → comment_end 0 0 count bytes ≡ Some end → IsClosed 0 count bytes bytes end
comment_read count bytes end h = (are_closed bytes).at_start 0 count end h
