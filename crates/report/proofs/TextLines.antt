-- A text of lines that end with their only line feed is the text of no other lines.
use Rattle.std.proofs.Common.{◌≡◌, ℕ, zero, suc, ◌+◌, ◌≤◌, ◌/◌, ◌%◌, Bool, true, false, not, cond, ◌==◌, List, [], ◌∷◌, ◌++◌, refl, sym, ap, ◌∙◌, append_assoc, arith}
use Rattle.std.specs.List.{AllByRecursion, list_all}
use Rattle.std.specs.Fmt.{digit_glyph, digits, digits_onto}
use Rattle.std.specs.Prelude.{nat_lt}
use Rattle.std.proofs.lemmas.Bool.{ne_eqb}
use Rattle.base.proofs.ListEnds.{head_is, tail_is}
use Rattle.base.proofs.TruthValues.{both_true, true_both}
use Rattle.report.specs.Known.{HoldsNoFeed}
use Rattle.report.specs.Writing.{joined}

-- ---- texts without a line feed

pub none_in : (xs ys : List ℕ) → HoldsNoFeed xs → HoldsNoFeed ys → HoldsNoFeed (xs ++ ys)
none_in [] ys p q = q
none_in (x ∷ xs) ys p q =
    let h = both_true (not (x == 10)) (list_all (λ b. not (b == 10)) xs) p in
    true_both (not (x == 10)) (list_all (λ b. not (b == 10)) (xs ++ ys)) h.0 (none_in xs ys h.1 q)

glyph_above : (d : ℕ) → 48 ≤ digit_glyph false d
glyph_above d = go (nat_lt d 10)
  where
    go : (t : Bool) → 48 ≤ cond t (48 + d) (87 + d)
    go true = omega arith
    go false = omega arith

glyph_is_none : (d : ℕ) → not (digit_glyph false d == 10) ≡ true
glyph_is_none d = ap not (ne_eqb (digit_glyph false d) 10 (λ e. omega (arith, e, glyph_above d)))

one_of : (t : Bool) (xs ys : List ℕ) → HoldsNoFeed xs → HoldsNoFeed ys → HoldsNoFeed (cond t xs ys)
one_of true xs ys p q = p
one_of false xs ys p q = q

digits_hold_none : (k base n : ℕ) (written : List ℕ) → HoldsNoFeed written → HoldsNoFeed (digits_onto k base false n written)
digits_hold_none zero base n written h = h
digits_hold_none (suc k) base n written h =
    let more : HoldsNoFeed (digit_glyph false (n % base) ∷ written) = true_both (not (digit_glyph false (n % base) == 10)) (list_all (λ b. not (b == 10)) written) (glyph_is_none (n % base)) h in
    one_of (n / base == 0) (digit_glyph false (n % base) ∷ written) (digits_onto k base false (n / base) (digit_glyph false (n % base) ∷ written)) more (digits_hold_none k base (n / base) (digit_glyph false (n % base) ∷ written) more)

pub number_holds_none : (base n : ℕ) → HoldsNoFeed (digits base false n)
unfolding digits
number_holds_none base n = digits_hold_none 64 base n [] refl

-- ---- lines

-- the line ends with its only line feed
pub record EndsOnce (line : List ℕ) : Type 0 where
  pub body : List ℕ
  pub line_is : line ≡ body ++ 10 ∷ []
  pub holds_none : HoldsNoFeed body

pub ends_once : (body : List ℕ) → HoldsNoFeed body → EndsOnce (body ++ 10 ∷ [])
ends_once body h = record { body = body; line_is = refl; holds_none = h }

record SameSplit (a b x y : List ℕ) : Type 0 where
  front : a ≡ b
  back : x ≡ y

starts_without : (b : ℕ) (bs : List ℕ) → HoldsNoFeed (b ∷ bs) → b ≡ 10 → ⊥
starts_without b bs h e = apart (sym (both_true (not (b == 10)) (list_all (λ c. not (c == 10)) bs) h).0 ∙ ap (λ c. not (c == 10)) e)
  where
    apart : true ≡ false → ⊥
    apart k = absurd (cc)

split : (a b x y : List ℕ) → HoldsNoFeed a → HoldsNoFeed b → a ++ 10 ∷ x ≡ b ++ 10 ∷ y → SameSplit a b x y
split [] [] x y p q e = record { front = refl; back = tail_is e }
split [] (c ∷ b) x y p q e = absurd (starts_without c b q (sym (head_is e)))
split (d ∷ a) [] x y p q e = absurd (starts_without d a p (head_is e))
split (d ∷ a) (c ∷ b) x y p q e =
    let s = split a b x y (both_true (not (d == 10)) (list_all (λ k. not (k == 10)) a) p).1 (both_true (not (c == 10)) (list_all (λ k. not (k == 10)) b) q).1 (tail_is e) in
    record { front = ap (λ k. k ∷ a) (head_is e) ∙ ap (λ ks. c ∷ ks) s.front; back = s.back }

begins : (line : List ℕ) (rest : List ℕ) (l : EndsOnce line) → line ++ rest ≡ l.body ++ 10 ∷ rest
begins line rest l = ap (λ k. k ++ rest) l.line_is ∙ append_assoc l.body (10 ∷ []) rest

not_empty : (body rest : List ℕ) → [] ≡ body ++ 10 ∷ rest → ⊥
not_empty [] rest e = absurd (cc)
not_empty (b ∷ body) rest e = absurd (cc)

pub same_lines : (xs ys : List (List ℕ)) → AllByRecursion EndsOnce xs → AllByRecursion EndsOnce ys → joined xs ≡ joined ys → xs ≡ ys
same_lines [] [] p q e = refl
same_lines [] (y ∷ ys) p q e = absurd (not_empty q.0.body (joined ys) (e ∙ begins y (joined ys) q.0))
same_lines (x ∷ xs) [] p q e = absurd (not_empty p.0.body (joined xs) (sym e ∙ begins x (joined xs) p.0))
same_lines (x ∷ xs) (y ∷ ys) p q e =
    let s = split p.0.body q.0.body (joined xs) (joined ys) p.0.holds_none q.0.holds_none (sym (begins x (joined xs) p.0) ∙ e ∙ begins y (joined ys) q.0) in
    ap (λ k. k ∷ xs) (p.0.line_is ∙ ap (λ body. body ++ 10 ∷ []) s.front ∙ sym q.0.line_is) ∙ ap (λ ks. y ∷ ks) (same_lines xs ys p.1 q.1 s.back)
