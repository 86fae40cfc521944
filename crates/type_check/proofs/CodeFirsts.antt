-- The first of some declarations with a property: of none, and of one more.
use Rattle.std.proofs.Common.{◌≡◌, ℕ, ◌+◌, ◌<◌, ◌≤◌, ◌⊎◌, inl, inr, Bool, true, false, List, [], ◌∷◌, ◌++◌, length, take, Option, Some, None, refl, sym, ◌∙◌, ap, subst, arith, add-one}
use Rattle.std.specs.Prelude.{Contains, slice_get}
use Rattle.std.specs.Bool.{Decides}
use Rattle.std.proofs.Math.Seq.{take-suc}
use Rattle.std.proofs.lemmas.List.{take_all}
use Rattle.std.proofs.lemmas.Option.{slice_get_within, get_or_from_slice_get, slice_get-get_or}
use Rattle.std.proofs.lemmas.List.Elements.{Contains-push, Contains-push_cases, Contains-append_left, Contains-append_right, Contains-append_cases}
use Rattle.base.specs.declared.span.Span.{Span}
use Rattle.program.specs.Order.{IsBefore, IsFirstOrNone, IsEarlier}
use Rattle.program.proofs.Firsts.{first_of_both, first_renamed}
use Rattle.type_check.specs.Split.{OneAt}
use Rattle.type_check.specs.CodeFaults.{span_if}

irreflexive : (p : Span) → IsBefore p p → ⊥
irreflexive p (inl h) = omega arith
irreflexive p (inr h) = let s = h.1 in omega arith

not_true : false ≡ true → ⊥
not_true h = cc

module _ {A : Type 0} (span_of : A → Span) (IsSo : A → Type 0) where
  none_contained : (x : A) → Contains [] x → ⊥
  none_contained x c = let b = c.1 in omega arith

  pub none_yet : IsFirstOrNone (OneAt span_of IsSo []) None
  none_yet = λ span h. none_contained h.0 h.1

  only : (x y : A) → Contains (x ∷ []) y → x ≡ y
  only x y h = elim (Contains-push_cases [] x y h) [ inl n ↦ absurd (none_contained y n) | inr e ↦ e ]

  of_one : (x : A) (b : Bool) → Decides b (IsSo x) → IsFirstOrNone (OneAt span_of IsSo (x ∷ [])) (span_if b (span_of x))
  of_one x false v = λ span h. not_true (v.1 (subst IsSo (sym (only x h.0 h.1)) h.3))
  of_one x true v = record {
    one = (x, Contains-push [] x, refl, v.0 refl);
    first = λ other h b.
        (let same : other ≡ span_of x = sym h.2 ∙ ap span_of (sym (only x h.0 h.1)) in
        irreflexive (span_of x) (subst (λ (o : Span). IsBefore o (span_of x)) same b));
  }

  of_both : (xs ys : List A) (a b o : Option Span) → IsFirstOrNone (OneAt span_of IsSo xs) a → IsFirstOrNone (OneAt span_of IsSo ys) b → IsEarlier a b o
      → IsFirstOrNone (OneAt span_of IsSo (xs ++ ys)) o
  of_both xs ys a b o f g e =
      first_renamed (λ q. OneAt span_of IsSo xs q ⊎ OneAt span_of IsSo ys q) (OneAt span_of IsSo (xs ++ ys)) o
      (λ q h. elim h [
        | inl x ↦ (x.0, Contains-append_left xs ys x.0 x.1, x.2, x.3)
        | inr y ↦ (y.0, Contains-append_right xs ys y.0 y.1, y.2, y.3)
      ])
      (λ q h. elim (Contains-append_cases xs ys h.0 h.1) [
        | inl c ↦ inl (h.0, c, h.2, h.3)
        | inr c ↦ inr (h.0, c, h.2, h.3)
      ])
      (first_of_both (OneAt span_of IsSo xs) (OneAt span_of IsSo ys) a b o f g e)

  one_more : (xs : List A) (n : ℕ) (x : A) → slice_get xs n ≡ Some x → take (n + 1) xs ≡ take n xs ++ x ∷ []
  one_more xs n x h =
      ap (λ m. take m xs) (add-one n) ∙ take-suc xs n x (slice_get_within xs n x h)
      ∙ ap (λ (y : A). take n xs ++ y ∷ []) (get_or_from_slice_get xs n x x h)

  -- one more declaration, for which the property is decided
  pub next : (xs : List A) (n : ℕ) (x : A) (b : Bool) (found one o : Option Span) → slice_get xs n ≡ Some x → Decides b (IsSo x)
      → one ≡ span_if b (span_of x) → IsFirstOrNone (OneAt span_of IsSo (take n xs)) found → IsEarlier found one o
      → IsFirstOrNone (OneAt span_of IsSo (take (n + 1) xs)) o
  next xs n x b found one o h v is first e =
      subst (λ (ys : List A). IsFirstOrNone (OneAt span_of IsSo ys) o) (sym (one_more xs n x h))
      (of_both (take n xs) (x ∷ []) found one o first (subst (λ (p : Option Span). IsFirstOrNone (OneAt span_of IsSo (x ∷ [])) p) (sym is) (of_one x b v)) e)

  -- for all of them
  pub of_all : (xs : List A) (n : ℕ) (found : Option Span) → length xs ≤ n → IsFirstOrNone (OneAt span_of IsSo (take n xs)) found → IsFirstOrNone (OneAt span_of IsSo xs) found
  of_all xs n found b first = subst (λ (ys : List A). IsFirstOrNone (OneAt span_of IsSo ys) found) (take_all n xs b) first

-- each index below the length has an entry
pub nothing_there : {A : Type 0} (xs : List A) (n : ℕ) → n < length xs → None ≡ slice_get xs n → ⊥
nothing_there [] n b h = omega arith
nothing_there (x ∷ xs) n b h = let e = slice_get-get_or (x ∷ xs) n x b in cc
