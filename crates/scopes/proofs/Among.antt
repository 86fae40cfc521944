-- The first of some declarations that breaks visibility: of none, of one, of two groups.
use Rattle.std.proofs.Common.{◌≡◌, ℕ, ◌+◌, ◌⊎◌, inl, inr, List, [], ◌∷◌, ◌++◌, take, map, Option, Some, None, refl, sym, ◌∙◌, ap, subst, arith, add-one}
use Rattle.std.specs.Prelude.{All, Contains, MatchOption, slice_get}
use Rattle.std.proofs.Math.Seq.{take-suc}
use Rattle.std.proofs.lemmas.List.{map-append}
use Rattle.std.proofs.lemmas.Option.{slice_get_within, get_or_from_slice_get}
use Rattle.std.proofs.lemmas.List.Elements.{All-append, All-nil, All-push, Contains-push, Contains-push_cases, Contains-append_left, Contains-append_right, Contains-append_cases}
use Rattle.base.specs.declared.span.Span.{Span}
use Rattle.program.specs.declared.program.Program.{Program}
use Rattle.program.specs.Order.{IsBefore, IsFirst, IsEarlier}
use Rattle.program.proofs.Firsts.{first_of_both, first_renamed}
use Rattle.scopes.specs.Visible.{Code, IsVisible, IsBarredAmong, IsVerdict, IsFirstBarred}

none_contained : (code : Code) → Contains [] code → ⊥
none_contained code c = let b = c.1 in omega arith

pub none_yet : (p : Program) → IsFirstBarred p [] None
none_yet p = record {
  clear = λ e. All-nil (IsVisible p);
  first = λ span h. none_contained h.0 h.1;
}

only : (code c : Code) → Contains (code ∷ []) c → code ≡ c
only code c h = elim (Contains-push_cases [] code c h) [ inl n ↦ absurd (none_contained c n) | inr e ↦ e ]

irreflexive : (p : Span) → IsBefore p p → ⊥
irreflexive p (inl h) = omega arith
irreflexive p (inr h) = let s = h.1 in omega arith

of_one : (p : Program) (code : Code) (found : Option Span) → IsVerdict p code found → IsFirstBarred p (code ∷ []) found
of_one p code None v = record {
  clear = λ e. All-push (IsVisible p) [] code (All-nil (IsVisible p)) v;
  first = λ span h. h.3 (subst (λ c. IsVisible p c) (only code h.0 h.1) v);
}
of_one p code (Some span) v = record {
  clear = λ e. absurd (cc);
  first = record {
    one = (code, Contains-push [] code, sym v.0, v.1);
    first = λ other h b.
        (let same : other ≡ span = sym h.2 ∙ ap (λ (c : Code). c.span) (sym (only code h.0 h.1)) ∙ sym v.0 in
        irreflexive span (subst (λ (o : Span). IsBefore o span) same b));
  };
}

-- the earlier of two spans is missing only if both are
none_of_both : (a b : Option Span) → IsEarlier a b None → (a ≡ None) × (b ≡ None)
none_of_both None None e = (refl, refl)
none_of_both None (Some q) e = absurd (cc)
none_of_both (Some p) None e = absurd (cc)
none_of_both (Some p) (Some q) (inl e) = (let x = e.1 in absurd (cc))
none_of_both (Some p) (Some q) (inr e) = (let x = e.1 in absurd (cc))

pub of_both : (p : Program) (xs ys : List Code) (a b o : Option Span)
    → IsFirstBarred p xs a → IsFirstBarred p ys b → IsEarlier a b o → IsFirstBarred p (xs ++ ys) o
of_both p xs ys a b o f g e = record {
  clear = λ n. (let m = none_of_both a b (subst (λ (x : Option Span). IsEarlier a b x) n e) in All-append (IsVisible p) xs ys (f.clear m.0) (g.clear m.1));
  first = first_renamed (λ q. IsBarredAmong p xs q ⊎ IsBarredAmong p ys q) (IsBarredAmong p (xs ++ ys)) o
      (λ q h. elim h [
        | inl x ↦ (x.0, Contains-append_left xs ys x.0 x.1, x.2, x.3)
        | inr y ↦ (y.0, Contains-append_right xs ys y.0 y.1, y.2, y.3)
      ])
      (λ q h. elim (Contains-append_cases xs ys h.0 h.1) [
        | inl c ↦ inl (h.0, c, h.2, h.3)
        | inr c ↦ inr (h.0, c, h.2, h.3)
      ])
      (first_of_both (IsBarredAmong p xs) (IsBarredAmong p ys) a b o f.first g.first e);
}

one_more : {E : Type 0} (f : E → Code) (entries : List E) (n : ℕ) (e : E) → slice_get entries n ≡ Some e
    → map f (take (n + 1) entries) ≡ map f (take n entries) ++ f e ∷ []
one_more f entries n e h =
    let within = slice_get_within entries n e h in
    let read = get_or_from_slice_get entries n e e h in
    ap (λ m. map f (take m entries)) (add-one n)
    ∙ ap (λ xs. map f xs) (take-suc entries n e within)
    ∙ map-append f (take n entries) (_ ∷ [])
    ∙ ap (λ x. map f (take n entries) ++ f x ∷ []) read

-- one more entry of a table
pub next_entry : {E : Type 0} (p : Program) (f : E → Code) (entries : List E) (n : ℕ) (e : E) (a b o : Option Span)
    → slice_get entries n ≡ Some e → IsFirstBarred p (map f (take n entries)) a → IsVerdict p (f e) b → IsEarlier a b o
    → IsFirstBarred p (map f (take (n + 1) entries)) o
next_entry p f entries n e a b o h g v m =
    subst (λ (xs : List Code). IsFirstBarred p xs o) (sym (one_more f entries n e h))
    (of_both p (map f (take n entries)) (f e ∷ []) a b o g (of_one p (f e) b v) m)

-- the same as a result
pub answered : (p : Program) (codes : List Code) (o : Option Span) → IsFirstBarred p codes o
    → MatchOption o (All (IsVisible p) codes) (IsFirst (IsBarredAmong p codes))
answered p codes None f = f.clear refl
answered p codes (Some span) f = f.first
