-- The first span of a kind is that of the declarations on cycles; that of several kinds is the earliest of theirs.
use Rattle.std.proofs.Common.{◌≡◌, ◌↔◌, ℕ, ◌+◌, ◌<◌, ◌⊎◌, inl, inr, List, [], ◌∷◌, ◌++◌, length, get_or, take, add-one, Option, Some, None, refl, sym, ◌∙◌, ap, subst, arith}
use Rattle.std.specs.Prelude.{All, Contains, MatchOption, slice_get}
use Rattle.std.proofs.Math.Seq.{take-suc}
use Rattle.std.proofs.lemmas.List.Elements.{All-append, All-nil, All-push, All-contains, Contains-push, Contains-push_cases, Contains-append_left, Contains-append_right, Contains-append_cases}
use Rattle.std.proofs.lemmas.Option.{slice_get-get_or}
use Rattle.base.specs.declared.span.Span.{Span}
use Rattle.program.specs.Order.{IsBefore, IsFirst, IsFirstOrNone, IsEarlier}
use Rattle.program.proofs.Firsts.{first_of_both, first_renamed}
use Rattle.declaration_cycles.specs.declared.edges.Edge.{Edge}
use Rattle.declaration_cycles.specs.Leading.{Leads, Directly, Over, LeadsBack}
use Rattle.declaration_cycles.specs.Within.{IsWithin}
use Rattle.declaration_cycles.specs.Circular.{Kind, HasNoCycle, HaveNoCycles, IsCircular, IsKindCircular, IsKindVerdict, IsFirstCycle, IsSpanAmong}

none_contained : (kind : Kind) → Contains [] kind → ⊥
none_contained kind c = let b = c.1 in omega arith

only : (kind k : Kind) → Contains (kind ∷ []) k → kind ≡ k
only kind k h = elim (Contains-push_cases [] kind k h) [ inl n ↦ absurd (none_contained k n) | inr e ↦ e ]

irreflexive : (p : Span) → IsBefore p p → ⊥
irreflexive p (inl h) = omega arith
irreflexive p (inr h) = let s = h.1 in omega arith

-- ---- one kind

-- an optional span is the first of itself
alone : (span : Option Span) → IsFirstOrNone (λ q. span ≡ Some q) span
alone None = λ q e. absurd (cc)
alone (Some p) = record {
  one = refl;
  first = λ other e b. (let same : other ≡ p = cc in irreflexive p (subst (λ (o : Span). IsBefore o p) same b));
}

pub no_span : (spans : List Span) (numbers : List ℕ) → IsFirstOrNone (IsSpanAmong spans (take 0 numbers)) None
no_span spans numbers span h = let b = h.1.1 in omega arith

-- the span at the next of some indices
pub next_span : (spans : List Span) (numbers : List ℕ) (n d : ℕ) (first span new : Option Span) → n < length numbers
    → span ≡ slice_get spans (get_or numbers n d) → IsEarlier first span new
    → IsFirstOrNone (IsSpanAmong spans (take n numbers)) first → IsFirstOrNone (IsSpanAmong spans (take (n + 1) numbers)) new
next_span spans numbers n d first span new b is e before =
    let next = get_or numbers n d in
    let taken : take (n + 1) numbers ≡ take n numbers ++ next ∷ [] = ap (λ (m : ℕ). take m numbers) (add-one n) ∙ take-suc numbers n d b in
    subst (λ (ns : List ℕ). IsFirstOrNone (IsSpanAmong spans ns) new) (sym taken)
    (first_renamed (λ q. IsSpanAmong spans (take n numbers) q ⊎ (span ≡ Some q)) (IsSpanAmong spans (take n numbers ++ next ∷ [])) new
    (λ q h. elim h [
      | inl x ↦ (x.0, Contains-append_left (take n numbers) (next ∷ []) x.0 x.1, x.2)
      | inr y ↦ (next, Contains-push (take n numbers) next, sym is ∙ y)
    ])
    (λ q h. elim (Contains-push_cases (take n numbers) next h.0 h.1) [
      | inl c ↦ inl (h.0, c, h.2)
      | inr c ↦ inr (is ∙ ap (λ (i : ℕ). slice_get spans i) c ∙ h.2)
    ])
    (first_of_both (IsSpanAmong spans (take n numbers)) (λ q. span ≡ Some q) first span new before (alone span) e))

-- an edge begins at each index that leads back to itself
back_below : (count : ℕ) (edges : List Edge) → All (IsWithin count) edges → (i j : ℕ) → Leads edges i j → i < count
back_below count edges within i j (Directly e) =
    (All-contains (IsWithin count) edges (record { from = i; to = j }) within e).begins
back_below count edges within i j (Over {j = k} e r) =
    (All-contains (IsWithin count) edges (record { from = i; to = k }) within e).begins

stands : {A : Type 0} (xs : List A) (n : ℕ) → n < length xs → (x : A) × (slice_get xs n ≡ Some x)
stands [] n b = absurd (omega arith)
stands (x ∷ xs) n b = (get_or (x ∷ xs) n x, slice_get-get_or (x ∷ xs) n x b)

decided : (kind : Kind) (numbers : List ℕ) (found : Option Span) → All (IsWithin (length kind.spans)) kind.edges
    → ((i : ℕ) → Contains numbers i ↔ LeadsBack kind.edges i)
    → IsFirstOrNone (IsSpanAmong kind.spans numbers) found → IsKindVerdict kind found
decided kind numbers None within exact f = λ i back.
    (let there = stands kind.spans i (back_below (length kind.spans) kind.edges within i i back) in
    f there.0 (i, (exact i).1 back, there.1))
decided kind numbers (Some span) within exact f =
    first_renamed (IsSpanAmong kind.spans numbers) (IsKindCircular kind) (Some span)
    (λ q h. (h.0, h.2, (exact h.0).0 h.1))
    (λ q h. (h.0, (exact h.0).1 h.2, h.1))
    f

-- the same for the values that the code reads
pub verdict : (kind : Kind) (count : ℕ) (edges : List Edge) (items numbers : List ℕ) (found : Option Span)
    → All (IsWithin count) kind.edges → length kind.spans ≡ count → edges ≡ kind.edges → numbers ≡ items
    → ((i : ℕ) → Contains items i ↔ LeadsBack edges i)
    → IsFirstOrNone (IsSpanAmong kind.spans numbers) found → IsKindVerdict kind found
verdict kind count edges items numbers found within size is read exact f =
    decided kind items found
    (subst (λ (n : ℕ). All (IsWithin n) kind.edges) (sym size) within)
    (subst (λ (es : List Edge). (i : ℕ) → Contains items i ↔ LeadsBack es i) is exact)
    (subst (λ (ns : List ℕ). IsFirstOrNone (IsSpanAmong kind.spans ns) found) read f)

-- ---- several kinds

pub of_one : (kind : Kind) (found : Option Span) → IsKindVerdict kind found → IsFirstCycle (kind ∷ []) found
of_one kind None v = record {
  clear = λ e. All-push HasNoCycle [] kind (All-nil HasNoCycle) v;
  first = λ p h. (let f = h.2 in (subst (λ (x : Kind). HasNoCycle x) (only kind h.0 h.1) v) f.0 f.2);
}
of_one kind (Some span) v = record {
  clear = λ e. absurd (cc);
  first = record {
    one = (kind, Contains-push [] kind, v.one);
    first = λ other h. v.first other (subst (λ (k : Kind). IsKindCircular k other) (sym (only kind h.0 h.1)) h.2);
  };
}

-- the earlier of two spans is missing only if both are
none_of_both : (a b : Option Span) → IsEarlier a b None → (a ≡ None) × (b ≡ None)
none_of_both None None e = (refl, refl)
none_of_both None (Some q) e = absurd (cc)
none_of_both (Some p) None e = absurd (cc)
none_of_both (Some p) (Some q) (inl e) = (let x = e.1 in absurd (cc))
none_of_both (Some p) (Some q) (inr e) = (let x = e.1 in absurd (cc))

pub of_both : (xs ys : List Kind) (a b o : Option Span)
    → IsFirstCycle xs a → IsFirstCycle ys b → IsEarlier a b o → IsFirstCycle (xs ++ ys) o
of_both xs ys a b o f g e = record {
  clear = λ n. (let m = none_of_both a b (subst (λ (x : Option Span). IsEarlier a b x) n e) in All-append HasNoCycle xs ys (f.clear m.0) (g.clear m.1));
  first = first_renamed (λ q. IsCircular xs q ⊎ IsCircular ys q) (IsCircular (xs ++ ys)) o
      (λ q h. elim h [
        | inl x ↦ (x.0, Contains-append_left xs ys x.0 x.1, x.2)
        | inr y ↦ (y.0, Contains-append_right xs ys y.0 y.1, y.2)
      ])
      (λ q h. elim (Contains-append_cases xs ys h.0 h.1) [
        | inl c ↦ inl (h.0, c, h.2)
        | inr c ↦ inr (h.0, c, h.2)
      ])
      (first_of_both (IsCircular xs) (IsCircular ys) a b o f.first g.first e);
}

pub answered : (kinds : List Kind) (o : Option Span) → IsFirstCycle kinds o
    → MatchOption o (HaveNoCycles kinds) (IsFirst (IsCircular kinds))
answered kinds None f = f.clear refl
answered kinds (Some span) f = f.first
