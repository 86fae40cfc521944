-- Membership in lists of edges that are made piece by piece.
use Rattle.std.proofs.Common.{◌≡◌, inl, inr, ℕ, zero, suc, ◌+◌, ◌<◌, List, [], ◌∷◌, ◌++◌, length, get_or, map, Option, Some, None, refl, sym, ap, subst, ◌∙◌, arith, append_assoc, append-nil}
use Rattle.std.specs.Prelude.{Contains}
use Rattle.std.proofs.lemmas.Bool.{cases_lt}
use Rattle.std.proofs.lemmas.List.Elements.{Contains-append_left, Contains-append_right, Contains-append_cases}
use Rattle.base.specs.declared.marked_cycles.edge.MarkedEdge.{MarkedEdge}
use Rattle.ability_rules.specs.Edges.{of_option, pieces}

pub not_in_none : (e : MarkedEdge) → Contains [] e → ⊥
not_in_none e c = let b = c.1 in omega (arith, b)

pub in_one : (x e : MarkedEdge) → Contains (x ∷ []) e → e ≡ x
in_one x e c = go c.0 c.1 c.2
  where
    go : (k : ℕ) → k < length (x ∷ []) → get_or (x ∷ []) k e ≡ e → e ≡ x
    go zero b h = sym h
    go (suc k) b h = absurd (omega (arith, b))

pub has_one : (x e : MarkedEdge) → e ≡ x → Contains (x ∷ []) e
has_one x e h = (0, omega arith, sym h)

pub in_pieces : (f : ℕ → List MarkedEdge) (n : ℕ) (e : MarkedEdge) → Contains (pieces f n) e → (k : ℕ) × (k < n) × Contains (f k) e
in_pieces f zero e c = absurd (not_in_none e c)
in_pieces f (suc n) e c = elim (Contains-append_cases (pieces f n) (f n) e c) [
  | inl old ↦ (let r = in_pieces f n e old in let b = r.1 in (r.0, omega (arith, b), r.2))
  | inr new ↦ (n, omega arith, new)
]

pub has_piece : (f : ℕ → List MarkedEdge) (n k : ℕ) (e : MarkedEdge) → k < n → Contains (f k) e → Contains (pieces f n) e
has_piece f zero k e b c = absurd (omega (arith, b))
has_piece f (suc n) k e b c = elim (cases_lt k n) [
  | inl lt ↦ Contains-append_left (pieces f n) (f n) e (has_piece f n k e lt c)
  | inr le ↦ Contains-append_right (pieces f n) (f n) e (subst (λ (m : ℕ). Contains (f m) e) (let s : k ≡ n = omega (arith, le, b) in s) c)
]

pub in_option : {A : Type 0} (f : A → List MarkedEdge) (o : Option A) (e : MarkedEdge) → Contains (of_option f o) e → (a : A) × (o ≡ Some a) × Contains (f a) e
in_option f None e c = absurd (not_in_none e c)
in_option f (Some a) e c = (a, refl, c)

pub has_option : {A : Type 0} (f : A → List MarkedEdge) (o : Option A) (a : A) (e : MarkedEdge) → o ≡ Some a → Contains (f a) e → Contains (of_option f o) e
has_option f o a e h c = subst (λ (x : Option _). Contains (of_option f x) e) (sym h) c

pub in_mapped : (f : ℕ → MarkedEdge) (ms : List ℕ) (e : MarkedEdge) → Contains (map f ms) e → (m : ℕ) × Contains ms m × (e ≡ f m)
in_mapped f [] e c = absurd (not_in_none e c)
in_mapped f (m ∷ ms) e c = elim (Contains-append_cases (f m ∷ []) (map f ms) e c) [
  | inl here ↦ (m, (0, omega arith, refl), in_one (f m) e here)
  | inr more ↦ (let r = in_mapped f ms e more in (r.0, Contains-append_right (m ∷ []) ms r.0 r.1, r.2))
]

pub has_mapped : (f : ℕ → MarkedEdge) (ms : List ℕ) (m : ℕ) (e : MarkedEdge) → Contains ms m → e ≡ f m → Contains (map f ms) e
has_mapped f [] m e c h = absurd (let b = c.1 in omega (arith, b))
has_mapped f (x ∷ ms) m e c h = elim (Contains-append_cases (x ∷ []) ms m c) [
  | inl here ↦ Contains-append_left (f x ∷ []) (map f ms) e (has_one (f x) e (h ∙ ap f (alone here.0 here.1 here.2)))
  | inr more ↦ Contains-append_right (f x ∷ []) (map f ms) e (has_mapped f ms m e more h)
]
  where
    alone : (k : ℕ) → k < length (x ∷ []) → get_or (x ∷ []) k m ≡ m → m ≡ x
    alone zero b s = sym s
    alone (suc k) b s = absurd (omega (arith, b))

-- ---- loops

pub nothing_yet : (xs : List MarkedEdge) (f : ℕ → List MarkedEdge) → xs ≡ xs ++ pieces f 0
nothing_yet xs f = sym (append-nil xs)

pub one_more : (f : ℕ → List MarkedEdge) (n : ℕ) (start now new : List MarkedEdge) → now ≡ start ++ pieces f n → new ≡ now ++ f n → new ≡ start ++ pieces f (n + 1)
one_more f n start now new old more =
    more ∙ ap (λ (xs : List MarkedEdge). xs ++ f n) old ∙ append_assoc start (pieces f n) (f n) ∙ ap (λ (k : ℕ). start ++ pieces f k) (let s : suc n ≡ n + 1 = omega arith in s)

pub option_none : {A : Type 0} (f : A → List MarkedEdge) (xs : List MarkedEdge) (o : Option A) → o ≡ None → xs ≡ xs ++ of_option f o
option_none f xs o h = sym (append-nil xs) ∙ ap (λ (x : Option _). xs ++ of_option f x) (sym h)

pub option_some : {A : Type 0} (f : A → List MarkedEdge) (xs ys : List MarkedEdge) (o : Option A) (a : A) → o ≡ Some a → ys ≡ xs ++ f a → ys ≡ xs ++ of_option f o
option_some f xs ys o a h e = e ∙ ap (λ (x : Option _). xs ++ of_option f x) (sym h)
