-- A vertex reaches a marked one if and only if it is on a cycle through the last vertex.
use Rattle.std.proofs.Common.{◌≡◌, ℕ, zero, suc, ◌+◌, ◌<◌, ◌≤◌, ◌⊎◌, inl, inr, Bool, true, false, ◌||◌, List, [], ◌∷◌, ◌++◌, length, get_or, refl, sym, ap, ◌∙◌, subst, arith}
use Rattle.std.specs.Prelude.{◌↔◌, IsTrue, Contains, All, slice_index_or}
use Rattle.std.proofs.lemmas.List.Elements.{All-contains, Contains-append_cases, Contains-append_left, Contains-append_right, Contains-get_or, Contains-push, Contains-push_cases}
use Rattle.std.proofs.lemmas.Bool.{cases_lt}
use Rattle.base.specs.declared.marked_cycles.edge.MarkedEdge.{MarkedEdge}
use Rattle.base.specs.MarkedCycles as M
use Rattle.type_check.specs.Leading.{Path, End, Along, LeadsToMark, AreUnmarked, HasLast, edge}

from_is : (i j k l : ℕ) (m n : Bool) → edge i j m ≡ edge k l n → i ≡ k
from_is i j k l m n e = ap (λ (x : MarkedEdge). x.from) e

pub inside : (marks : List Bool) (k : ℕ) → IsTrue (slice_index_or marks k false) → k < length marks
inside [] k is = absurd (let e : false ≡ true = is in cc)
inside (m ∷ marks) zero is = omega arith
inside (m ∷ marks) (suc k) is = (let below = inside marks k is in omega (arith, below))

both_false : (a b : Bool) → a ≡ false → b ≡ false → (a || b) ≡ false
both_false a b e f = ap (λ (x : Bool). x || b) e ∙ f

true_false : true ≡ false → ⊥
true_false e = cc

module _ (edges all : List MarkedEdge) (marks : List Bool) (h : HasLast edges marks all (length marks) (length marks)) (unmarked : AreUnmarked edges) (within : All (M.IsWithin (length marks)) edges) where
  abbrev N : ℕ
  N = length marks

  marked_within : (k : ℕ) → IsTrue (slice_index_or marks k false) → k < N
  marked_within k is = inside marks k is

  toward : (n i k : ℕ) → n < N → Path edges i k → IsTrue (slice_index_or marks k false) → M.Leads all i n true
  toward n i k lt End is = M.Over (h.ends i (marked_within i is) is) (M.Directly (h.back n lt))
  toward n i k lt (Along {j = j} e p) is = M.Over (h.stays (edge i j false) e) (toward n j k lt p is)

  no_mark : (i j : ℕ) (m : Bool) → M.IsEdge edges i j m → m ≡ false
  no_mark i j true e = absurd (unmarked i j e)
  no_mark i j false e = refl

  edge_within : (i j : ℕ) (m : Bool) → M.IsEdge edges i j m → j < N
  edge_within i j m e = (All-contains (M.IsWithin (length marks)) edges (edge i j m) within e).ends

  away : (i j : ℕ) (m : Bool) → i < N → M.Leads all i j m → LeadsToMark edges marks i ⊎ (m ≡ false)
  away i j m lt (M.Directly e) = elim (h.only (edge i j m) e) [
    | inl old ↦ inr (no_mark i j m old)
    | inr last ↦ elim last.1.1 [
      | inl same ↦ (let f = from_is i j N last.0 m true same in absurd (omega (arith, lt, f)))
      | inr mark ↦ inl (record { last = i; within = End; marked = subst (λ (k : ℕ). IsTrue (slice_index_or marks k false)) (sym (from_is i j last.0 N m false mark.1)) mark.0 })
    ]
  ]
  away i k m lt (M.Over {j = j} {one = one} {more = more} e rest) = elim (h.only (edge i j one) e) [
    | inl old ↦ elim (away j k more (edge_within i j one old) rest) [
      | inl w ↦ inl (record { last = w.last; within = Along (subst (λ (b : Bool). M.IsEdge edges i j b) (no_mark i j one old) old) w.within; marked = w.marked })
      | inr none ↦ inr (both_false one more (no_mark i j one old) none)
    ]
    | inr last ↦ elim last.1.1 [
      | inl same ↦ (let f = from_is i j N last.0 one true same in absurd (omega (arith, lt, f)))
      | inr mark ↦ inl (record { last = i; within = End; marked = subst (λ (n : ℕ). IsTrue (slice_index_or marks n false)) (sym (from_is i j last.0 N one false mark.1)) mark.0 })
    ]
  ]

  pub cycle_is : (n : ℕ) → n < N → M.IsOnMarkedCycle all n ↔ LeadsToMark edges marks n
  cycle_is n lt = (
    (λ c. elim (away n n true lt c) [ inl w ↦ w | inr none ↦ absurd (true_false none) ]),
    (λ w. toward n n w.last lt w.within w.marked),
  )

-- ---- the edges with the last vertex, one vertex after another

none_contained : {A : Type 0} (x : A) → Contains [] x → ⊥
none_contained x c = let b = c.1 in omega arith

pub last_begins : (edges : List MarkedEdge) (marks : List Bool) (all : List MarkedEdge) (last : ℕ) → all ≡ edges → HasLast edges marks all last 0
last_begins edges marks all last e = record {
  stays = λ x c. subst (λ (es : List MarkedEdge). Contains es x) (sym e) c;
  back = λ k lt. absurd (omega (arith, lt));
  ends = λ k lt is. absurd (omega (arith, lt));
  only = λ x c. inl (subst (λ (es : List MarkedEdge). Contains es x) e c);
}

last_is : (k n : ℕ) → k < n + 1 → (k < n) ⊎ (k ≡ n)
last_is k n lt = elim (cases_lt k n) [ inl below ↦ inl below | inr other ↦ inr (omega (arith, lt, other)) ]

-- the edges that are appended for one vertex
pub record IsMore (marks : List Bool) (last n : ℕ) (more : List MarkedEdge) : Type 0 where
  pub back : Contains more (edge last n true)
  pub ends : IsTrue (slice_index_or marks n false) → Contains more (edge n last false)
  pub only : (e : MarkedEdge) → Contains more e → (e ≡ edge last n true) ⊎ (IsTrue (slice_index_or marks n false) × (e ≡ edge n last false))

pub last_more : (edges : List MarkedEdge) (marks : List Bool) (all new more : List MarkedEdge) (last n : ℕ) → HasLast edges marks all last n → IsMore marks last n more → new ≡ all ++ more
    → HasLast edges marks new last (n + 1)
last_more edges marks all new more last n h m e = record {
  stays = λ x c. there x (Contains-append_left all more x (h.stays x c));
  back = λ k lt. elim (last_is k n lt) [
    | inl below ↦ there (edge last k true) (Contains-append_left all more (edge last k true) (h.back k below))
    | inr here ↦ subst (λ (j : ℕ). Contains new (edge last j true)) (sym here) (there (edge last n true) (Contains-append_right all more (edge last n true) m.back))
  ];
  ends = λ k lt is. elim (last_is k n lt) [
    | inl below ↦ there (edge k last false) (Contains-append_left all more (edge k last false) (h.ends k below is))
    | inr here ↦ subst (λ (j : ℕ). Contains new (edge j last false)) (sym here)
        (there (edge n last false) (Contains-append_right all more (edge n last false) (m.ends (subst (λ (j : ℕ). IsTrue (slice_index_or marks j false)) here is))))
  ];
  only = λ x c. elim (Contains-append_cases all more x (subst (λ (es : List MarkedEdge). Contains es x) e c)) [
    | inl old ↦ elim (h.only x old) [
      | inl first ↦ inl first
      | inr w ↦ inr (w.0, ((let below = w.1.0 in omega (arith, below)), w.1.1))
    ]
    | inr added ↦ inr (n, (omega arith, m.only x added))
  ];
}
  where
    there : (x : MarkedEdge) → Contains (all ++ more) x → Contains new x
    there x c = subst (λ (es : List MarkedEdge). Contains es x) (sym e) c

pub more_marked : (marks : List Bool) (last n : ℕ) → slice_index_or marks n false ≡ true → IsMore marks last n (edge last n true ∷ edge n last false ∷ [])
more_marked marks last n flag = record {
  back = Contains-append_left (edge last n true ∷ []) (edge n last false ∷ []) (edge last n true) (Contains-push [] (edge last n true));
  ends = λ is. Contains-push (edge last n true ∷ []) (edge n last false);
  only = λ e c. elim (Contains-push_cases (edge last n true ∷ []) (edge n last false) e c) [
    | inl first ↦ elim (Contains-push_cases [] (edge last n true) e first) [ inl none ↦ absurd (none_contained e none) | inr same ↦ inl (sym same) ]
    | inr same ↦ inr (flag, sym same)
  ];
}

pub more_unmarked : (marks : List Bool) (last n : ℕ) → slice_index_or marks n false ≡ false → IsMore marks last n (edge last n true ∷ [])
more_unmarked marks last n flag = record {
  back = Contains-push [] (edge last n true);
  ends = λ is. absurd (true_false (sym is ∙ flag));
  only = λ e c. elim (Contains-push_cases [] (edge last n true) e c) [ inl none ↦ absurd (none_contained e none) | inr same ↦ inl (sym same) ];
}

-- all edges are between the vertices and the last one
pub last_within : (edges : List MarkedEdge) (marks : List Bool) (all : List MarkedEdge) (last count : ℕ) → HasLast edges marks all last count → count ≤ last → All (M.IsWithin last) edges → All (M.IsWithin (last + 1)) all
last_within edges marks all last count h le within = λ k d lt.
    let e : MarkedEdge = get_or all k d in
    elim (h.only e (Contains-get_or all k d lt)) [
      | inl old ↦ (let w = All-contains (M.IsWithin last) edges e within old in let b = w.begins in let f = w.ends in record { begins = omega (arith, b); ends = omega (arith, f) })
      | inr w ↦ (let below = w.1.0 in elim w.1.1 [
        | inl same ↦ subst (M.IsWithin (last + 1)) (sym same) (record { begins = omega arith; ends = omega (arith, below, le) })
        | inr marked ↦ subst (M.IsWithin (last + 1)) (sym marked.1) (record { begins = omega (arith, below, le); ends = omega arith })
      ])
    ]
