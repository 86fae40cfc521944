-- The edges of a graph without edges, and of a graph with one more edge.
use Rattle.std.proofs.Common.{◌≡◌, ℕ, ◌<◌, ◌-◌, ◌⊎◌, inl, inr, List, [], ◌∷◌, ◌++◌, length, get_or, set, take, replicate, true, false, Result, Ok, Err, OnOk, OnErr, refl, sym, ◌∙◌, ap, subst, arith}
use Rattle.std.proofs.lemmas.List.{get_or-set_other, get_or_past, length-set, length_push, get_or_append_left, get_or_push, length-replicate, get_or-replicate, set-set, set-get_or, take_at}
use Rattle.std.specs.Result.{is_err}
use Rattle.std.proofs.lemmas.Grind.{get_or-set_at}
use Rattle.std.proofs.lemmas.Bool.{cases_eq, cases_lt}
use Rattle.base.specs.GraphReachability.{IsEdge, AreMirrored, IsWithin}

-- an edge begins and ends at a number of the graph
pub edge_begins : (graph : List (List ℕ)) (i j : ℕ) → IsEdge graph i j → i < length graph
edge_begins graph i j e = elim (cases_lt i (length graph)) [
  | inl h ↦ h
  | inr h ↦ (let n = ap (λ (xs : List ℕ). length xs) (get_or_past graph i [] h) in let b = e.1 in absurd (omega arith))
]

pub sources_within : (graph sources : List (List ℕ)) → AreMirrored graph sources → IsWithin sources
sources_within graph sources m j i e =
    let b = edge_begins graph i j (m.back i j e) in
    let s = m.same in
    omega arith

-- ---- no edges

none_at : (count i : ℕ) → get_or (replicate {A = List ℕ} count []) i [] ≡ []
none_at count i = elim (cases_lt i count) [
  | inl h ↦ get_or-replicate count i [] [] h
  | inr h ↦ get_or_past (replicate {A = List ℕ} count []) i [] (let q = length-replicate {A = List ℕ} count [] in omega arith)
]

pub no_edge : (count i j : ℕ) → IsEdge (replicate count []) i j → ⊥
no_edge count i j e = let n = ap (λ (xs : List ℕ). length xs) (none_at count i) in let b = e.1 in omega arith

pub mirrored_none : (targets sources : List (List ℕ)) (count : ℕ) → targets ≡ replicate count [] → sources ≡ replicate count [] → AreMirrored targets sources
mirrored_none targets sources count t s = rw (t, s) (record {
  same = refl;
  within = λ i j e. absurd (no_edge count i j e);
  turned = λ i j e. absurd (no_edge count i j e);
  back = λ i j e. absurd (no_edge count j i e);
})

-- ---- one more edge

pub edge_kept : (graph : List (List ℕ)) (from to i j : ℕ) → IsEdge graph i j → IsEdge (set graph from (get_or graph from [] ++ to ∷ [])) i j
edge_kept graph from to i j e = elim (cases_eq i from) [
  | inl q ↦ (
      let b = edge_begins graph i j e in
      let old = ap (λ (x : ℕ). get_or graph x []) q in
      let new = get_or-set_at graph from i (get_or graph from [] ++ to ∷ []) [] q (omega arith) in
      let n = ap (λ (xs : List ℕ). length xs) new in
      let o = ap (λ (xs : List ℕ). length xs) old in
      let p = length_push (get_or graph from []) to in
      let l = e.1 in
      let m : e.0 < length (get_or graph from []) = omega arith in
      (e.0, omega arith, ap (λ (xs : List ℕ). get_or xs e.0 0) new ∙ get_or_append_left (get_or graph from []) (to ∷ []) 0 e.0 m ∙ ap (λ (xs : List ℕ). get_or xs e.0 0) (sym old) ∙ e.2))
  | inr d ↦ subst (λ (xs : List ℕ). (k : ℕ) × (k < length xs) × (get_or xs k 0 ≡ j)) (sym (get_or-set_other graph from i (get_or graph from [] ++ to ∷ []) [] d)) e
]

pub edge_new : (graph : List (List ℕ)) (from to : ℕ) → from < length graph → IsEdge (set graph from (get_or graph from [] ++ to ∷ [])) from to
edge_new graph from to b =
    let new = get_or-set_at graph from from (get_or graph from [] ++ to ∷ []) [] refl b in
    let n = ap (λ (xs : List ℕ). length xs) new in
    let p = length_push (get_or graph from []) to in
    (length (get_or graph from []), omega arith, ap (λ (xs : List ℕ). get_or xs (length (get_or graph from [])) 0) new ∙ get_or_push (get_or graph from []) to 0 (length (get_or graph from [])) refl)

pub edge_pushed : (graph : List (List ℕ)) (from to i j : ℕ) → from < length graph → IsEdge (set graph from (get_or graph from [] ++ to ∷ [])) i j → IsEdge graph i j ⊎ ((i ≡ from) × (j ≡ to))
edge_pushed graph from to i j b e = elim (cases_eq i from) [
  | inl q ↦ (
      let new = get_or-set_at graph from i (get_or graph from [] ++ to ∷ []) [] q b in
      let old = ap (λ (x : ℕ). get_or graph x []) q in
      let n = ap (λ (xs : List ℕ). length xs) new in
      let o = ap (λ (xs : List ℕ). length xs) old in
      let p = length_push (get_or graph from []) to in
      let l = e.1 in
      elim (cases_lt e.0 (length (get_or graph from []))) [
        | inl m ↦ inl (e.0, omega arith, ap (λ (xs : List ℕ). get_or xs e.0 0) old ∙ sym (get_or_append_left (get_or graph from []) (to ∷ []) 0 e.0 m) ∙ sym (ap (λ (xs : List ℕ). get_or xs e.0 0) new) ∙ e.2)
        | inr m ↦ inr (q, sym e.2 ∙ ap (λ (xs : List ℕ). get_or xs e.0 0) new ∙ get_or_push (get_or graph from []) to 0 e.0 (omega arith))
      ])
  | inr d ↦ inl (subst (λ (xs : List ℕ). (k : ℕ) × (k < length xs) × (get_or xs k 0 ≡ j)) (get_or-set_other graph from i (get_or graph from [] ++ to ∷ []) [] d) e)
]

pub mirrored_pushed : (graph sources : List (List ℕ)) (from to : ℕ) → from < length graph → to < length graph → AreMirrored graph sources → AreMirrored (set graph from (get_or graph from [] ++ to ∷ [])) (set sources to (get_or sources to [] ++ from ∷ []))
mirrored_pushed graph sources from to f t m =
    let s = m.same in
    let ts : to < length sources = omega arith in
    let lg = length-set graph from (get_or graph from [] ++ to ∷ []) in
    let ls = length-set sources to (get_or sources to [] ++ from ∷ []) in
    record {
      same = omega arith;
      within = λ i j e. elim (edge_pushed graph from to i j f e) [
        | inl o ↦ (let w = m.within i j o in omega arith)
        | inr n ↦ (let n1 = n.1 in omega arith)
      ];
      turned = λ i j e. elim (edge_pushed graph from to i j f e) [
        | inl o ↦ edge_kept sources to from j i (m.turned i j o)
        | inr n ↦ subst (λ (x : ℕ). IsEdge (set sources to (get_or sources to [] ++ from ∷ [])) x i) (sym n.1) (subst (λ (y : ℕ). IsEdge (set sources to (get_or sources to [] ++ from ∷ [])) to y) (sym n.0) (edge_new sources to from ts))
      ];
      back = λ i j e. elim (edge_pushed sources to from j i ts e) [
        | inl o ↦ edge_kept graph from to i j (m.back i j o)
        | inr n ↦ subst (λ (x : ℕ). IsEdge (set graph from (get_or graph from [] ++ to ∷ [])) x j) (sym n.1) (subst (λ (y : ℕ). IsEdge (set graph from (get_or graph from [] ++ to ∷ [])) from y) (sym n.0) (edge_new graph from to f))
      ];
    }

-- an item that is added at the end of a list and removed again
pub restored : (graph : List (List ℕ)) (i : ℕ) (read once taken : List ℕ) (x : ℕ) → i < length graph → read ≡ get_or graph i read → once ≡ read ++ x ∷ [] → taken ≡ take (length once - 1) once → set (set graph i once) i taken ≡ graph
restored graph i read once taken x b r o t =
    let p = length_push read x in
    let q = ap (λ (xs : List ℕ). length xs) o in
    let n : length once - 1 ≡ length read = omega arith in
    let front : take (length once - 1) once ≡ read = ap (λ (xs : List ℕ). take (length once - 1) xs) o ∙ take_at read (x ∷ []) (length once - 1) (sym n) in
    set-set graph i once taken ∙ ap (λ (xs : List ℕ). set graph i xs) (t ∙ front ∙ r) ∙ set-get_or graph i read

pub unchanged : (graph : List (List ℕ)) (i : ℕ) (read after : List ℕ) → read ≡ get_or graph i read → after ≡ read → set graph i after ≡ graph
unchanged graph i read after r e = ap (λ (xs : List ℕ). set graph i xs) (e ∙ r) ∙ set-get_or graph i read

-- ---- the cases of a result

pub on_ok : {T E : Type 0} (r : Result T E) (P : Type 0) → is_err r ≡ false → OnOk r P → P
on_ok (Ok x) P e h = h
on_ok (Err x) P e h = absurd (cc)

pub on_err : {T E : Type 0} (r : Result T E) (P : Type 0) → is_err r ≡ true → OnErr r P → P
on_err (Ok x) P e h = absurd (cc)
on_err (Err x) P e h = h

-- ---- below lengths

pub below_same : (i a b : ℕ) → a ≡ b → i < b → i < a
below_same i a b e l = omega arith
