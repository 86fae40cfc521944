-- Graphs of given edges, and their paths.
use Rattle.std.proofs.Common.{◌≡◌, ℕ, ◌+◌, ◌<◌, ◌⊎◌, inl, inr, Bool, true, false, ◌||◌, List, [], ◌∷◌, ◌++◌, length, get_or, set, take, replicate, add-one, refl, sym, ◌∙◌, ap, subst, arith}
use Rattle.std.specs.Prelude.{All, Contains}
use Rattle.std.proofs.Math.Seq.{take-suc}
use Rattle.std.proofs.Math.Bool.{or_assoc}
use Rattle.std.proofs.lemmas.List.Elements.{Contains-push, Contains-push_cases, Contains-append_left}
use Rattle.base.specs.GraphReachability as graph
use Rattle.base.proofs.EdgeLemmas.{edge_kept, edge_new, edge_pushed, no_edge}
use Rattle.base.specs.declared.marked_cycles.edge.MarkedEdge.{MarkedEdge}
use Rattle.base.specs.MarkedCycles.{IsEdge, IsWithin, Leads, Directly, Over}
use Rattle.base.specs.Graphs.{HasEdgesOf}

pub no_edges : (count : ℕ) → HasEdgesOf (replicate count []) []
no_edges count = record {
  there = λ i j m h. (let b = h.1 in absurd (omega arith));
  back = λ i j h. absurd (no_edge count i j h);
}

module _ (numbers : List (List ℕ)) (edges : List MarkedEdge) (edge : MarkedEdge) (b : edge.from < length numbers) (h : HasEdgesOf numbers edges) where
  abbrev more : List (List ℕ)
  more = set numbers edge.from (get_or numbers edge.from [] ++ edge.to ∷ [])

  there_more : (i j : ℕ) (m : Bool) → IsEdge (edges ++ edge ∷ []) i j m → graph.IsEdge more i j
  there_more i j m c = elim (Contains-push_cases edges edge (record { from = i; to = j; is_marked = m }) c) [
    | inl old ↦ edge_kept numbers edge.from edge.to i j (h.there i j m old)
    | inr new ↦ (
        let from = ap (λ (e : MarkedEdge). e.from) new in
        let to = ap (λ (e : MarkedEdge). e.to) new in
        subst (λ (x : ℕ). graph.IsEdge more x j) from
        (subst (λ (y : ℕ). graph.IsEdge more edge.from y) to
        (edge_new numbers edge.from edge.to b)))
  ]

  back_more : (i j : ℕ) → graph.IsEdge more i j → (m : Bool) × IsEdge (edges ++ edge ∷ []) i j m
  back_more i j e = elim (edge_pushed numbers edge.from edge.to i j b e) [
    | inl old ↦ (let o = h.back i j old in (o.0, Contains-append_left edges (edge ∷ []) (record { from = i; to = j; is_marked = o.0 }) o.1))
    | inr new ↦ (
        let same : edge ≡ record { from = i; to = j; is_marked = edge.is_marked } = (λ k. record { from = sym new.0 k; to = sym new.1 k; is_marked = edge.is_marked }) in
        (edge.is_marked, subst (λ (x : MarkedEdge). Contains (edges ++ edge ∷ []) x) same (Contains-push edges edge)))
  ]

  more_edges : HasEdgesOf more (edges ++ edge ∷ [])
  more_edges = record { there = there_more; back = back_more }

-- one more edge
pub next_edge : (numbers new : List (List ℕ)) (edges : List MarkedEdge) (n count : ℕ) (d : MarkedEdge) → n < length edges → length numbers ≡ count → All (IsWithin count) edges
    → new ≡ set numbers (get_or edges n d).from (get_or numbers (get_or edges n d).from [] ++ (get_or edges n d).to ∷ [])
    → HasEdgesOf numbers (take n edges) → HasEdgesOf new (take (n + 1) edges)
next_edge numbers new edges n count d b size within put h =
    let w = within n d b in
    let begins = w.begins in
    let more = more_edges numbers (take n edges) (get_or edges n d) (omega arith) h in
    let taken = ap (λ (m : ℕ). take m edges) (add-one n) ∙ take-suc edges n d b in
    subst (λ (g : List (List ℕ)). HasEdgesOf g (take (n + 1) edges)) (sym put)
    (subst (λ (es : List MarkedEdge). HasEdgesOf (set numbers (get_or edges n d).from (get_or numbers (get_or edges n d).from [] ++ (get_or edges n d).to ∷ [])) es) (sym taken) more)

or_true : (b : Bool) → (b || true) ≡ true
or_true true = refl
or_true false = refl

-- ---- paths

module _ (edges : List MarkedEdge) where
  pub leads_join : {i j k : ℕ} {m n : Bool} → Leads edges i j m → Leads edges j k n → Leads edges i k (m || n)
  leads_join (Directly e) q = Over e q
  leads_join {i} {j} {k} {m} {n} (Over {one = one} {more = more} e p) q =
      subst (λ (b : Bool). Leads edges i k b) (sym (or_assoc one more n)) (Over e (leads_join p q))

module _ (numbers : List (List ℕ)) (edges : List MarkedEdge) (h : HasEdgesOf numbers edges) where
  pub leads_reaches : {i j : ℕ} {m : Bool} → Leads edges i j m → graph.Reaches numbers i j
  leads_reaches {i} {j} {m} (Directly e) = graph.Along (h.there i j m e) graph.Here
  leads_reaches {i} {j} {m} (Over {j = k} {one = one} e p) = graph.Along (h.there i k one e) (leads_reaches p)

  -- what is reached is the number itself, or the end of a path of at least one edge
  pub reaches_leads : {i j : ℕ} → graph.Reaches numbers i j → (i ≡ j) ⊎ ((m : Bool) × Leads edges i j m)
  reaches_leads graph.Here = inl refl
  reaches_leads {i} {j} (graph.Along {j = k} e r) =
      let o = h.back i k e in
      elim (reaches_leads r) [
        | inl same ↦ inr (o.0, subst (λ (x : ℕ). Leads edges i x o.0) same (Directly o.1))
        | inr p ↦ inr (o.0 || p.0, Over o.1 p.1)
      ]

  -- a path over a marked edge
  pub record IsOver (i j : ℕ) : Type 0 where
    pub from : ℕ
    pub to : ℕ
    pub edge : IsEdge edges from to true
    pub before : graph.Reaches numbers i from
    pub after : graph.Reaches numbers to j

  over_more : (i k j : ℕ) → graph.IsEdge numbers i k → IsOver k j → IsOver i j
  over_more i k j e o = record { from = o.from; to = o.to; edge = o.edge; before = graph.Along e o.before; after = o.after }

  pub marked_over : {i j : ℕ} {m : Bool} → Leads edges i j m → m ≡ true → IsOver i j
  marked_over {i} {j} {m} (Directly e) q = record { from = i; to = j; edge = subst (λ (b : Bool). IsEdge edges i j b) q e; before = graph.Here; after = graph.Here }
  marked_over {i} {j} {m} (Over {j = k} {one = true} e p) q = record { from = i; to = k; edge = e; before = graph.Here; after = leads_reaches p }
  marked_over {i} {j} {m} (Over {j = k} {one = false} e p) q = over_more i k j (h.there i k false e) (marked_over p q)

  -- the number reaches the start of the edge, and the end of the edge reaches the number
  pub around : (i : ℕ) (e : MarkedEdge) → Contains edges e → e.is_marked ≡ true → graph.Reaches numbers i e.from → graph.Reaches numbers e.to i → Leads edges i i true
  around i e c q before after =
      let one : Leads edges e.from e.to true = Directly (subst (λ (b : Bool). IsEdge edges e.from e.to b) q c) in
      let begun : Leads edges i e.to true = (elim (reaches_leads before) [
        | inl same ↦ subst (λ (x : ℕ). Leads edges x e.to true) (sym same) one
        | inr p ↦ subst (λ (b : Bool). Leads edges i e.to b) (or_true p.0) (leads_join edges p.1 one)
      ]) in
      elim (reaches_leads after) [
        | inl same ↦ subst (λ (x : ℕ). Leads edges i x true) same begun
        | inr p ↦ leads_join edges begun p.1
      ]
