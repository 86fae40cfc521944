-- Graphs built from edges, and reachability in them.
use Rattle.std.proofs.Common.{◌≡◌, ℕ, ◌+◌, ◌<◌, inl, inr, List, [], ◌∷◌, ◌++◌, length, get_or, set, take, replicate, add-one, sym, ◌∙◌, ap, subst, arith}
use Rattle.std.specs.Prelude.{All, Contains, ◌↔◌}
use Rattle.std.proofs.Math.Seq.{take-suc}
use Rattle.std.proofs.lemmas.List.Elements.{Contains-push, Contains-push_cases, Contains-append_left}
use Rattle.base.specs.GraphReachability as graph
use Rattle.base.proofs.EdgeLemmas.{edge_kept, edge_new, edge_pushed, no_edge}
use Rattle.declaration_cycles.specs.declared.edges.Edge.{Edge}
use Rattle.declaration_cycles.specs.Leading.{Leads, Directly, Over, LeadsBack}
use Rattle.declaration_cycles.specs.Within.{HasEdgesOf, IsWithin}

pub no_edges : (count : ℕ) → HasEdgesOf (replicate count []) []
no_edges count = record {
  there = λ i j h. (let b = h.1 in absurd (omega arith));
  back = λ i j h. absurd (no_edge count i j h);
}

pub more_edges : (numbers : List (List ℕ)) (edges : List Edge) (edge : Edge) → edge.from < length numbers
    → HasEdgesOf numbers edges
    → HasEdgesOf (set numbers edge.from (get_or numbers edge.from [] ++ edge.to ∷ [])) (edges ++ edge ∷ [])
more_edges numbers edges edge b h = record {
  there = λ i j c. elim (Contains-push_cases edges edge (record { from = i; to = j }) c) [
    | inl old ↦ edge_kept numbers edge.from edge.to i j (h.there i j old)
    | inr new ↦ (
        let from = ap (λ (e : Edge). e.from) new in
        let to = ap (λ (e : Edge). e.to) new in
        subst (λ (x : ℕ). graph.IsEdge (set numbers edge.from (get_or numbers edge.from [] ++ edge.to ∷ [])) x j) from
        (subst (λ (y : ℕ). graph.IsEdge (set numbers edge.from (get_or numbers edge.from [] ++ edge.to ∷ [])) edge.from y) to
        (edge_new numbers edge.from edge.to b)))
  ];
  back = λ i j e. elim (edge_pushed numbers edge.from edge.to i j b e) [
    | inl old ↦ Contains-append_left edges (edge ∷ []) (record { from = i; to = j }) (h.back i j old)
    | inr new ↦ (
        let same : edge ≡ record { from = i; to = j } = (λ k. record { from = sym new.0 k; to = sym new.1 k }) in
        subst (λ (x : Edge). Contains (edges ++ edge ∷ []) x) same (Contains-push edges edge))
  ];
}

module _ (numbers : List (List ℕ)) (edges : List Edge) (h : HasEdgesOf numbers edges) where
  reaches_there : {i j : ℕ} → Leads edges i j → graph.Reaches numbers i j
  reaches_there {i} {j} (Directly e) = graph.Along (h.there i j e) graph.Here
  reaches_there {i} {j} (Over {j = k} e r) = graph.Along (h.there i k e) (reaches_there r)

  pub leads_there : {i j : ℕ} → Leads edges i j → graph.Leads numbers i j
  leads_there {i} {j} (Directly e) = (j, h.there i j e, graph.Here)
  leads_there {i} {j} (Over {j = k} e r) = (k, h.there i k e, reaches_there r)

  leads_along : (i : ℕ) {k j : ℕ} → graph.IsEdge numbers i k → graph.Reaches numbers k j → Leads edges i j
  leads_along i {k} {j} e graph.Here = Directly (h.back i k e)
  leads_along i {k} {j} e (graph.Along {j = m} f r) = Over (h.back i k e) (leads_along k f r)

  pub leads_back : (i j : ℕ) → graph.Leads numbers i j → Leads edges i j
  leads_back i j l = leads_along i l.1 l.2

  pub same_back : (numbers_found : List ℕ) → ((i : ℕ) → Contains numbers_found i ↔ graph.IsOnCycle numbers i) → (i : ℕ) → Contains numbers_found i ↔ LeadsBack edges i
  same_back numbers_found f i = (λ c. leads_back i i ((f i).0 c), λ l. (f i).1 (leads_there l))

-- one more of the edges
pub next_edge : (numbers new : List (List ℕ)) (edges : List Edge) (n count : ℕ) (d : Edge) → n < length edges → length numbers ≡ count → All (IsWithin count) edges
    → new ≡ set numbers (get_or edges n d).from (get_or numbers (get_or edges n d).from [] ++ (get_or edges n d).to ∷ [])
    → HasEdgesOf numbers (take n edges) → HasEdgesOf new (take (n + 1) edges)
next_edge numbers new edges n count d b size within put h =
    let w = within n d b in
    let begins = w.begins in
    let more = more_edges numbers (take n edges) (get_or edges n d) (omega arith) h in
    let taken = ap (λ (m : ℕ). take m edges) (add-one n) ∙ take-suc edges n d b in
    subst (λ (g : List (List ℕ)). HasEdgesOf g (take (n + 1) edges)) (sym put)
    (subst (λ (es : List Edge). HasEdgesOf (set numbers (get_or edges n d).from (get_or numbers (get_or edges n d).from [] ++ (get_or edges n d).to ∷ [])) es) (sym taken) more)
