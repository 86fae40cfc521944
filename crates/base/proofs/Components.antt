-- A number is on a cycle with a marked edge where its component contains a marked edge.
use Rattle.std.proofs.Common.{◌≡◌, ◌↔◌, ℕ, ◌<◌, Bool, true, false, List, length, get_or, refl, sym, ◌∙◌, ap, subst, arith}
use Rattle.std.specs.Prelude.{All, Contains}
use Rattle.std.specs.Bool.{IsTrue}
use Rattle.std.specs.List.{list_any}
use Rattle.std.proofs.lemmas.Bool.{and_from, and_parts, eq-eqb, eqb-true}
use Rattle.std.proofs.lemmas.List.Folds.{Any-from_list_any, list_any-from_Any}
use Rattle.base.specs.GraphReachability.{Reaches, Here, Along, AreTogether, AreRoots}
use Rattle.base.proofs.EdgeLemmas.{edge_begins}
use Rattle.base.proofs.ReachLemmas.{reach_join}
use Rattle.base.specs.declared.marked_cycles.edge.MarkedEdge.{MarkedEdge}
use Rattle.base.specs.MarkedCycles.{IsWithin, IsOnMarkedCycle}
use Rattle.base.specs.Graphs.{HasEdgesOf, marks_root}
use Rattle.base.proofs.MadeGraphs.{IsOver, marked_over, around}

module _ (numbers : List (List ℕ)) (edges : List MarkedEdge) (roots : List ℕ) (has : HasEdgesOf numbers edges) (are : AreRoots numbers roots) (within : All (IsWithin (length numbers)) edges) (i : ℕ) (b : i < length numbers) where
  abbrev root : ℕ → ℕ
  root j = get_or roots j 0

  together : (j : ℕ) → j < length numbers → root j ≡ root i → Reaches numbers i j
  together j d e = reach_join (are.led i b).there (subst (λ (x : ℕ). Reaches numbers x j) e (are.led j d).back)

  together_back : (j : ℕ) → j < length numbers → root j ≡ root i → Reaches numbers j i
  together_back j d e = reach_join (are.led j d).there (subst (λ (x : ℕ). Reaches numbers x i) (sym e) (are.led i b).back)

  edge_around : (e : MarkedEdge) → Contains edges e → marks_root roots (root i) e ≡ true → IsOnMarkedCycle edges i
  edge_around e c m =
      let p = and_parts e.is_marked _ m in
      let q = and_parts _ _ p.1 in
      let w = within c.0 e c.1 in
      let inside : IsWithin (length numbers) e = subst (λ (x : MarkedEdge). IsWithin (length numbers) x) c.2 w in
      around numbers edges has i e c p.0
      (together e.from inside.begins (eqb-true _ _ q.0))
      (together_back e.to inside.ends (eqb-true _ _ q.1))

  pub lies_on_cycle : list_any (marks_root roots (root i)) edges ≡ true → IsOnMarkedCycle edges i
  lies_on_cycle h =
      let a = Any-from_list_any (marks_root roots (root i)) edges h in
      edge_around a.1 (a.0, a.2, a.3) a.4

  marks_over : IsOver numbers edges has i i → list_any (marks_root roots (root i)) edges ≡ true
  marks_over o =
      let e : MarkedEdge = record { from = o.from; to = o.to; is_marked = true } in
      let begins : o.from < length numbers = edge_begins numbers o.from o.to (has.there o.from o.to true o.edge) in
      let w = within o.edge.0 e o.edge.1 in
      let inside : IsWithin (length numbers) e = subst (λ (x : MarkedEdge). IsWithin (length numbers) x) o.edge.2 w in
      let one = has.there o.from o.to true o.edge in
      let first : AreTogether numbers o.from i = record { there = Along one o.after; back = o.before } in
      let second : AreTogether numbers o.to i = record { there = o.after; back = reach_join o.before (Along one Here) } in
      let same = are.one o.from i begins b first in
      let other = are.one o.to i inside.ends b second in
      list_any-from_Any (marks_root roots (root i)) edges
      (o.edge.0, e, o.edge.1, o.edge.2, and_from _ _ (eq-eqb _ _ same) (eq-eqb _ _ other))

  pub cycle_on : IsOnMarkedCycle edges i → list_any (marks_root roots (root i)) edges ≡ true
  cycle_on l = marks_over (marked_over numbers edges has l refl)

-- the same for the values that the code reads
pub known_cycle : (numbers : List (List ℕ)) (edges : List MarkedEdge) (roots : List ℕ) (found : Bool) → HasEdgesOf numbers edges → AreRoots numbers roots → All (IsWithin (length numbers)) edges → (i : ℕ) → i < length numbers
    → found ≡ list_any (marks_root roots (get_or roots i 0)) edges → IsTrue found ↔ IsOnMarkedCycle edges i
known_cycle numbers edges roots found has are within i b e = (
  λ t. lies_on_cycle numbers edges roots has are within i b (sym e ∙ t),
  λ l. e ∙ cycle_on numbers edges roots has are within i b l,
)

module _ (numbers : List (List ℕ)) (edges : List MarkedEdge) (roots one two : List ℕ) (marks slice : List Bool) (has : HasEdgesOf numbers edges) (are : AreRoots numbers roots) (count : ℕ) (size : length numbers ≡ count) (within : All (IsWithin count) edges) (first : one ≡ roots) (second : two ≡ roots) (sliced : slice ≡ marks) where
  one_long : length one ≡ count
  one_long = ap (λ (xs : List ℕ). length xs) first ∙ are.same ∙ size

  two_long : length two ≡ count
  two_long = ap (λ (xs : List ℕ). length xs) second ∙ are.same ∙ size

  root_within : (i : ℕ) → i < count → get_or roots i 0 < count
  root_within i b = let w = are.within i (omega (arith, b, size)) in omega (arith, w, size)

  pub known_found : ((r : ℕ) → r < length one → get_or marks r false ≡ list_any (marks_root one r) edges) → (found : List Bool) → ((i : ℕ) → i < length two → get_or found i false ≡ get_or slice (get_or two i 0) false)
      → (i : ℕ) → i < count → IsTrue (get_or found i false) ↔ IsOnMarkedCycle edges i
  known_found marked found h i b =
      let w = root_within i b in
      known_cycle numbers edges roots (get_or found i false) has are (subst (λ (n : ℕ). All (IsWithin n) edges) (sym size) within) i (omega (arith, b, size))
      (h i (omega (arith, b, two_long))
      ∙ (λ k. get_or (sliced k) (get_or (second k) i 0) false)
      ∙ marked (get_or roots i 0) (omega (arith, w, one_long))
      ∙ ap (λ (xs : List ℕ). list_any (marks_root xs (get_or roots i 0)) edges) first)
