-- Chains of includes end if no schema includes itself over any number of includes.
use Rattle.std.proofs.Common.{◌≡◌, ℕ, zero, suc, ◌<◌, ◌≤◌, inl, inr, true, List, [], ◌∷◌, length, get_or, Option, Some, refl, sym, ◌∙◌, ap, subst, arith}
use Rattle.std.specs.Prelude.{All, Contains, IfSome, ◌==◌}
use Rattle.std.specs.Cmp.Lexicographic.{same_text}
use Rattle.std.specs.List.{flat_map}
use Rattle.std.specs.Map.{lookup}
use Rattle.std.proofs.lemmas.Bool.{and_parts, cases_eq, eqb-true}
use Rattle.std.proofs.lemmas.List.Elements.{All-contains, Contains-append_left, Contains-append_right}
use Rattle.std.proofs.lemmas.Map.Made.{Contains-tail}
use Rattle.base.specs.Names.{same_name}
use Rattle.program.specs.declared.clause.ClauseForm.{ClauseForm}
use Rattle.program.specs.declared.declaration.Schema.{Schema}
use Rattle.program.specs.declared.program.Program.{Program}
use Rattle.program.specs.declared.program.SchemaId.{SchemaId}
use Rattle.program.specs.Same.{same_schema}
use Rattle.declaration_cycles.specs.Circular.{HasNoCycle, schema_kind}
use Rattle.declaration_cycles.specs.Edges.{edge, edges_to, number, schema_edges}
use Rattle.declaration_cycles.specs.Leading.{IsEdge, Leads, Directly, Over}
use Rattle.declaration_cycles.specs.Naming.{included_by, included_in, schemas_included}
use Rattle.declaration_cycles.specs.Within.{IsWithin}
use Rattle.declaration_cycles.specs.declared.edges.Edge.{Edge}
use Rattle.declaration_cycles.proofs.Bounds.{kind_within, number_below}
use Rattle.ability_rules.proofs.Tables.{entry_there, found_there, number_there}
use Rattle.type_check.specs.Including.{IsShallow, Names}
use Rattle.type_check.proofs.SchemasLists.{at_contained, some_inside}

-- ---- lists

first_in : {A : Type 0} (x : A) (xs : List A) → Contains (x ∷ xs) x
first_in x xs = (0, omega arith, refl)

in_pieces : {A B : Type 0} (f : A → List B) (xs : List A) (k : ℕ) (x : A) (y : B) → k < length xs → get_or xs k x ≡ x → Contains (f x) y → Contains (flat_map f xs) y
in_pieces f [] k x y lt e c = absurd (omega (arith, lt))
in_pieces f (z ∷ xs) zero x y lt e c = Contains-append_left (f z) (flat_map f xs) y (subst (λ (w : _). Contains (f w) y) (sym e) c)
in_pieces f (z ∷ xs) (suc k) x y lt e c = Contains-append_right (f z) (flat_map f xs) y (in_pieces f xs k x y (omega (arith, lt)) e c)

piece_in : {A B : Type 0} (f : A → List B) (xs : List A) (x : A) (y : B) → Contains xs x → Contains (f x) y → Contains (flat_map f xs) y
piece_in f xs x y there c = in_pieces f xs there.0 x y there.1 there.2 c

-- a list with one number less, and all others
remove : (xs : List ℕ) (j : ℕ) → Contains xs j → (rest : List ℕ) × ((suc (length rest) ≡ length xs) × ((k : ℕ) → Contains xs k → (k ≡ j → ⊥) → Contains rest k))
remove [] j c = (let b = c.1 in absurd (omega arith))
remove (x ∷ xs) j c = elim (cases_eq x j) [
  | inl same ↦ (xs, (refl, λ k there other. Contains-tail x xs k (λ e. other (sym e ∙ same)) there))
  | inr apart ↦
      let r = remove xs j (Contains-tail x xs j apart c) in (
        x ∷ r.0,
        (
          ap suc r.1.0,
          λ k there other. elim (cases_eq x k) [
            | inl is ↦ subst (λ (m : ℕ). Contains (x ∷ r.0) m) is (first_in x r.0)
            | inr differs ↦ Contains-append_right (x ∷ []) r.0 k (r.1.1 k (Contains-tail x xs k differs there) other)
          ],
        ),
      )
]

abbrev below : ℕ → List ℕ
below zero = []
below (suc n) = n ∷ below n

length_below : (n : ℕ) → length (below n) ≡ n
length_below zero = refl
length_below (suc n) = ap suc (length_below n)

is_below : (n k : ℕ) → k < n → Contains (below n) k
is_below zero k lt = absurd (omega (arith, lt))
is_below (suc n) k lt = elim (cases_eq n k) [
  | inl same ↦ subst (λ (m : ℕ). Contains (n ∷ below n) m) same (first_in n (below n))
  | inr other ↦ Contains-append_right (n ∷ []) (below n) k (is_below n k (less n k lt other))
]
  where
    less : (n k : ℕ) → k < suc n → (n ≡ k → ⊥) → k < n
    less n k lt other = elim (cases_eq n k) [
      | inl same ↦ absurd (other same)
      | inr apart ↦ omega (arith, lt, apart)
    ]

-- ---- schemas by their numbers

schema_equal : (s t : SchemaId) → same_schema s t ≡ true → s ≡ t
schema_equal s t same =
    let parts = and_parts (s.address == t.address) _ same in
    let names = and_parts (same_name s.«module» t.«module») (same_name s.name t.name) parts.1 in
    let address : s.address ≡ t.address = eqb-true _ _ parts.0 in
    let home : s.«module» ≡ t.«module» = same_text _ _ (sym names.0) in
    let name : s.name ≡ t.name = same_text _ _ (sym names.1) in
    λ i. record { address = address i; «module» = home i; name = name i }

module _ (program : Program) where
  abbrev Number : SchemaId → Option ℕ
  Number s = number same_schema program.schemas s

  abbrev Edges : List Edge
  Edges = schema_edges program

  -- an edge to each schema that a schema includes
  edge_of : (s t : SchemaId) (i j : ℕ) → Names program s t → Number s ≡ Some i → Number t ≡ Some j → IsEdge Edges i j
  edge_of s t i j names from to =
      let at = entry_there (same_schema s) program.schemas i s from in
      let is = found_there (same_schema s) program.schemas i at.0 from at.1 in
      let key : s ≡ at.0.0 = schema_equal s at.0.0 is.1 in
      let one : at.0.1 ≡ names.declared = some_inside at.0.1 names.declared (sym is.0 ∙ names.lookup_is) in
      let in_clause : Contains (included_in names.clause) t = subst (λ (f : ClauseForm). Contains (included_by f) t) (sym names.form_is) (first_in t []) in
      let in_clauses : Contains (schemas_included names.declared) t = piece_in included_in names.declared.clauses names.clause t names.one in_clause in
      let in_schema : Contains (schemas_included at.0.1) t = subst (λ (d : Schema). Contains (schemas_included d) t) (sym one) in_clauses in
      let this : Edge = record { from = i; to = j } in
      let from_key : number same_schema program.schemas at.0.0 ≡ Some i = ap Number (sym key) ∙ from in
      let made : edge (Number at.0.0) (Number t) ≡ this ∷ [] = ap (λ (a : Option ℕ). edge a (Number t)) from_key ∙ ap (λ (b : Option ℕ). edge (Some i) b) to in
      let in_edge : Contains (edge (Number at.0.0) (Number t)) this = subst (λ (es : List Edge). Contains es this) (sym made) (first_in this []) in
      let in_edges : Contains (edges_to same_schema program.schemas at.0.0 (schemas_included at.0.1)) this =
      piece_in (λ (name : SchemaId). edge (Number at.0.0) (Number name)) (schemas_included at.0.1) t this in_schema in_edge in
      piece_in (λ (e : SchemaId × Schema). edges_to same_schema program.schemas e.0 (schemas_included e.1)) program.schemas at.0 this
      (at_contained program.schemas i at.0 at.1) in_edges

  edges_within : All (IsWithin (length program.schemas)) Edges
  edges_within = kind_within same_schema program.schemas schemas_included program.schemas

  leads_below : (i j : ℕ) → Leads Edges i j → j < length program.schemas
  leads_below i j (Directly e) = (All-contains (IsWithin (length program.schemas)) Edges (record { from = i; to = j }) edges_within e).ends
  leads_below i j (Over {j = k} e leads) = leads_below k j leads

  declared_below : (s : SchemaId) (i : ℕ) → Number s ≡ Some i → i < length program.schemas
  declared_below s i e = subst (λ (o : Option ℕ). IfSome o (λ k. k < length program.schemas)) e (number_below same_schema program.schemas s)

  module _ (none : HasNoCycle (schema_kind program)) where
    -- a schema and all that it includes have numbers among so many: a step along a chain removes one
    shallow_within : (depth : ℕ) (inside : List ℕ) (s : SchemaId) (i : ℕ) → Number s ≡ Some i → length inside ≤ depth → Contains inside i
        → ((j : ℕ) → Leads Edges i j → Contains inside j) → IsShallow program depth s
    shallow_within zero inside s i is le here all = (let b = here.1 in omega (arith, b, le))
    shallow_within (suc depth) inside s i is le here all = λ t names.
        let j = number_there (same_schema t) program.schemas names.found s names.found_is in
        let e = edge_of s t i j.0 names is j.1 in
        let r = remove inside i here in
        let size = r.1.0 in
        shallow_within depth r.0 t j.0 j.1 (omega (arith, size, le))
        (r.1.1 j.0 (all j.0 (Directly e)) (λ same. none i (subst (λ (k : ℕ). Leads Edges i k) same (Directly e))))
        (λ k leads. r.1.1 k (all k (Over e leads)) (λ same. none i (subst (λ (m : ℕ). Leads Edges i m) same (Over e leads))))

    -- chains from each declared schema have fewer includes than there are schemas
    pub all_shallow : (s : SchemaId) (d : Schema) → lookup (same_schema s) program.schemas ≡ Some d → IsShallow program (length program.schemas) s
    all_shallow s d found =
        let count = length program.schemas in
        let i = number_there (same_schema s) program.schemas d s found in
        let size = length_below count in
        shallow_within count (below count) s i.0 i.1 (omega (arith, size)) (is_below count i.0 (declared_below s i.0 i.1))
        (λ j leads. is_below count j (leads_below i.0 j leads))
