-- The numbers of functions are disjoint.
use Rattle.std.proofs.Common.{◌≡◌, inl, inr, ℕ, ◌+◌, ◌<◌, ◌≤◌, List, length, Some, sym, ap, ◌∙◌, arith}
use Rattle.std.specs.Prelude.{slice_get}
use Rattle.std.proofs.lemmas.Bool.{cases_lt}
use Rattle.base.specs.declared.types.FunctionId.{FunctionId}
use Rattle.program.specs.declared.declaration.Function.{Function}
use Rattle.program.specs.declared.program.Program.{Program}
use Rattle.ability_rules.specs.declared.polymorphic_recursion.rows.Row.{Row}
use Rattle.ability_rules.specs.declared.polymorphic_recursion.known.VariableTypes.{VariableTypes}
use Rattle.ability_rules.specs.Edges.{parameter_node, type_node}
use Rattle.ability_rules.specs.Rows.{AreRows, row_end}
use Rattle.ability_rules.proofs.Shapes.{Stated}

same_some : {A : Type 0} (a b : A) → Some a ≡ Some b → a ≡ b
same_some a b h = cc

module _ (program : Program) (rows : List Row) (known : List VariableTypes) (count : ℕ) (are : AreRows program known rows (length known) count) where
  before : (s t : Stated program rows known) (a b : ℕ) → a < s.row.parameters + length s.types.pool.now → s.at < t.at → s.row.first + a ≡ t.row.first + b → ⊥
  before s t a b inside lt same =
      let apart : row_end s.row s.types ≤ t.row.first = are.apart s.at t.at s.row t.row s.types lt s.row_is t.row_is s.types_are in
      omega (arith, apart, inside, same)

  -- equal numbers of two functions are numbers of one function
  pub one_function : (s t : Stated program rows known) (a b : ℕ) → a < s.row.parameters + length s.types.pool.now → b < t.row.parameters + length t.types.pool.now
      → s.row.first + a ≡ t.row.first + b → s.at ≡ t.at
  one_function s t a b inside other same = elim (cases_lt s.at t.at) [
    | inl lt ↦ absurd (before s t a b inside lt same)
    | inr le ↦ elim (cases_lt t.at s.at) [
      | inl lt ↦ absurd (before t s b a other lt (sym same))
      | inr ge ↦ omega (arith, le, ge)
    ]
  ]

  pub same_row : (s t : Stated program rows known) → s.at ≡ t.at → s.row ≡ t.row
  same_row s t e = same_some s.row t.row (sym s.row_is ∙ ap (slice_get rows) e ∙ t.row_is)

  pub same_types : (s t : Stated program rows known) → s.at ≡ t.at → s.types ≡ t.types
  same_types s t e = same_some s.types t.types (sym s.types_are ∙ ap (slice_get known) e ∙ t.types_are)

  same_entry : (s t : Stated program rows known) → s.at ≡ t.at → ◌≡◌ {A = FunctionId × Function} (s.id, s.function) (t.id, t.function)
  same_entry s t e =
      let one : FunctionId × Function = (s.id, s.function) in
      let other : FunctionId × Function = (t.id, t.function) in
      same_some one other (sym s.function_is ∙ ap (slice_get program.functions) e ∙ t.function_is)

  pub same_id : (s t : Stated program rows known) → s.at ≡ t.at → s.id ≡ t.id
  same_id s t e = ap (λ (x : FunctionId × Function). x.0) (same_entry s t e)

  pub same_function : (s t : Stated program rows known) → s.at ≡ t.at → s.function ≡ t.function
  same_function s t e = ap (λ (x : FunctionId × Function). x.1) (same_entry s t e)

  -- ---- the number of a type is that of one type, and of no type parameter; and likewise for type parameters

  pub one_type : (s t : Stated program rows known) (m n : ℕ) → m < length s.types.pool.now → n < length t.types.pool.now → type_node s.row m ≡ type_node t.row n → (s.at ≡ t.at) × (m ≡ n)
  one_type s t m n b c same =
      let at : s.at ≡ t.at = one_function s t (s.row.parameters + m) (t.row.parameters + n) (omega (arith, b)) (omega (arith, c)) (omega (arith, same)) in
      let row = same_row s t at in
      let first : s.row.first ≡ t.row.first = ap (λ (r : Row). r.first) row in
      let parameters : s.row.parameters ≡ t.row.parameters = ap (λ (r : Row). r.parameters) row in
      (at, omega (arith, same, first, parameters))

  pub one_parameter : (s t : Stated program rows known) (k l : ℕ) → k < s.row.parameters → l < t.row.parameters → parameter_node s.row k ≡ parameter_node t.row l → (s.at ≡ t.at) × (k ≡ l)
  one_parameter s t k l b c same =
      let at : s.at ≡ t.at = one_function s t k l (omega (arith, b)) (omega (arith, c)) same in
      let first : s.row.first ≡ t.row.first = ap (λ (r : Row). r.first) (same_row s t at) in
      (at, omega (arith, same, first))

  pub type_or_parameter : (s t : Stated program rows known) (m k : ℕ) → m < length s.types.pool.now → k < t.row.parameters → type_node s.row m ≡ parameter_node t.row k → ⊥
  type_or_parameter s t m k b c same =
      let at : s.at ≡ t.at = one_function s t (s.row.parameters + m) k (omega (arith, b)) (omega (arith, c)) (omega (arith, same)) in
      let row = same_row s t at in
      let first : s.row.first ≡ t.row.first = ap (λ (r : Row). r.first) row in
      let parameters : s.row.parameters ≡ t.row.parameters = ap (λ (r : Row). r.parameters) row in
      omega (arith, same, first, parameters, c)
