-- A resolved clause, component by component. Source: the Move Specification Language reference, "Spec Blocks and
-- Conditions", "Let Bindings", "Invariants" and "Schemas".
use Rattle.std.specs.Prelude.{◌≡◌, ◌⊎◌, ℕ, Bool, true, false, List, [], ◌∷◌, Option, Some, None}
use Rattle.base.specs.declared.span.Span.{Span}
use Rattle.syntax_tree.specs.SpecExpressionData.{spec_expressions_of}
use Rattle.syntax_tree.specs.declared.clause.Clause.{Clause as ClauseTree}
use Rattle.syntax_tree.specs.declared.clause.Clause.TheVariants.{Pragma as pragma_clause, Requires as requires_clause, Ensures as ensures_clause, AbortsIf as aborts_if_clause, Modifies as modifies_clause, Invariant as invariant_clause, Let as let_clause, Include as include_clause, Variable as variable_clause}
use Rattle.program.specs.Trees.{NoTrees, MoreTrees}
use Rattle.program.specs.Listed.{AreSound, nodes_from_all, indices}
use Rattle.program.specs.declared.clause.Clause.{Clause}
use Rattle.program.specs.declared.clause.ClauseForm.{ClauseForm}
use Rattle.program.specs.declared.clause.ClauseForm.TheVariants.{Condition, Modifies, Let}
use Rattle.program.specs.declared.clause.ConditionKind.{ConditionKind}
use Rattle.program.specs.declared.clause.ConditionKind.TheVariants.{Requires, Ensures, AbortsIf, Invariant, UpdateInvariant}
use Rattle.body_names.specs.declared.spec.outer.OuterName.{OuterName}
use Rattle.body_names.specs.SpecForms.{SpecTree, SpecTrees}
use Rattle.body_names.specs.SpecResolved.{expression_tree, expression_trees}
use Rattle.body_names.specs.SpecSpans.{spans_of, spans_of_all}
use Rattle.resolution.specs.Setting.{ClauseScope, around}
use Rattle.resolution.specs.Includes.{include_form, include_spans, include_trees}

-- a clause of a program: neither a pragma nor a variable of a schema
abbrev pub is_clause : ClauseTree → Bool
is_clause (pragma_clause span pragmas) = false
is_clause (requires_clause span e) = true
is_clause (ensures_clause span e) = true
is_clause (aborts_if_clause span e code) = true
is_clause (modifies_clause span targets) = true
is_clause (invariant_clause span is_update e) = true
is_clause (let_clause span is_post name e) = true
is_clause (include_clause i) = true
is_clause (variable_clause n) = false

-- the span of its first token
abbrev pub clause_span : ClauseTree → Span
clause_span (pragma_clause span pragmas) = span
clause_span (requires_clause span e) = span
clause_span (ensures_clause span e) = span
clause_span (aborts_if_clause span e code) = span
clause_span (modifies_clause span targets) = span
clause_span (invariant_clause span is_update e) = span
clause_span (let_clause span is_post name e) = span
clause_span (include_clause i) = i.span
clause_span (variable_clause n) = n.name.span

abbrev pub only : SpecTree → SpecTrees
only t = MoreTrees t NoTrees

-- the trees of its expressions, in source order; no `aborts_if` has a code yet
abbrev pub clause_trees : ClauseScope → List OuterName → ClauseTree → SpecTrees
clause_trees w outer (pragma_clause span pragmas) = NoTrees
clause_trees w outer (requires_clause span e) = only (expression_tree (around w outer) e)
clause_trees w outer (ensures_clause span e) = only (expression_tree (around w outer) e)
clause_trees w outer (aborts_if_clause span e code) = only (expression_tree (around w outer) e)
clause_trees w outer (modifies_clause span targets) = expression_trees (around w outer) (spec_expressions_of targets.items)
clause_trees w outer (invariant_clause span is_update e) = only (expression_tree (around w outer) e)
clause_trees w outer (let_clause span is_post name e) = only (expression_tree (around w outer) e)
clause_trees w outer (include_clause i) = include_trees w outer i
clause_trees w outer (variable_clause n) = NoTrees

-- the spans of their nodes
abbrev pub clause_spans : ClauseScope → ClauseTree → List Span
clause_spans w (pragma_clause span pragmas) = []
clause_spans w (requires_clause span e) = spans_of e
clause_spans w (ensures_clause span e) = spans_of e
clause_spans w (aborts_if_clause span e code) = spans_of e
clause_spans w (modifies_clause span targets) = spans_of_all (spec_expressions_of targets.items)
clause_spans w (invariant_clause span is_update e) = spans_of e
clause_spans w (let_clause span is_post name e) = spans_of e
clause_spans w (include_clause i) = include_spans w i
clause_spans w (variable_clause n) = []

abbrev pub first : List ℕ → ℕ
first [] = 0
first (n ∷ ns) = n

-- the form of a clause with one expression
abbrev pub condition_form : ConditionKind → SpecTree → Option ClauseForm
condition_form kind t = Some (Condition kind (first (indices 0 (only t))))

abbrev pub let_form : Bool → SpecTree → Option ClauseForm
let_form is_post t = Some (Let is_post (first (indices 0 (only t))))

abbrev pub invariant_kind : Bool → ConditionKind
invariant_kind true = UpdateInvariant
invariant_kind false = Invariant

-- the form of a clause, given the indices of its expressions; none if it is no clause of a program or has no meaning
abbrev pub clause_form : ClauseScope → ClauseTree → List ℕ → Option ClauseForm
clause_form w (pragma_clause span pragmas) roots = None
clause_form w (requires_clause span e) roots = Some (Condition Requires (first roots))
clause_form w (ensures_clause span e) roots = Some (Condition Ensures (first roots))
clause_form w (aborts_if_clause span e code) roots = Some (Condition AbortsIf (first roots))
clause_form w (modifies_clause span targets) roots = Some (Modifies roots)
clause_form w (invariant_clause span is_update e) roots = Some (Condition (invariant_kind is_update) (first roots))
clause_form w (let_clause span is_post name e) roots = Some (Let is_post (first roots))
clause_form w (include_clause i) roots = include_form w i roots
clause_form w (variable_clause n) roots = None

-- ---- the whole clause

-- the clause of a spec block with these sound trees, in one list of nodes
pub record IsMadeOf (trees : SpecTrees) (spans : List Span) (form : Option ClauseForm) (block span : Span) (clause : Clause) : Type 0 where
  pub sound : AreSound trees
  pub form_is : form ≡ Some clause.form
  pub nodes : clause.body.nodes ≡ nodes_from_all 0 trees
  pub spans_are : clause.body.spans ≡ spans
  pub block_is : clause.block ≡ block
  pub span_is : clause.span ≡ span

-- some use in it has no meaning
abbrev pub IsUnknown : SpecTrees → Option ClauseForm → Type 0
IsUnknown trees form = (AreSound trees → ⊥) ⊎ (form ≡ None)

-- its form, given the indices of its own expressions
abbrev pub form_of : ClauseScope → List OuterName → ClauseTree → Option ClauseForm
form_of w outer tree = clause_form w tree (indices 0 (clause_trees w outer tree))

-- the clause of this source
abbrev pub IsClauseOf : ClauseScope → List OuterName → Span → ClauseTree → Clause → Type 0
IsClauseOf w outer block tree clause =
    IsMadeOf (clause_trees w outer tree) (clause_spans w tree) (form_of w outer tree) block (clause_span tree) clause

abbrev pub HasUnknown : ClauseScope → List OuterName → ClauseTree → Type 0
HasUnknown w outer tree = IsUnknown (clause_trees w outer tree) (form_of w outer tree)
