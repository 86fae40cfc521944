-- Lists of expressions, of fields, of triggers and of binds.
use Rattle.std.proofs.Common.{ℕ, ◌+◌, ◌≡◌, ◌≤◌, List, [], ◌∷◌, ◌++◌, length, map, take, drop, append_assoc, Option, None, Some, refl, sym, ap, ◌∙◌}
use Rattle.std.proofs.lemmas.List.{take_all}
use Rattle.syntax_tree.specs.declared.lexeme.Identifier.{Identifier}
use Rattle.syntax_tree.specs.SpecExpressionData.{SpecExpressionData, SpecFieldData, TriggerData, BindData, spec_expressions_of, spec_fields_of, triggers_of, binds_of}
use Rattle.syntax_tree.specs.SpecExpressionView.{spec_field_of}
use Rattle.program.specs.Trees.{NoTrees, MoreTrees}
use Rattle.program.specs.declared.spec.Bind.{Bind}
use Rattle.scopes.specs.declared.scope.InScope.{InScope}
use Rattle.scopes.specs.TypeMeanings.{TypeScope}
use Rattle.body_names.specs.SpecForms.{SpecScope}
use Rattle.body_names.specs.SpecNames.{entered_by_all, variables_of, variables_of_all, variables_of_field, variables_of_fields, variables_of_trigger, variables_of_triggers, variables_of_bind, variables_of_binds, entered_by}
use Rattle.body_names.specs.SpecSpans.{spans_of, spans_of_all, spans_of_field, spans_of_fields, spans_of_trigger, spans_of_triggers, spans_of_bind, spans_of_binds}
use Rattle.body_names.specs.SpecTrees.{spec_tree, spec_trees, field_tree, field_trees, trigger_tree, trigger_trees, bind_tree, bind_trees, field_of_value, fields_of_values, terms_of, terms_of_triggers, bind_of, binds_in}
use Rattle.body_names.proofs.SpecRemainsLaws.{Listing, IsListing}

abbrev pub value_listing : SpecScope → List InScope → Listing ℕ SpecExpressionData
value_listing w scope = record {
  tree = λ n x. MoreTrees (spec_tree w scope n x) NoTrees;
  trees = λ n xs. spec_trees w scope n (spec_expressions_of xs);
  next = λ n x. n + length (variables_of x);
  span = λ x. spans_of x;
  spans = λ xs. spans_of_all (spec_expressions_of xs);
  name = λ x. variables_of x;
  names = λ xs. variables_of_all (spec_expressions_of xs);
}

abbrev pub field_listing : SpecScope → List InScope → Listing ℕ SpecFieldData
field_listing w scope = record {
  tree = λ n x. MoreTrees (field_tree w scope n x) NoTrees;
  trees = λ n xs. field_trees w scope n (spec_fields_of xs);
  next = λ n x. n + length (variables_of_field x);
  span = λ x. spans_of_field x;
  spans = λ xs. spans_of_fields (spec_fields_of xs);
  name = λ x. variables_of_field x;
  names = λ xs. variables_of_fields (spec_fields_of xs);
}

abbrev pub trigger_listing : SpecScope → List InScope → Listing ℕ TriggerData
trigger_listing w scope = record {
  tree = λ n x. trigger_tree w scope n x;
  trees = λ n xs. trigger_trees w scope n (triggers_of xs);
  next = λ n x. n + length (variables_of_trigger x);
  span = λ x. spans_of_trigger x;
  spans = λ xs. spans_of_triggers (triggers_of xs);
  name = λ x. variables_of_trigger x;
  names = λ xs. variables_of_triggers (triggers_of xs);
}

pub is_trigger_listing : (w : SpecScope) (scope : List InScope) → IsListing (trigger_listing w scope)
is_trigger_listing w scope = record {
  no_trees = λ a. refl;
  more_trees = λ a x xs. refl;
  no_spans = refl;
  more_spans = λ x xs. refl;
  no_names = refl;
  more_names = λ x xs. refl;
}

-- the variables in scope, and the number of bound ones
pub record BoundNames : Type 0 where
  pub scope : List InScope
  pub count : ℕ

abbrev pub bind_listing : SpecScope → Listing BoundNames BindData
bind_listing w = record {
  tree = λ a x. bind_tree w a.scope a.count x;
  trees = λ a xs. bind_trees w a.scope a.count (binds_of xs);
  next = λ a x. record { scope = a.scope ++ entered_by a.count x; count = a.count + length (variables_of_bind x) };
  span = λ x. spans_of_bind x;
  spans = λ xs. spans_of_binds (binds_of xs);
  name = λ x. variables_of_bind x;
  names = λ xs. variables_of_binds (binds_of xs);
}

pub is_bind_listing : (w : SpecScope) → IsListing (bind_listing w)
is_bind_listing w = record {
  no_trees = λ a. refl;
  more_trees = λ a x xs. refl;
  no_spans = refl;
  more_spans = λ x xs. refl;
  no_names = refl;
  more_names = λ x xs. refl;
}

-- ---- one more variable is bound

pub entered-next : (xs : List BindData) (i : ℕ) (x : BindData) (s t u : List InScope) (m k : ℕ) → drop i xs ≡ x ∷ drop (i + 1) xs → s ≡ t ++ entered_by_all m (binds_of (drop i xs)) → t ++ entered_by m x ≡ u → m + length (variables_of_bind x) ≡ k → s ≡ u ++ entered_by_all k (binds_of (drop (i + 1) xs))
entered-next xs i x s t u m k e h f g =
    let more = binds_of (drop (i + 1) xs) in
    h ∙ ap (λ zs. t ++ entered_by_all m (binds_of zs)) e ∙ sym (append_assoc t (entered_by m x) (entered_by_all (m + length (variables_of_bind x)) more)) ∙ (λ j. f j ++ entered_by_all (g j) more)

pub bound-next : (w : TypeScope) (xs : List BindData) (i : ℕ) (x : BindData) (s t u : List Bind) (one : Bind) (m k : ℕ) → drop i xs ≡ x ∷ drop (i + 1) xs → s ≡ t ++ binds_in w m (binds_of (drop i xs)) → u ≡ t ++ one ∷ [] → one ≡ bind_of w m x → m + length (variables_of_bind x) ≡ k → s ≡ u ++ binds_in w k (binds_of (drop (i + 1) xs))
bound-next w xs i x s t u one m k e h q b g =
    let more = binds_of (drop (i + 1) xs) in
    let put : u ≡ t ++ bind_of w m x ∷ [] = q ∙ ap (λ y. t ++ y ∷ []) b in
    h ∙ ap (λ zs. t ++ binds_in w m (binds_of zs)) e ∙ sym (append_assoc t (bind_of w m x ∷ []) (binds_in w (m + length (variables_of_bind x)) more)) ∙ (λ j. sym put j ++ binds_in w (g j) more)

-- ---- the fields in a pack

pub field_of-is : (name : Identifier) (value : Option SpecExpressionData) → field_of_value (spec_field_of name value) ≡ name.text
field_of-is name None = refl
field_of-is name (Some value) = refl

fields_of-map : (xs : List SpecFieldData) → fields_of_values (spec_fields_of xs) ≡ map field_of_value xs
fields_of-map [] = refl
fields_of-map (x ∷ xs) = ap (λ ys. field_of_value x ∷ ys) (fields_of-map xs)

pub fields_taken : (xs : List SpecFieldData) (i : ℕ) → length xs ≤ i → map field_of_value (take i xs) ≡ fields_of_values (spec_fields_of xs)
fields_taken xs i h = ap (map field_of_value) (take_all i xs h) ∙ sym (fields_of-map xs)

-- ---- the terms of triggers

terms_of-map : (xs : List TriggerData) → terms_of_triggers (triggers_of xs) ≡ map terms_of xs
terms_of-map [] = refl
terms_of-map (x ∷ xs) = ap (λ ys. terms_of x ∷ ys) (terms_of-map xs)

pub terms_taken : (xs : List TriggerData) (i : ℕ) → length xs ≤ i → map terms_of (take i xs) ≡ terms_of_triggers (triggers_of xs)
terms_taken xs i h = ap (map terms_of) (take_all i xs h) ∙ sym (terms_of-map xs)
