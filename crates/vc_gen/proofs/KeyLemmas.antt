-- The conditions of a function have its keys.
use Rattle.std.proofs.Common.{◌≡◌, List, [], ◌∷◌, ◌++◌, map, Bool, true, false, if◌then◌else◌, refl, ap, ◌∙◌}
use Rattle.std.specs.Prelude.{Result, Ok, Err, IfOk}
use Rattle.std.specs.List.{flat_map}
use Rattle.std.proofs.lemmas.List.{map-append}
use Rattle.base.specs.declared.condition.ConditionKey.{ConditionKey}
use Rattle.base.specs.declared.condition.ConditionKind.{ConditionKind}
use Rattle.base.specs.declared.condition.ConditionKind.TheVariants.{Ensures as of_ensures, AbortsIf as of_aborts_if}
use Rattle.sum_formula.specs.Premises.{is_kind, at_return, returned_term}
use Rattle.sum_tree.specs.declared.clause.SumClause.{SumClause}
use Rattle.sum_tree.specs.declared.clause.ClauseKind.{ClauseKind}
use Rattle.sum_tree.specs.declared.clause.ClauseKind.TheVariants.{Ensures, AbortsIf}
use Rattle.sum_tree.specs.SumFunctionData.{SumFunctionData}
use Rattle.vc_gen.specs.Conditions.{aborts_condition, at_each_return, at_no_return, condition_if, conditions_of}
use Rattle.vc_gen.specs.Keys.{has_kind, key_at, key_if, keys_of}
use Rattle.vc_gen.specs.declared.condition.VerificationCondition.{VerificationCondition}

abbrev pub key_of : VerificationCondition → ConditionKey
key_of c = c.key

of_clause : (b : Bool) (condition : VerificationCondition) → map key_of (if b then condition ∷ [] else []) ≡ (if b then condition.key ∷ [] else [])
of_clause true condition = refl
of_clause false condition = refl

of_clauses : (kind : ClauseKind) (of : ConditionKind) (make : SumClause → VerificationCondition) → ((c : SumClause) → (make c).key ≡ key_at of c.start) → (clauses : List SumClause)
    → map key_of (flat_map (condition_if kind make) clauses) ≡ flat_map (key_if kind of) clauses
of_clauses kind of make is [] = refl
of_clauses kind of make is (c ∷ cs) =
    map-append key_of (condition_if kind make c) (flat_map (condition_if kind make) cs)
    ∙ ap (λ front. front ++ map key_of (flat_map (condition_if kind make) cs)) (of_clause (is_kind c.kind kind) (make c) ∙ ap (λ (k : ConditionKey). if is_kind c.kind kind then k ∷ [] else []) (is c))
    ∙ ap (λ back. key_if kind of c ++ back) (of_clauses kind of make is cs)

keys_are : (f : SumFunctionData) (clauses : List SumClause) → map key_of (conditions_of f clauses) ≡ keys_of f clauses
keys_are f clauses =
    let ensured = flat_map (condition_if Ensures (at_each_return f (at_return f clauses) (returned_term f))) clauses in
    let refused = flat_map (condition_if AbortsIf (at_no_return f (at_return f clauses))) clauses in
    let last = if has_kind AbortsIf clauses then aborts_condition f clauses ∷ [] else [] in
    map-append key_of (ensured ++ refused) last
    ∙ ap (λ front. front ++ map key_of last) (map-append key_of ensured refused)
    ∙ ap (λ front. (front ++ map key_of refused) ++ map key_of last) (of_clauses Ensures of_ensures (at_each_return f (at_return f clauses) (returned_term f)) (λ c. refl) clauses)
    ∙ ap (λ back. (flat_map (key_if Ensures of_ensures) clauses ++ back) ++ map key_of last) (of_clauses AbortsIf of_aborts_if (at_no_return f (at_return f clauses)) (λ c. refl) clauses)
    ∙ ap (λ back. (flat_map (key_if Ensures of_ensures) clauses ++ flat_map (key_if AbortsIf of_aborts_if) clauses) ++ back) (of_clause (has_kind AbortsIf clauses) (aborts_condition f clauses))

-- the same of conditions that a call made
pub keys_made : {V E : Type 0} (items : V → List VerificationCondition) (f : SumFunctionData) (clauses : List SumClause) (r : Result V E) → IfOk r (λ made. items made ≡ conditions_of f clauses) → IfOk r (λ made. map key_of (items made) ≡ keys_of f clauses)
keys_made items f clauses (Ok made) e = ap (map key_of) e ∙ keys_are f clauses
keys_made items f clauses (Err error) e = tt
