-- The conditions of a function have the premises that its parameters have values of their types.
use Rattle.std.proofs.Common.{◌≡◌, ℕ, zero, suc, List, [], ◌∷◌, ◌++◌, map, Bool, true, false, if◌then◌else◌, refl, sym, ap, subst, arith}
use Rattle.std.specs.Prelude.{Result, Ok, Err, IfOk, All, Contains, slice_index_or}
use Rattle.std.specs.List.{flat_map}
use Rattle.std.proofs.lemmas.List.{length-map}
use Rattle.std.proofs.lemmas.List.Elements.{All-nil, All-cons, All-append}
use Rattle.fol.specs.FormulaData.{FormulaData, ImpliesFormula, MoreFormulas, NoFormulas, list_of_formulas-formulas_of, formulas_of}
use Rattle.sum_formula.specs.Premises.{is_kind, argument_formula, arguments_formula, all_three, at_return, returned_term}
use Rattle.sum_tree.specs.declared.clause.SumClause.{SumClause}
use Rattle.sum_tree.specs.declared.clause.ClauseKind.{ClauseKind}
use Rattle.sum_tree.specs.declared.clause.ClauseKind.TheVariants.{Ensures, AbortsIf}
use Rattle.sum_tree.specs.SumFunctionData.{SumFunctionData}
use Rattle.vc_gen.specs.Conditions.{aborts_condition, at_each_return, at_no_return, condition_if, conditions_of}
use Rattle.vc_gen.specs.Keys.{has_kind}
use Rattle.vc_gen.specs.Supposed.{Itself, Inside, Supposes, SupposesTypes}
use Rattle.vc_gen.specs.declared.condition.VerificationCondition.{VerificationCondition}

-- the image of an item of a list is at the item's index
mapped_at : (make : List ℕ → FormulaData) (xs : List (List ℕ)) (x : List ℕ) (k : ℕ) → slice_index_or xs k x ≡ x → slice_index_or (map make xs) k (make x) ≡ make x
mapped_at make [] x k e = refl
mapped_at make (y ∷ ys) x zero e = ap make e
mapped_at make (y ∷ ys) x (suc k) e = mapped_at make ys x k e

mapped : (make : List ℕ → FormulaData) (xs : List (List ℕ)) (x : List ℕ) → Contains xs x → Contains (map make xs) (make x)
mapped make xs x at = (at.0, (let l = length-map xs make in let lt = at.1 in omega (arith, l, lt)), mapped_at make xs x at.0 at.2)

module _ (f : SumFunctionData) where
  -- a formula under the premise of a condition
  under : (required outcome claim : FormulaData) → SupposesTypes f.parameters (ImpliesFormula (all_three (arguments_formula f) required outcome) claim)
  under required outcome claim = record { typed = typed }
    where
      made : List FormulaData
      made = map (argument_formula f.parameters) f.parameters

      typed : (name : List ℕ) → Contains f.parameters name → Supposes (ImpliesFormula (all_three (arguments_formula f) required outcome) claim) (argument_formula f.parameters name)
      typed name at = record {
        premise = all_three (arguments_formula f) required outcome;
        claim = claim;
        is = refl;
        conjunct = Inside (MoreFormulas (arguments_formula f) (MoreFormulas required (MoreFormulas outcome NoFormulas))) (arguments_formula f) (0, omega arith, refl)
            (Inside (formulas_of made) (argument_formula f.parameters name) (subst (λ ps. Contains ps (argument_formula f.parameters name)) (sym (list_of_formulas-formulas_of made)) (mapped (argument_formula f.parameters) f.parameters name at)) Itself);
      }

  abbrev IsTyped : VerificationCondition → Type 0
  IsTyped c = SupposesTypes f.parameters c.formula

  of_clause : (b : Bool) (condition : VerificationCondition) → IsTyped condition → All IsTyped (if b then condition ∷ [] else [])
  of_clause true condition h = All-cons IsTyped condition [] h (All-nil IsTyped)
  of_clause false condition h = All-nil IsTyped

  of_clauses : (kind : ClauseKind) (make : SumClause → VerificationCondition) → ((c : SumClause) → IsTyped (make c)) → (clauses : List SumClause) → All IsTyped (flat_map (condition_if kind make) clauses)
  of_clauses kind make typed [] = All-nil IsTyped
  of_clauses kind make typed (c ∷ cs) =
      All-append IsTyped (condition_if kind make c) (flat_map (condition_if kind make) cs) (of_clause (is_kind c.kind kind) (make c) (typed c)) (of_clauses kind make typed cs)

  are_typed : (clauses : List SumClause) → All IsTyped (conditions_of f clauses)
  are_typed clauses =
      let ensured = flat_map (condition_if Ensures (at_each_return f (at_return f clauses) (returned_term f))) clauses in
      let refused = flat_map (condition_if AbortsIf (at_no_return f (at_return f clauses))) clauses in
      let last = if has_kind AbortsIf clauses then aborts_condition f clauses ∷ [] else [] in
      All-append IsTyped (ensured ++ refused) last
      (All-append IsTyped ensured refused
      (of_clauses Ensures (at_each_return f (at_return f clauses) (returned_term f)) (λ c. under _ _ _) clauses)
      (of_clauses AbortsIf (at_no_return f (at_return f clauses)) (λ c. under _ _ _) clauses))
      (of_clause (has_kind AbortsIf clauses) (aborts_condition f clauses) (under _ _ _))

-- the same of conditions that a call made
pub typed_made : {V E : Type 0} (items : V → List VerificationCondition) (f : SumFunctionData) (clauses : List SumClause) (r : Result V E) → IfOk r (λ made. items made ≡ conditions_of f clauses) → IfOk r (λ made. All (λ (c : VerificationCondition). SupposesTypes f.parameters c.formula) (items made))
typed_made items f clauses (Ok made) e = subst (All (λ (c : VerificationCondition). SupposesTypes f.parameters c.formula)) (sym e) (are_typed f clauses)
typed_made items f clauses (Err error) e = tt
