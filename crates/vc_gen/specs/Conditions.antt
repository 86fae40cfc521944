-- The verification conditions of a function: formulas that are all valid exactly if the function keeps its contract.
-- Source: D. Dill et al., Fast and Reliable Formal Verification of Smart Contracts with the Move Prover, TACAS 2022; E.
-- W. Dijkstra, Guarded commands, nondeterminacy and formal derivation of programs.
use Rattle.std.specs.Prelude.{List, [], ◌∷◌, ◌++◌, if◌then◌else◌}
use Rattle.std.specs.List.{flat_map}
use Rattle.fol.specs.FormulaData.{TermData, FormulaData, NotFormula, AnyOfFormula, ImpliesFormula, formulas_of}
use Rattle.sum_tree.specs.declared.clause.ClauseKind.{ClauseKind}
use Rattle.sum_tree.specs.declared.clause.ClauseKind.TheVariants.{Ensures, AbortsIf}
use Rattle.sum_tree.specs.declared.clause.SumClause.{SumClause}
use Rattle.sum_tree.specs.SumFunctionData.{SumFunctionData}
use Rattle.sum_formula.specs.Translation.{zero_term, condition_formula}
use Rattle.sum_formula.specs.Premises.{is_kind, entry_formulas, returned_term, at_return, at_abort}
use Rattle.vc_gen.specs.Keys.{has_kind, key_at}
use Rattle.base.specs.declared.condition.ConditionKind.TheVariants.{Ensures as of_ensures, AbortsIf as of_aborts_if, Aborts as of_aborts}
use Rattle.vc_gen.specs.declared.condition.VerificationCondition.{VerificationCondition}

-- ---- claims

-- the clause holds if the premise does, for the returned term
abbrev pub at_each_return : SumFunctionData → FormulaData → TermData → SumClause → VerificationCondition
at_each_return f premise returned c = record {
  key = key_at of_ensures c.start;
  formula = ImpliesFormula premise (condition_formula f.parameters returned c.condition);
}

-- the clause, read at the entry, does not hold if the premise does
abbrev pub at_no_return : SumFunctionData → FormulaData → SumClause → VerificationCondition
at_no_return f premise c = record {
  key = key_at of_aborts_if c.start;
  formula = ImpliesFormula premise (NotFormula (condition_formula f.parameters zero_term c.condition));
}

-- an `ensures` holds at each return
abbrev pub ensures_condition : SumFunctionData → List SumClause → SumClause → VerificationCondition
ensures_condition f clauses = at_each_return f (at_return f clauses) (returned_term f)

-- an `aborts_if` holds at no return
abbrev pub aborts_if_condition : SumFunctionData → List SumClause → SumClause → VerificationCondition
aborts_if_condition f clauses = at_no_return f (at_return f clauses)

-- if the run aborts, some `aborts_if` holds
abbrev pub aborts_condition : SumFunctionData → List SumClause → VerificationCondition
aborts_condition f clauses = record {
  key = key_at of_aborts f.start;
  formula = ImpliesFormula (at_abort f clauses) (AnyOfFormula (formulas_of (entry_formulas AbortsIf f clauses)));
}

-- the condition of a clause of this kind; none for a clause of another kind
abbrev pub condition_if : ClauseKind → (SumClause → VerificationCondition) → SumClause → List VerificationCondition
condition_if kind condition c = if is_kind c.kind kind then condition c ∷ [] else []

-- the conditions of each `ensures`, then of each `aborts_if`, in the order of the clauses, under a premise and for the
-- returned term
abbrev pub conditions_under : SumFunctionData → List SumClause → FormulaData → TermData → List VerificationCondition
conditions_under f clauses premise returned =
    flat_map (condition_if Ensures (at_each_return f premise returned)) clauses ++ flat_map (condition_if AbortsIf (at_no_return f premise)) clauses

abbrev pub conditions_at_return : SumFunctionData → List SumClause → List VerificationCondition
conditions_at_return f clauses = conditions_under f clauses (at_return f clauses) (returned_term f)

-- The conditions of a function: those at returns, and then, if there is an `aborts_if`, that there are no other aborts.
abbrev pub conditions_of : SumFunctionData → List SumClause → List VerificationCondition
conditions_of f clauses = conditions_at_return f clauses ++ (if has_kind AbortsIf clauses then aborts_condition f clauses ∷ [] else [])
