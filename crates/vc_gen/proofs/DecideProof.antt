-- The conditions of a function are all valid exactly if it keeps its contract.
use Rattle.std.proofs.Common.{◌≡◌, ℕ, ◌^◌, ◌<◌, pos, negsuc, List, [], ◌∷◌, ◌++◌, map, get_or, Option, Some, None, Bool, true, false, not, ◌&&◌, ◌||◌, inl, inr, ◌↔◌, refl, sym, ap, ◌∙◌, subst, arith, if◌then◌else◌}
use Rattle.std.specs.Prelude.{nat_lt, Result, Ok, Err, IfOk}
use Rattle.std.specs.List.{flat_map, list_any, AllByRecursion}
use Rattle.std.proofs.lemmas.Bool.Decides.{nat_tests}
use Rattle.std.specs.Cmp.Lexicographic.{nat_list_eq_equiv}
use Rattle.base.specs.TypeData.{BoolType, IntType}
use Rattle.base.specs.declared.types.Width.TheVariants.{U64}
use Rattle.fol.specs.declared.shapes.Shape.{Shape}
use Rattle.fol.specs.FormulaData.{TermData, FormulaData, formulas_of}
use Rattle.fol.specs.Val.{Val, NumberValue, TruthValue, NothingValue, VectorValue, StructValue, MemoryValue}
use Rattle.fol.specs.TypedValue.{has_type}
use Rattle.fol.specs.Truth.{Interpretation, Assignment, value_of, truth_of, all_true, any_true}
use Rattle.fol.specs.Validity.{Reads, Valid}
use Rattle.sum_tree.specs.declared.clause.ClauseKind.{ClauseKind}
use Rattle.sum_tree.specs.declared.clause.ClauseKind.TheVariants.{Requires, Ensures, AbortsIf}
use Rattle.sum_tree.specs.declared.clause.SumClause.{SumClause}
use Rattle.sum_tree.specs.SumFunctionData.{SumFunctionData}
use Rattle.base.specs.Names.{same_name}
use Rattle.ref_sem.specs.Semantics.{Arguments, Names, AreU64, names_of, Holds, AllHold, SomeHolds, HasKind, MeetsClauses, Keeps, run_sum}
use Rattle.vc_gen.specs.declared.condition.VerificationCondition.{VerificationCondition}
use Rattle.sum_formula.specs.Translation.{zero_term, term_at, word_term}
use Rattle.ref_sem.specs.Bodies.{HasU64Body}
use Rattle.sum_formula.specs.Premises.{argument_formula, arguments_formula, entry_formulas, requires_formula, returns_formula, returned_term, range_formulas, at_return, at_abort}
use Rattle.vc_gen.specs.Conditions.{ensures_condition, aborts_if_condition, aborts_condition, condition_if, conditions_under, conditions_of}
use Rattle.vc_gen.specs.Decided.{AreValid, Decide}
use Rattle.vc_gen.specs.Keys.{has_kind}
use Rattle.base.proofs.TruthValues.{both_true, true_both, never_both, true_not}
use Rattle.vc_gen.proofs.Words.{same_name-equal, position_some, name_at_position}
use Rattle.vc_gen.proofs.NumberTruth.{Agrees}
use Rattle.vc_gen.proofs.RunTruth.{RunAgrees, run_agrees}
use Rattle.vc_gen.proofs.ClauseTruth.{condition_true, all_hold, some_holds, has_kind-true, true-has_kind, EachOfKind, each_of_kind, all_appended, all_parts}

-- ---- truth values

implied : (a b : Bool) → not a || b ≡ true → a ≡ true → b ≡ true
implied true b e h = e
implied false b e h = absurd (cc)

implies : (a b : Bool) → (a ≡ true → b ≡ true) → not a || b ≡ true
implies true b h = h refl
implies false b h = refl

three : (a b c : Bool) → a && (b && (c && true)) ≡ true → (a ≡ true) × (b ≡ true) × (c ≡ true)
three true true true e = (refl, refl, refl)
three true true false e = absurd (cc)
three true false c e = absurd (cc)
three false b c e = absurd (cc)

all_three_true : (a b c : Bool) → a ≡ true → b ≡ true → c ≡ true → a && (b && (c && true)) ≡ true
all_three_true a b c e g h = λ i. e i && (g i && (h i && true))

-- ---- arguments

-- the values of a type of 64 bits
record IsU64Value (v : Val) : Type 0 where
  pub number : ℕ
  pub value : v ≡ NumberValue (pos number)
  pub small : number < 2 ^ 64

u64_value : (shapes : List Shape) (v : Val) → has_type shapes (IntType U64) v ≡ true → IsU64Value v
u64_value shapes (NumberValue (pos n)) e = record { number = n; value = refl; small = grind (arith, nat_tests, e) }
u64_value shapes (NumberValue (negsuc n)) e = absurd (cc)
u64_value shapes (TruthValue b) e = absurd (cc)
u64_value shapes NothingValue e = absurd (cc)
u64_value shapes (VectorValue vs) e = absurd (cc)
u64_value shapes (StructValue t vs) e = absurd (cc)
u64_value shapes (MemoryValue es) e = absurd (cc)

small_test : (n : ℕ) → n < 2 ^ 64 → nat_lt n (2 ^ 64) ≡ true
small_test n h = grind (arith, nat_tests)

abbrev natural : Val → ℕ
natural (NumberValue (pos n)) = n
natural v = 0

-- each name of a list is in the list
listed : (names all : List (List ℕ)) → ((name : List ℕ) → list_any (same_name name) names ≡ true → list_any (same_name name) all ≡ true) → AllByRecursion (λ name. list_any (same_name name) all ≡ true) names
listed [] all h = tt
listed (name ∷ names) all h = (
  h name (λ i. nat_list_eq_equiv.refl name i || list_any (same_name name) names),
  listed names all (λ other e. h other (or_later (same_name other name) e)),
)
  where
    or_later : (b : Bool) {c : Bool} → c ≡ true → b || c ≡ true
    or_later true e = refl
    or_later false e = e

module _ (m : Interpretation) (s : Assignment) (parameters : List (List ℕ)) where
  abbrev word_value : List ℕ → Val
  word_value name = value_of m (word_term parameters zero_term name) s

  -- if the formulas of the arguments are true, each parameter has a value of 64 bits
  argument_is_u64 : (names : List (List ℕ)) → all_true m (formulas_of (map (argument_formula parameters) names)) s ≡ true → (name : List ℕ) → list_any (same_name name) names ≡ true → IsU64Value (word_value name)
  argument_is_u64 [] e name h = absurd (cc)
  argument_is_u64 (other ∷ names) e name h = go (argument_is_u64 names) (same_name name other) refl
    where
      both : (truth_of m (argument_formula parameters other) s ≡ true) × (all_true m (formulas_of (map (argument_formula parameters) names)) s ≡ true)
      both = both_true (truth_of m (argument_formula parameters other) s) (all_true m (formulas_of (map (argument_formula parameters) names)) s) e

      go : (all_true m (formulas_of (map (argument_formula parameters) names)) s ≡ true → (n : List ℕ) → list_any (same_name n) names ≡ true → IsU64Value (word_value n)) → (b : Bool) → same_name name other ≡ b → IsU64Value (word_value name)
      go rest true g = subst (λ n. IsU64Value (word_value n)) (sym (same_name-equal name other g)) (u64_value m.shapes (word_value other) both.0)
      go rest false g = rest both.1 name ((λ i. sym g i || list_any (same_name name) names) ∙ h)

  arguments_true : (arguments : Arguments) → AreU64 arguments → Agrees m s parameters arguments → (names : List (List ℕ)) → AllByRecursion (λ name. list_any (same_name name) parameters ≡ true) names → all_true m (formulas_of (map (argument_formula parameters) names)) s ≡ true
  arguments_true arguments u64s agrees [] h = refl
  arguments_true arguments u64s agrees (name ∷ names) h =
      true_both (truth_of m (argument_formula parameters name) s) (all_true m (formulas_of (map (argument_formula parameters) names)) s)
      (ap (has_type m.shapes (IntType U64)) (agrees.values name h.0 zero_term) ∙ small_test (arguments name) (u64s name))
      (arguments_true arguments u64s agrees names h.1)

-- a parameter's word is a variable, whatever the result
same_variable : (m : Interpretation) (s : Assignment) (parameters : List (List ℕ)) (word : List ℕ) → list_any (same_name word) parameters ≡ true → (returned : TermData) → value_of m (word_term parameters returned word) s ≡ value_of m (word_term parameters zero_term word) s
same_variable m s parameters word h returned =
    let found = position_some (same_name word) parameters h in
    ap (λ o. value_of m (term_at o returned word) s) found.1 ∙ sym (ap (λ o. value_of m (term_at o zero_term word) s) found.1)

-- ---- the assignment of a run's arguments

abbrev assigned : List (List ℕ) → Arguments → Assignment
assigned parameters arguments = λ k. NumberValue (pos (arguments (get_or parameters k [])))

assigned_agrees : (m : Interpretation) (parameters : List (List ℕ)) (arguments : Arguments) → Agrees m (assigned parameters arguments) parameters arguments
assigned_agrees m parameters arguments = record {
  values = λ word h returned.
      let found = position_some (same_name word) parameters h in
      ap (λ o. value_of m (term_at o returned word) (assigned parameters arguments)) found.1
      ∙ ap (λ name. NumberValue (pos (arguments name))) (sym (name_at_position parameters word found.0 found.1));
}

-- ---- the arguments that an assignment gives

abbrev given : Interpretation → Assignment → List (List ℕ) → Arguments
given m s parameters name = if list_any (same_name name) parameters then natural (word_value m s parameters name) else 0

module _ (m : Interpretation) (s : Assignment) (parameters : List (List ℕ)) (typed : all_true m (formulas_of (map (argument_formula parameters) parameters)) s ≡ true) where
  given_value : (name : List ℕ) → list_any (same_name name) parameters ≡ true → word_value m s parameters name ≡ NumberValue (pos (given m s parameters name))
  given_value name h =
      let v = argument_is_u64 m s parameters parameters typed name h in
      v.value ∙ sym (ap (λ n. NumberValue (pos n)) (ap (λ b. if b then natural (word_value m s parameters name) else 0) h ∙ ap natural v.value))

  given_u64 : AreU64 (given m s parameters)
  given_u64 name = go (list_any (same_name name) parameters) refl
    where
      go : (b : Bool) → list_any (same_name name) parameters ≡ b → given m s parameters name < 2 ^ 64
      go true h =
          let v = argument_is_u64 m s parameters parameters typed name h in
          subst (λ n. n < 2 ^ 64) (sym (ap (λ b. if b then natural (word_value m s parameters name) else 0) h ∙ ap natural v.value)) v.small
      go false h = subst (λ n. n < 2 ^ 64) (sym (ap (λ b. if b then natural (word_value m s parameters name) else 0) h)) (omega arith)

  given_agrees : Agrees m s parameters (given m s parameters)
  given_agrees = record { values = λ word h returned. same_variable m s parameters word h returned ∙ given_value word h }

-- ---- facts of the clauses of a kind

module _ (kind : ClauseKind) where
  all_from_each : (P : SumClause → Type 0) (names : Names) → ((c : SumClause) → P c → Holds names c.condition) → (cs : List SumClause) → EachOfKind kind P cs → AllHold kind names cs
  all_from_each P names h [] e = tt
  all_from_each P names h (c ∷ cs) e = (λ k. h c (e.0 k), all_from_each P names h cs e.1)

  none_from_each : (P : SumClause → Type 0) (names : Names) → ((c : SumClause) → P c → Holds names c.condition → ⊥) → (cs : List SumClause) → EachOfKind kind P cs → SomeHolds kind names cs → ⊥
  none_from_each P names h [] e k = k
  none_from_each P names h (c ∷ cs) e (inl k) = h c (e.0 k.0) k.1
  none_from_each P names h (c ∷ cs) e (inr k) = none_from_each P names h cs e.1 k

  each_from_all : (P : SumClause → Type 0) (names : Names) → ((c : SumClause) → Holds names c.condition → P c) → (cs : List SumClause) → AllHold kind names cs → EachOfKind kind P cs
  each_from_all P names h [] e = tt
  each_from_all P names h (c ∷ cs) e = (λ k. h c (e.0 k), each_from_all P names h cs e.1)

  each_from_none : (P : SumClause → Type 0) (names : Names) → ((c : SumClause) → (Holds names c.condition → ⊥) → P c) → (cs : List SumClause) → (SomeHolds kind names cs → ⊥) → EachOfKind kind P cs
  each_from_none P names h [] e = tt
  each_from_none P names h (c ∷ cs) e = (λ k. h c (λ g. e (inl (k, g))), each_from_none P names h cs (λ g. e (inr g)))

  each : (P : SumClause → Type 0) → ((c : SumClause) → P c) → (cs : List SumClause) → EachOfKind kind P cs
  each P h [] = tt
  each P h (c ∷ cs) = (λ _. h c, each P h cs)

  each_mapped : (P Q : SumClause → Type 0) → ((c : SumClause) → P c → Q c) → (cs : List SumClause) → EachOfKind kind P cs → EachOfKind kind Q cs
  each_mapped P Q h [] e = tt
  each_mapped P Q h (c ∷ cs) e = (λ k. h c (e.0 k), each_mapped P Q h cs e.1)

  each_for_all : {I : Type 0} (Q : I → SumClause → Type 0) → (cs : List SumClause) → ((i : I) → EachOfKind kind (Q i) cs) → EachOfKind kind (λ c. (i : I) → Q i c) cs
  each_for_all Q [] e = tt
  each_for_all Q (c ∷ cs) e = (λ k i. (e i).0 k, each_for_all Q cs (λ i. (e i).1))

when : {X : Type 0} (P : X → Type 0) (x : X) (b : Bool) → (b ≡ true → P x) → AllByRecursion P (if b then x ∷ [] else [])
when P x true h = (h refl, tt)
when P x false h = tt

when_true : {X : Type 0} (P : X → Type 0) (x : X) (b : Bool) → AllByRecursion P (if b then x ∷ [] else []) → b ≡ true → P x
when_true P x true h e = h.0
when_true P x false h e = absurd (cc)

module _ (f : SumFunctionData) (clauses : List SumClause) where
  -- a condition is true at some values
  abbrev IsTrueAt : Interpretation → Assignment → VerificationCondition → Type 0
  IsTrueAt m s c = truth_of m c.formula s ≡ true

  -- each condition of a function has a fact, kind by kind
  record ByKind (P : VerificationCondition → Type 0) : Type 0 where
    pub ensures_conditions : EachOfKind Ensures (λ c. P (ensures_condition f clauses c)) clauses
    pub aborts_if_conditions : EachOfKind AbortsIf (λ c. P (aborts_if_condition f clauses c)) clauses
    pub aborts : has_kind AbortsIf clauses ≡ true → P (aborts_condition f clauses)

  by_kind : (P : VerificationCondition → Type 0) → AllByRecursion P (conditions_of f clauses) → ByKind P
  by_kind P h =
      let firsts = flat_map (condition_if Ensures (ensures_condition f clauses)) clauses in
      let seconds = flat_map (condition_if AbortsIf (aborts_if_condition f clauses)) clauses in
      let parts = all_parts P (firsts ++ seconds) (if has_kind AbortsIf clauses then aborts_condition f clauses ∷ [] else []) h in
      let both = all_parts P firsts seconds parts.0 in
      record {
        ensures_conditions = (each_of_kind Ensures (ensures_condition f clauses) P clauses).0 both.0;
        aborts_if_conditions = (each_of_kind AbortsIf (aborts_if_condition f clauses) P clauses).0 both.1;
        aborts = when_true P (aborts_condition f clauses) (has_kind AbortsIf clauses) parts.1;
      }

  all_kinds : (P : VerificationCondition → Type 0) → ByKind P → AllByRecursion P (conditions_of f clauses)
  all_kinds P h =
      all_appended P _ _
      (all_appended P _ _ ((each_of_kind Ensures (ensures_condition f clauses) P clauses).1 h.ensures_conditions) ((each_of_kind AbortsIf (aborts_if_condition f clauses) P clauses).1 h.aborts_if_conditions))
      (when P (aborts_condition f clauses) (has_kind AbortsIf clauses) h.aborts)

  -- ---- one start, and the conditions at its values

  module _ (body : HasU64Body f) (m : Interpretation) (s : Assignment) (arguments : Arguments) (u64s : AreU64 arguments) (agrees : Agrees m s f.parameters arguments) where
    abbrev bounds : List FormulaData
    bounds = range_formulas f.parameters f.body

    requires_is : (truth_of m (requires_formula f clauses) s ≡ true) ↔ AllHold Requires (names_of f arguments 0) clauses
    requires_is = all_hold m s f arguments agrees zero_term 0 refl Requires clauses

    aborts_is : (any_true m (formulas_of (entry_formulas AbortsIf f clauses)) s ≡ true) ↔ SomeHolds AbortsIf (names_of f arguments 0) clauses
    aborts_is = some_holds m s f arguments agrees zero_term 0 refl AbortsIf clauses

    arguments_are : truth_of m (arguments_formula f) s ≡ true
    arguments_are = arguments_true m s f.parameters arguments u64s agrees f.parameters (listed f.parameters f.parameters (λ name h. h))

    meets : (o : Option ℕ) → RunAgrees m s o bounds (returned_term f) → ByKind (IsTrueAt m s) → AllHold Requires (names_of f arguments 0) clauses → MeetsClauses f clauses arguments o
    meets (Some r) run h met =
        let premise = all_three_true (truth_of m (arguments_formula f) s) (truth_of m (requires_formula f clauses) s) (truth_of m (returns_formula f) s) arguments_are (requires_is.1 met) run.0 in (
          all_from_each Ensures _ (names_of f arguments r) (λ c e. (condition_true m s f arguments agrees (returned_term f) r run.1 c.condition).0 (implied (truth_of m (at_return f clauses) s) _ e premise)) clauses h.ensures_conditions,
          none_from_each AbortsIf _ (names_of f arguments 0) (λ c e k. never_both _ ((condition_true m s f arguments agrees zero_term 0 refl c.condition).1 k) (implied (truth_of m (at_return f clauses) s) _ e premise)) clauses h.aborts_if_conditions,
        )
    meets None run h met =
        let refused : not (truth_of m (returns_formula f) s) ≡ true = ap not run in
        let premise = all_three_true (truth_of m (arguments_formula f) s) (truth_of m (requires_formula f clauses) s) (not (truth_of m (returns_formula f) s)) arguments_are (requires_is.1 met) refused in
        λ has. aborts_is.0 (implied (truth_of m (at_abort f clauses) s) _ (h.aborts (has_kind-true AbortsIf clauses has)) premise)

    abbrev Outcome : Option ℕ → Type 0
    Outcome o = RunAgrees m s o bounds (returned_term f) × MeetsClauses f clauses arguments o

    ensures_true : (o : Option ℕ) → Outcome o → truth_of m (returns_formula f) s ≡ true → EachOfKind Ensures (λ c. IsTrueAt m s (ensures_condition f clauses c)) clauses
    ensures_true (Some r) h returns =
        each_from_all Ensures _ (names_of f arguments r) (λ c k. implies (truth_of m (at_return f clauses) s) _ (λ _. (condition_true m s f arguments agrees (returned_term f) r h.0.1 c.condition).1 k)) clauses h.1.0
    ensures_true None h returns = absurd (let e = h.0 in cc)

    aborts_if_true : (o : Option ℕ) → Outcome o → truth_of m (returns_formula f) s ≡ true → EachOfKind AbortsIf (λ c. IsTrueAt m s (aborts_if_condition f clauses c)) clauses
    aborts_if_true (Some r) h returns =
        each_from_none AbortsIf _ (names_of f arguments 0) (λ c k. implies (truth_of m (at_return f clauses) s) _ (λ _. true_not _ (λ e. k ((condition_true m s f arguments agrees zero_term 0 refl c.condition).0 e)))) clauses h.1.1
    aborts_if_true None h returns = absurd (let e = h.0 in cc)

    aborts_true : (o : Option ℕ) → Outcome o → not (truth_of m (returns_formula f) s) ≡ true → HasKind AbortsIf clauses → any_true m (formulas_of (entry_formulas AbortsIf f clauses)) s ≡ true
    aborts_true (Some r) h refused has = absurd (never_both _ h.0.0 refused)
    aborts_true None h refused has = aborts_is.1 (h.1 has)

  -- ---- all starts

  sound : HasU64Body f → (shapes : List Shape) → AreValid shapes (conditions_of f clauses) → Keeps f clauses
  sound body shapes valid all right = record {
    each_run = λ arguments u64s met.
        let m : Interpretation = record { all = all; shapes = shapes; named = λ _. BoolType } in
        let reads : Reads shapes m = record { answers_right = right; same_shapes = refl; names_ground = λ _. refl } in
        let s = assigned f.parameters arguments in
        let agrees = assigned_agrees m f.parameters arguments in
        let kinds = by_kind (λ c. Valid shapes c.formula) valid in
        let here : ByKind (IsTrueAt m s) = record {
          ensures_conditions = each_mapped Ensures _ _ (λ c v. v.holds m reads s) clauses kinds.ensures_conditions;
          aborts_if_conditions = each_mapped AbortsIf _ _ (λ c v. v.holds m reads s) clauses kinds.aborts_if_conditions;
          aborts = λ e. (kinds.aborts e).holds m reads s;
        } in
        meets body m s arguments u64s agrees (run_sum arguments f.body) (run_agrees m s f arguments agrees u64s body) here met;
  }

  module _ (body : HasU64Body f) (keeps : Keeps f clauses) (shapes : List Shape) where
    -- values at which a formula is read
    record Reading : Type 0 where
      pub m : Interpretation
      pub reads : Reads shapes m
      pub s : Assignment

    -- a valid start, and a run from it that behaves as the function has to
    record FromStart (i : Reading) : Type 0 where
      pub arguments : Arguments
      pub u64s : AreU64 arguments
      pub agrees : Agrees i.m i.s f.parameters arguments
      pub ends : Outcome body i.m i.s arguments u64s agrees (run_sum arguments f.body)

    from_start : (i : Reading) → truth_of i.m (arguments_formula f) i.s ≡ true → truth_of i.m (requires_formula f clauses) i.s ≡ true → FromStart i
    from_start i typed met =
        let arguments = given i.m i.s f.parameters in
        let u64s = given_u64 i.m i.s f.parameters typed in
        let agrees = given_agrees i.m i.s f.parameters typed in
        record {
          arguments = arguments;
          u64s = u64s;
          agrees = agrees;
          ends = (
            run_agrees i.m i.s f arguments agrees u64s body,
            (keeps i.m.all i.reads.answers_right).each_run arguments u64s ((requires_is body i.m i.s arguments u64s agrees).0 met),
          );
        }

    trivial : (a b : Bool) → a ≡ false → not a || b ≡ true
    trivial a b e = (λ j. not (e j) || b)

    ensures_at : (i : Reading) → EachOfKind Ensures (λ c. IsTrueAt i.m i.s (ensures_condition f clauses c)) clauses
    ensures_at i = go (truth_of i.m (at_return f clauses) i.s) refl
      where
        go : (b : Bool) → truth_of i.m (at_return f clauses) i.s ≡ b → EachOfKind Ensures (λ c. IsTrueAt i.m i.s (ensures_condition f clauses c)) clauses
        go false e = each Ensures _ (λ c. trivial (truth_of i.m (at_return f clauses) i.s) _ e) clauses
        go true e =
            let parts = three _ _ _ e in
            let o = from_start i parts.0 parts.1 in
            ensures_true body i.m i.s o.arguments o.u64s o.agrees (run_sum o.arguments f.body) o.ends parts.2

    aborts_if_at : (i : Reading) → EachOfKind AbortsIf (λ c. IsTrueAt i.m i.s (aborts_if_condition f clauses c)) clauses
    aborts_if_at i = go (truth_of i.m (at_return f clauses) i.s) refl
      where
        go : (b : Bool) → truth_of i.m (at_return f clauses) i.s ≡ b → EachOfKind AbortsIf (λ c. IsTrueAt i.m i.s (aborts_if_condition f clauses c)) clauses
        go false e = each AbortsIf _ (λ c. trivial (truth_of i.m (at_return f clauses) i.s) _ e) clauses
        go true e =
            let parts = three _ _ _ e in
            let o = from_start i parts.0 parts.1 in
            aborts_if_true body i.m i.s o.arguments o.u64s o.agrees (run_sum o.arguments f.body) o.ends parts.2

    aborts_at : (i : Reading) → has_kind AbortsIf clauses ≡ true → IsTrueAt i.m i.s (aborts_condition f clauses)
    aborts_at i has =
        implies (truth_of i.m (at_abort f clauses) i.s) (any_true i.m (formulas_of (entry_formulas AbortsIf f clauses)) i.s) (λ e.
        let parts = three _ _ _ e in
        let o = from_start i parts.0 parts.1 in
        aborts_true body i.m i.s o.arguments o.u64s o.agrees (run_sum o.arguments f.body) o.ends parts.2 (true-has_kind AbortsIf clauses has))

    valid : (c : VerificationCondition) → ((i : Reading) → IsTrueAt i.m i.s c) → Valid shapes c.formula
    valid c h = record { holds = λ m reads s. h (record { m = m; reads = reads; s = s }) }

    complete : AreValid shapes (conditions_of f clauses)
    complete = all_kinds (λ c. Valid shapes c.formula) (record {
      ensures_conditions = each_mapped Ensures _ _ (λ c h. valid (ensures_condition f clauses c) h) clauses (each_for_all Ensures (λ i c. IsTrueAt i.m i.s (ensures_condition f clauses c)) clauses ensures_at);
      aborts_if_conditions = each_mapped AbortsIf _ _ (λ c h. valid (aborts_if_condition f clauses c) h) clauses (each_for_all AbortsIf (λ i c. IsTrueAt i.m i.s (aborts_if_condition f clauses c)) clauses aborts_if_at);
      aborts = λ has. valid (aborts_condition f clauses) (λ i. aborts_at i has);
    })

  pub decide : HasU64Body f → Decide f clauses (conditions_of f clauses)
  decide body = record { sound = sound body; complete = λ keeps shapes. complete body keeps shapes }

-- the same of conditions that a call made
pub decide_made : {V E : Type 0} (items : V → List VerificationCondition) (f : SumFunctionData) (clauses : List SumClause) (r : Result V E) → IfOk r (λ made. items made ≡ conditions_of f clauses) → HasU64Body f → IfOk r (λ made. Decide f clauses (items made))
decide_made items f clauses (Ok made) e body = subst (λ conditions. Decide f clauses conditions) (sym e) (decide f clauses body)
decide_made items f clauses (Err error) e body = tt

-- conditions under equal premises are the same
pub made_under : {V E : Type 0} (items : V → List VerificationCondition) (f : SumFunctionData) (clauses : List SumClause) (r : Result V E) (p q : FormulaData) (t u : TermData) → p ≡ q → t ≡ u → IfOk r (λ made. items made ≡ conditions_under f clauses p t) → IfOk r (λ made. items made ≡ conditions_under f clauses q u)
made_under items f clauses (Ok made) p q t u e g h = h ∙ (λ i. conditions_under f clauses (e i) (g i))
made_under items f clauses (Err error) p q t u e g h = tt
