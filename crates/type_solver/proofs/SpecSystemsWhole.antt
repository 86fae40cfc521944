-- The steps of clauses and spec functions.
use Rattle.std.proofs.Common.{◌≡◌, ℕ, ◌+◌, ◌++◌, List, [], ◌∷◌, sym, ap, subst, ◌∙◌, arith}
use Rattle.base.specs.TypeData.{TypesData}
use Rattle.program.specs.declared.clause.Clause.{Clause}
use Rattle.program.specs.declared.declaration.SpecFunction.{SpecFunction}
use Rattle.program.specs.declared.program.Program.{Program}
use Rattle.typing_rules.specs.Clauses.{Block, Names, clause_setting, clause_system, form_arguments, spec_function_system, spec_system, whole_constraints}
use Rattle.typing_rules.specs.CodeConstraints.{has}
use Rattle.typing_rules.specs.CodeSystems.{last_by}
use Rattle.typing_rules.specs.Constraint.{Constraint}
use Rattle.typing_rules.specs.Instances.{spec_type}
use Rattle.typing_rules.specs.Rules.{TypeReading}
use Rattle.typing_rules.specs.SpecConstraints.{SpecSetting, declared_variables, spec_constraints_from, spec_variable_count}
use Rattle.unification.specs.declared.type_variables.slots.Slot.{Slot}
use Rattle.type_solver.specs.Walking.{IsWalk}
use Rattle.type_solver.specs.Walked.{Walked}
use Rattle.type_solver.specs.declared.walk.Progress.{Progress}
use Rattle.type_solver.proofs.Reading.{walked}
use Rattle.type_constraints.specs.Functions.{spec_function_setting}
use Rattle.type_solver.specs.Equations.{spec_reading}

-- the declared variables, the nodes and the whole
abbrev pub steps_of : SpecSetting → List Constraint → List (List Constraint)
steps_of s whole = declared_variables s ∷ (spec_constraints_from s 0 s.nodes ++ whole ∷ [])

steps_whole-at : (w : TypeReading) (n : ℕ) (a b c e : List Slot) (begun first last after : Progress) (s : SpecSetting) (declared whole : List Constraint) → declared ≡ declared_variables s → IsWalk w n [] a begun →
    ((steps : List (List Constraint)) → IsWalk w n steps a begun → IsWalk w n (steps ++ declared ∷ []) b first) →
    ((steps : List (List Constraint)) → IsWalk w n steps b first → IsWalk w n (steps ++ spec_constraints_from s 0 s.nodes) c last) →
    ((steps : List (List Constraint)) → IsWalk w n steps c last → IsWalk w n (steps ++ whole ∷ []) e after) → IsWalk w n (steps_of s whole) e after
steps_whole-at w n a b c e begun first last after s declared whole ed start one more end =
    subst (λ (d : List Constraint). IsWalk w n (d ∷ (spec_constraints_from s 0 s.nodes ++ whole ∷ [])) e after) ed
    (end (declared ∷ spec_constraints_from s 0 s.nodes) (more (declared ∷ []) (one [] start)))

-- the same, with the number of type variables given by the slots
pub steps_whole : (w : TypeReading) (m n : ℕ) (a b c e : List Slot) (begun first last after : Progress) (s : SpecSetting) (declared whole : List Constraint) → n ≡ m → declared ≡ declared_variables s → IsWalk w m [] a begun →
    ((steps : List (List Constraint)) → IsWalk w n steps a begun → IsWalk w n (steps ++ declared ∷ []) b first) →
    ((steps : List (List Constraint)) → IsWalk w n steps b first → IsWalk w n (steps ++ spec_constraints_from s 0 s.nodes) c last) →
    ((steps : List (List Constraint)) → IsWalk w n steps c last → IsWalk w n (steps ++ whole ∷ []) e after) → IsWalk w m (steps_of s whole) e after
steps_whole w m n a b c e begun first last after s declared whole same ed start one more end =
    subst (λ (x : ℕ). IsWalk w x (steps_of s whole) e after) same
    (steps_whole-at w n a b c e begun first last after s declared whole ed (subst (λ (x : ℕ). IsWalk w x [] a begun) (sym same) start) one more end)

-- ---- systems

spec_walked : (there s : SpecSetting) (more variables : ℕ) (required whole : List Constraint) (slots : List Slot) (progress : Progress) → s ≡ there → variables ≡ spec_variable_count s + more → whole ≡ required →
    IsWalk (spec_reading there.program.structs) variables (steps_of s whole) slots progress → Walked (spec_system there more required) slots progress
spec_walked there s more variables required whole slots progress es ep ew is =
    let w = spec_reading there.program.structs in
    walked (spec_system there more required) slots progress
    (subst (λ (x : SpecSetting). IsWalk w (spec_variable_count x + more) (steps_of x required) slots progress) es
    (subst (λ (n : ℕ). IsWalk w n (steps_of s required) slots progress) ep
    (subst (λ (d : List Constraint). IsWalk w variables (steps_of s d) slots progress) ew is)))

pub function_walked : (program : Program) (f : SpecFunction) (s : SpecSetting) (variables : ℕ) (whole : Constraint) (slots : List Slot) (progress : Progress) → s ≡ spec_function_setting program f → variables ≡ spec_variable_count s →
    whole ≡ last_by (λ n. has n (spec_type f.result)) f.body.nodes 0 → IsWalk (spec_reading program.structs) variables (steps_of s (whole ∷ [])) slots progress → Walked (spec_function_system program f) slots progress
function_walked program f s variables whole slots progress es ep ew is =
    let last : Constraint = last_by (λ n. has n (spec_type f.result)) f.body.nodes 0 in
    let count : variables ≡ spec_variable_count s + 0 = omega (arith, ep) in
    spec_walked (spec_function_setting program f) s 0 variables (last ∷ []) (whole ∷ []) slots progress es count (ap (λ (d : Constraint). d ∷ []) ew) is

pub function_variables : (program : Program) (f : SpecFunction) (s : SpecSetting) (variables : ℕ) → s ≡ spec_function_setting program f → variables ≡ spec_variable_count s → variables ≡ (spec_function_system program f).variables
function_variables program f s variables es ep =
    let count : variables ≡ spec_variable_count s + 0 = omega (arith, ep) in
    count ∙ ap (λ (x : SpecSetting). spec_variable_count x + 0) es

-- the type variables of a clause, and those of the type arguments of an include
clause_count : (program : Program) (clause : Clause) (s : SpecSetting) (first more variables : ℕ) → first ≡ spec_variable_count s → more ≡ form_arguments program clause.form → variables ≡ first + more →
    variables ≡ spec_variable_count s + form_arguments program clause.form
clause_count program clause s first more variables ef em ep = ep ∙ ap (λ (n : ℕ). n + more) ef ∙ ap (λ (n : ℕ). spec_variable_count s + n) em

pub clause_walked : (program : Program) (names : Names) (block : Block) (types : TypesData) (clause : Clause) (s : SpecSetting) (first more variables : ℕ) (whole : List Constraint) (slots : List Slot) (progress : Progress) →
    s ≡ clause_setting program names block types clause → first ≡ spec_variable_count s → more ≡ form_arguments program clause.form → variables ≡ first + more → whole ≡ whole_constraints s block first clause.form →
    IsWalk (spec_reading program.structs) variables (steps_of s whole) slots progress → Walked (clause_system program names block types clause) slots progress
clause_walked program names block types clause s first more variables whole slots progress es ef em ep ew is =
    let there = clause_setting program names block types clause in
    spec_walked there s (form_arguments program clause.form) variables (whole_constraints there block (spec_variable_count there) clause.form) whole slots progress es
    (clause_count program clause s first more variables ef em ep)
    (ew ∙ ap (λ (n : ℕ). whole_constraints s block n clause.form) ef ∙ ap (λ (x : SpecSetting). whole_constraints x block (spec_variable_count x) clause.form) es) is

pub clause_variables : (program : Program) (names : Names) (block : Block) (types : TypesData) (clause : Clause) (s : SpecSetting) (first more variables : ℕ) → s ≡ clause_setting program names block types clause →
    first ≡ spec_variable_count s → more ≡ form_arguments program clause.form → variables ≡ first + more → variables ≡ (clause_system program names block types clause).variables
clause_variables program names block types clause s first more variables es ef em ep =
    clause_count program clause s first more variables ef em ep ∙ ap (λ (x : SpecSetting). spec_variable_count x + form_arguments program clause.form) es
