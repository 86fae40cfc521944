-- The steps of functions and constants, and the first of them.
use Rattle.std.proofs.Common.{◌≡◌, ℕ, zero, suc, ◌+◌, ◌<◌, ◌≤◌, ◌++◌, List, [], ◌∷◌, length, take, refl, sym, ap, subst, arith}
use Rattle.program.specs.declared.declaration.Constant.{Constant}
use Rattle.program.specs.declared.declaration.Function.{Function}
use Rattle.program.specs.declared.program.Program.{Program}
use Rattle.program.specs.CodeNodes.{CodeNode}
use Rattle.typing_rules.specs.Constraint.{Constraint, Returns, Written}
use Rattle.typing_rules.specs.Settings.{CodeSetting, variable_count}
use Rattle.typing_rules.specs.CodeConstraints.{barred_unless, constraints_from, has}
use Rattle.typing_rules.specs.CodeSystems.{constant_setting, constant_system, function_setting, function_system, is_constant_type, last_by, signature_constraints, values_from}
use Rattle.typing_rules.specs.FieldBars.{first_steps}
use Rattle.typing_rules.specs.Rules.{TypeReading}
use Rattle.unification.specs.declared.type_variables.slots.Slot.{Slot}
use Rattle.type_solver.specs.Equations.{code_reading}
use Rattle.type_solver.specs.Walking.{IsWalk}
use Rattle.type_solver.specs.Walked.{Walked}
use Rattle.type_solver.specs.declared.walk.Progress.{Progress}
use Rattle.type_solver.proofs.Reading.{walked}

-- ---- the first steps

take_before : (k : ℕ) (xs ys : List (List Constraint)) → k ≤ length xs → take k (xs ++ ys) ≡ take k xs
take_before zero xs ys le = refl
take_before (suc k) [] ys le = absurd (omega (arith, le))
take_before (suc k) (x ∷ xs) ys le = ap (λ (l : List (List Constraint)). x ∷ l) (take_before k xs ys (omega (arith, le)))

take_past : (k : ℕ) (xs : List (List Constraint)) → length xs ≤ k → take k xs ≡ xs
take_past zero [] le = refl
take_past zero (x ∷ xs) le = absurd (omega (arith, le))
take_past (suc k) [] le = refl
take_past (suc k) (x ∷ xs) le = ap (λ (l : List (List Constraint)). x ∷ l) (take_past k xs (omega (arith, le)))

one_behind : (xs : List (List Constraint)) (x : List Constraint) → length (xs ++ x ∷ []) ≡ suc (length xs)
one_behind [] x = refl
one_behind (y ∷ xs) x = ap suc (one_behind xs x)

constraints_count : (s : CodeSetting) (n : ℕ) (nodes : List CodeNode) → length (constraints_from s n nodes) ≡ length nodes
constraints_count s n [] = refl
constraints_count s n (node ∷ rest) = ap suc (constraints_count s (n + 1) rest)

-- if more are requested than there are nodes, these are all
all_taken : (d : List Constraint) (nodes : List (List Constraint)) (whole : List Constraint) (k : ℕ) → length nodes < k → take (suc k) (d ∷ (nodes ++ whole ∷ [])) ≡ d ∷ (nodes ++ whole ∷ [])
all_taken d nodes whole k lt = ap (λ (l : List (List Constraint)). d ∷ l) (take_past k (nodes ++ whole ∷ []) (let e = one_behind nodes whole in omega (arith, e, lt)))

-- ---- walks

-- the declared types, and the first nodes
body_part-at : (w : TypeReading) (n k : ℕ) (a b c : List Slot) (begun first after : Progress) (s : CodeSetting) (d whole : List Constraint) → k ≤ length s.nodes → IsWalk w n [] a begun →
    ((steps : List (List Constraint)) → IsWalk w n steps a begun → IsWalk w n (steps ++ d ∷ []) b first) →
    ((steps : List (List Constraint)) → IsWalk w n steps b first → IsWalk w n (steps ++ take k (constraints_from s 0 s.nodes)) c after) →
    IsWalk w n (take (suc k) (d ∷ (constraints_from s 0 s.nodes ++ whole ∷ []))) c after
body_part-at w n k a b c begun first after s d whole le start one more =
    subst (λ (xs : List (List Constraint)). IsWalk w n (d ∷ xs) c after)
    (sym (take_before k (constraints_from s 0 s.nodes) (whole ∷ []) (let e = constraints_count s 0 s.nodes in omega (arith, e, le))))
    (more (d ∷ []) (one [] start))

-- the declared types, the nodes and the whole
body_whole-at : (w : TypeReading) (n k m : ℕ) (a b c e : List Slot) (begun first last after : Progress) (s : CodeSetting) (d whole : List Constraint) → m ≡ length s.nodes → m < k → IsWalk w n [] a begun →
    ((steps : List (List Constraint)) → IsWalk w n steps a begun → IsWalk w n (steps ++ d ∷ []) b first) →
    ((steps : List (List Constraint)) → IsWalk w n steps b first → IsWalk w n (steps ++ take m (constraints_from s 0 s.nodes)) c last) →
    ((steps : List (List Constraint)) → IsWalk w n steps c last → IsWalk w n (steps ++ whole ∷ []) e after) →
    IsWalk w n (take (suc k) (d ∷ (constraints_from s 0 s.nodes ++ whole ∷ []))) e after
body_whole-at w n k m a b c e begun first last after s d whole is_count lt start one more end =
    let nodes = constraints_from s 0 s.nodes in
    let count : length nodes ≡ length s.nodes = constraints_count s 0 s.nodes in
    subst (λ (xs : List (List Constraint)). IsWalk w n xs e after) (sym (all_taken d nodes whole k (omega (arith, count, is_count, lt))))
    (subst (λ (xs : List (List Constraint)). IsWalk w n (d ∷ (xs ++ whole ∷ [])) e after) (take_past m nodes (omega (arith, count, is_count)))
    (end (d ∷ take m nodes) (more (d ∷ []) (one [] start))))

value_whole-at : (w : TypeReading) (n : ℕ) (a b c e : List Slot) (begun first last after : Progress) (s : CodeSetting) (d whole : List Constraint) → IsWalk w n [] a begun →
    ((steps : List (List Constraint)) → IsWalk w n steps a begun → IsWalk w n (steps ++ d ∷ []) b first) →
    ((steps : List (List Constraint)) → IsWalk w n steps b first → IsWalk w n (steps ++ values_from s 0 s.nodes) c last) →
    ((steps : List (List Constraint)) → IsWalk w n steps c last → IsWalk w n (steps ++ whole ∷ []) e after) →
    IsWalk w n (d ∷ (values_from s 0 s.nodes ++ whole ∷ [])) e after
value_whole-at w n a b c e begun first last after s d whole start one more end = end (d ∷ values_from s 0 s.nodes) (more (d ∷ []) (one [] start))

-- the same, with the number of type variables given by the slots
pub body_part : (w : TypeReading) (m n k : ℕ) (a b c : List Slot) (begun first after : Progress) (s : CodeSetting) (d whole : List Constraint) → n ≡ m → k ≤ length s.nodes → IsWalk w m [] a begun →
    ((steps : List (List Constraint)) → IsWalk w n steps a begun → IsWalk w n (steps ++ d ∷ []) b first) →
    ((steps : List (List Constraint)) → IsWalk w n steps b first → IsWalk w n (steps ++ take k (constraints_from s 0 s.nodes)) c after) →
    IsWalk w m (take (suc k) (d ∷ (constraints_from s 0 s.nodes ++ whole ∷ []))) c after
body_part w m n k a b c begun first after s d whole same le start one more =
    subst (λ (x : ℕ). IsWalk w x (take (suc k) (d ∷ (constraints_from s 0 s.nodes ++ whole ∷ []))) c after) same
    (body_part-at w n k a b c begun first after s d whole le (subst (λ (x : ℕ). IsWalk w x [] a begun) (sym same) start) one more)

pub body_whole : (w : TypeReading) (m n k count : ℕ) (a b c e : List Slot) (begun first last after : Progress) (s : CodeSetting) (d whole : List Constraint) → n ≡ m → count ≡ length s.nodes → count < k → IsWalk w m [] a begun →
    ((steps : List (List Constraint)) → IsWalk w n steps a begun → IsWalk w n (steps ++ d ∷ []) b first) →
    ((steps : List (List Constraint)) → IsWalk w n steps b first → IsWalk w n (steps ++ take count (constraints_from s 0 s.nodes)) c last) →
    ((steps : List (List Constraint)) → IsWalk w n steps c last → IsWalk w n (steps ++ whole ∷ []) e after) →
    IsWalk w m (take (suc k) (d ∷ (constraints_from s 0 s.nodes ++ whole ∷ []))) e after
body_whole w m n k count a b c e begun first last after s d whole same is_count lt start one more end =
    subst (λ (x : ℕ). IsWalk w x (take (suc k) (d ∷ (constraints_from s 0 s.nodes ++ whole ∷ []))) e after) same
    (body_whole-at w n k count a b c e begun first last after s d whole is_count lt (subst (λ (x : ℕ). IsWalk w x [] a begun) (sym same) start) one more end)

pub value_whole : (w : TypeReading) (m n : ℕ) (a b c e : List Slot) (begun first last after : Progress) (s : CodeSetting) (d whole : List Constraint) → n ≡ m → IsWalk w m [] a begun →
    ((steps : List (List Constraint)) → IsWalk w n steps a begun → IsWalk w n (steps ++ d ∷ []) b first) →
    ((steps : List (List Constraint)) → IsWalk w n steps b first → IsWalk w n (steps ++ values_from s 0 s.nodes) c last) →
    ((steps : List (List Constraint)) → IsWalk w n steps c last → IsWalk w n (steps ++ whole ∷ []) e after) →
    IsWalk w m (d ∷ (values_from s 0 s.nodes ++ whole ∷ [])) e after
value_whole w m n a b c e begun first last after s d whole same start one more end =
    subst (λ (x : ℕ). IsWalk w x (d ∷ (values_from s 0 s.nodes ++ whole ∷ [])) e after) same
    (value_whole-at w n a b c e begun first last after s d whole (subst (λ (x : ℕ). IsWalk w x [] a begun) (sym same) start) one more end)

-- ---- systems

pub function_walked : (program : Program) (f : Function) (k variables : ℕ) (s : CodeSetting) (declared : List Constraint) (whole : Constraint) (slots : List Slot) (progress : Progress) →
    s ≡ function_setting program f → declared ≡ signature_constraints s f → whole ≡ last_by (λ n. Returns n (Written f.result)) f.body.nodes 0 → variables ≡ variable_count s →
    IsWalk (code_reading program.structs) variables (take (suc k) (declared ∷ (constraints_from s 0 s.nodes ++ (whole ∷ []) ∷ []))) slots progress →
    Walked (first_steps (function_system program f) (suc k)) slots progress
function_walked program f k variables s declared whole slots progress es ed ew ep is =
    let w = code_reading program.structs in
    let last : Constraint = last_by (λ n. Returns n (Written f.result)) f.body.nodes 0 in
    walked (first_steps (function_system program f) (suc k)) slots progress
    (subst (λ (x : CodeSetting). IsWalk w (variable_count x) (take (suc k) (signature_constraints x f ∷ (constraints_from x 0 x.nodes ++ (last ∷ []) ∷ []))) slots progress) es
    (subst (λ (n : ℕ). IsWalk w n (take (suc k) (signature_constraints s f ∷ (constraints_from s 0 s.nodes ++ (last ∷ []) ∷ []))) slots progress) ep
    (subst (λ (d : List Constraint). IsWalk w variables (take (suc k) (d ∷ (constraints_from s 0 s.nodes ++ (last ∷ []) ∷ []))) slots progress) ed
    (subst (λ (x : Constraint). IsWalk w variables (take (suc k) (declared ∷ (constraints_from s 0 s.nodes ++ (x ∷ []) ∷ []))) slots progress) ew is))))

-- if more are requested than there are nodes, the first steps of a function are all its steps
pub all_walked : (program : Program) (f : Function) (k : ℕ) (slots : List Slot) (progress : Progress) → length f.body.nodes < k → Walked (first_steps (function_system program f) (suc k)) slots progress →
    Walked (function_system program f) slots progress
all_walked program f k slots progress lt is =
    let s = function_setting program f in
    let nodes = constraints_from s 0 s.nodes in
    let count : length nodes ≡ length f.body.nodes = constraints_count s 0 s.nodes in
    let last : List Constraint = last_by (λ n. Returns n (Written f.result)) s.nodes 0 ∷ [] in
    let whole = function_system program f in
    subst (λ (xs : List (List Constraint)). Walked (record { reading = whole.reading; steps = xs; variables = whole.variables; dropped = whole.dropped; open_integer = whole.open_integer }) slots progress)
    (all_taken (signature_constraints s f) nodes last k (omega (arith, count, lt))) is

pub constant_walked : (program : Program) (c : Constant) (variables : ℕ) (s : CodeSetting) (declared : List Constraint) (whole : Constraint) (slots : List Slot) (progress : Progress) →
    s ≡ constant_setting program c → declared ≡ barred_unless (is_constant_type c.annotation) → whole ≡ last_by (λ n. has n c.annotation) c.value.nodes 0 → variables ≡ variable_count s →
    IsWalk (code_reading program.structs) variables (declared ∷ (values_from s 0 s.nodes ++ (whole ∷ []) ∷ [])) slots progress → Walked (constant_system program c) slots progress
constant_walked program c variables s declared whole slots progress es ed ew ep is =
    let w = code_reading program.structs in
    let last : Constraint = last_by (λ n. has n c.annotation) c.value.nodes 0 in
    let first : List Constraint = barred_unless (is_constant_type c.annotation) in
    walked (constant_system program c) slots progress
    (subst (λ (x : CodeSetting). IsWalk w (variable_count x) (first ∷ (values_from x 0 x.nodes ++ (last ∷ []) ∷ [])) slots progress) es
    (subst (λ (n : ℕ). IsWalk w n (first ∷ (values_from s 0 s.nodes ++ (last ∷ []) ∷ [])) slots progress) ep
    (subst (λ (d : List Constraint). IsWalk w variables (d ∷ (values_from s 0 s.nodes ++ (last ∷ []) ∷ [])) slots progress) ed
    (subst (λ (x : Constraint). IsWalk w variables (declared ∷ (values_from s 0 s.nodes ++ (x ∷ []) ∷ [])) slots progress) ew is))))
