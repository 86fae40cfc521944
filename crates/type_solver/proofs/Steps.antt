-- The steps of the nodes of code, one after another.
use Rattle.std.proofs.Common.{◌≡◌, ℕ, zero, suc, ◌+◌, ◌<◌, ◌≤◌, ◌++◌, List, [], ◌∷◌, length, take, sum_by, Some, refl, sym, ap, subst, ◌∙◌, arith, if◌then◌else◌}
use Rattle.std.specs.Prelude.{slice_get}
use Rattle.std.proofs.lemmas.List.Sums.{sum_by_push}
use Rattle.program.specs.CodeNodes.{CodeNode}
use Rattle.typing_rules.specs.Constraint.{Constraint, Barred}
use Rattle.typing_rules.specs.Settings.{CodeSetting, first_argument, variable_count, node_arity}
use Rattle.typing_rules.specs.CodeConstraints.{constraints_at, constraints_from}
use Rattle.typing_rules.specs.CodeSystems.{is_constant_node, value_constraints, values_from}
use Rattle.typing_rules.specs.Rules.{TypeReading}
use Rattle.type_solver.specs.Walking.{IsWalk}
use Rattle.type_solver.specs.declared.walk.Progress.{Progress}
use Rattle.unification.specs.declared.type_variables.slots.Slot.{Slot}

-- the constraints of nodes, the first of which has the number n
abbrev steps_from : (ℕ → CodeNode → List Constraint) → ℕ → List CodeNode → List (List Constraint)
steps_from g n [] = []
steps_from g n (node ∷ rest) = g n node ∷ steps_from g (n + 1) rest

constraints_steps : (s : CodeSetting) (n : ℕ) (nodes : List CodeNode) → constraints_from s n nodes ≡ steps_from (λ k node. constraints_at s k (first_argument s k) node) n nodes
constraints_steps s n [] = refl
constraints_steps s n (node ∷ rest) = ap (λ (xs : List (List Constraint)). constraints_at s n (first_argument s n) node ∷ xs) (constraints_steps s (n + 1) rest)

values_steps : (s : CodeSetting) (n : ℕ) (nodes : List CodeNode) → values_from s n nodes ≡ steps_from (λ k node. value_constraints s k node) n nodes
values_steps s n [] = refl
values_steps s n (node ∷ rest) = ap (λ (xs : List (List Constraint)). value_constraints s n node ∷ xs) (values_steps s (n + 1) rest)

some_node : (x y : CodeNode) → Some x ≡ Some y → x ≡ y
some_node x y e = cc

steps_next : (g : ℕ → CodeNode → List Constraint) (n i : ℕ) (nodes : List CodeNode) (node : CodeNode) → slice_get nodes i ≡ Some node →
    take (suc i) (steps_from g n nodes) ≡ take i (steps_from g n nodes) ++ g (n + i) node ∷ []
steps_next g n i [] node is = cc
steps_next g n zero (x ∷ nodes) node is =
    ap (λ (y : CodeNode). g n y ∷ []) (some_node x node is) ∙ ap (λ (k : ℕ). g k node ∷ []) (let e : n ≡ n + 0 = omega arith in e)
steps_next g n (suc i) (x ∷ nodes) node is =
    ap (λ (xs : List (List Constraint)). g n x ∷ xs) (steps_next g (n + 1) i nodes node is ∙ ap (λ (k : ℕ). take i (steps_from g (n + 1) nodes) ++ g k node ∷ []) (let e : n + 1 + i ≡ n + suc i = omega arith in e))

steps_all : (g : ℕ → CodeNode → List Constraint) (n i : ℕ) (nodes : List CodeNode) → length nodes ≤ i → take i (steps_from g n nodes) ≡ steps_from g n nodes
steps_all g n zero [] le = refl
steps_all g n (suc i) [] le = refl
steps_all g n zero (x ∷ nodes) le = absurd (omega (arith, le))
steps_all g n (suc i) (x ∷ nodes) le = ap (λ (xs : List (List Constraint)). g n x ∷ xs) (steps_all g (n + 1) i nodes (omega (arith, le)))

node_of : (nodes : List CodeNode) (i : ℕ) → i < length nodes → (node : CodeNode) × (slice_get nodes i ≡ Some node)
node_of [] i lt = absurd (omega (arith, lt))
node_of (x ∷ nodes) zero lt = (x, refl)
node_of (x ∷ nodes) (suc i) lt = node_of nodes i (omega (arith, lt))

take_node : (nodes : List CodeNode) (i : ℕ) (node : CodeNode) → slice_get nodes i ≡ Some node → take (suc i) nodes ≡ take i nodes ++ node ∷ []
take_node [] i node is = cc
take_node (x ∷ nodes) zero node is = ap (λ (y : CodeNode). y ∷ []) (some_node x node is)
take_node (x ∷ nodes) (suc i) node is = ap (λ (xs : List CodeNode). x ∷ xs) (take_node nodes i node is)

take_nodes : (nodes : List CodeNode) (i : ℕ) → length nodes ≤ i → take i nodes ≡ nodes
take_nodes [] zero le = refl
take_nodes [] (suc i) le = refl
take_nodes (x ∷ nodes) zero le = absurd (omega (arith, le))
take_nodes (x ∷ nodes) (suc i) le = ap (λ (xs : List CodeNode). x ∷ xs) (take_nodes nodes i (omega (arith, le)))

-- ---- type variables

pub next_argument : (s : CodeSetting) (i next first : ℕ) (node : CodeNode) → slice_get s.nodes i ≡ Some node → first ≡ first_argument s i → next ≡ first + node_arity s.program node →
    next ≡ first_argument s (i + 1)
next_argument s i next first node is at e =
    let sum : sum_by (node_arity s.program) (take (i + 1) s.nodes) ≡ sum_by (node_arity s.program) (take i s.nodes) + node_arity s.program node =
    ap (λ (k : ℕ). sum_by (node_arity s.program) (take k s.nodes)) (let k : i + 1 ≡ suc i = omega arith in k)
    ∙ ap (sum_by (node_arity s.program)) (take_node s.nodes i node is) ∙ sum_by_push (node_arity s.program) (take i s.nodes) node in
    omega (arith, e, at, sum)

pub all_arguments : (s : CodeSetting) (i first : ℕ) → length s.nodes ≤ i → first ≡ first_argument s i → first ≡ variable_count s
all_arguments s i first le at = at ∙ ap (λ (xs : List CodeNode). (length s.nodes + s.locals) + sum_by (node_arity s.program) xs) (take_nodes s.nodes i le)

-- ---- walks

behind_all : (xs ys zs : List (List Constraint)) → (xs ++ ys) ++ zs ≡ xs ++ (ys ++ zs)
behind_all [] ys zs = refl
behind_all (x ∷ xs) ys zs = ap (λ (l : List (List Constraint)). x ∷ l) (behind_all xs ys zs)

none_behind : (xs : List (List Constraint)) → xs ++ [] ≡ xs
none_behind [] = refl
none_behind (x ∷ xs) = ap (λ (l : List (List Constraint)). x ∷ l) (none_behind xs)

pub goes_none : (w : TypeReading) (n : ℕ) (a : List Slot) (walk : Progress) (steps : List (List Constraint)) → IsWalk w n steps a walk → IsWalk w n (steps ++ []) a walk
goes_none w n a walk steps is = subst (λ (xs : List (List Constraint)). IsWalk w n xs a walk) (sym (none_behind steps)) is

goes_more : (w : TypeReading) (n : ℕ) (a b c : List Slot) (before mid after : Progress) (g : ℕ → CodeNode → List Constraint) (nodes : List CodeNode) (i : ℕ) (ds : List Constraint) → i < length nodes →
    ((steps : List (List Constraint)) → IsWalk w n steps a before → IsWalk w n (steps ++ take i (steps_from g 0 nodes)) b mid) → ((node : CodeNode) → slice_get nodes i ≡ Some node → ds ≡ g i node) →
    ((steps : List (List Constraint)) → IsWalk w n steps b mid → IsWalk w n (steps ++ ds ∷ []) c after) →
    (steps : List (List Constraint)) → IsWalk w n steps a before → IsWalk w n (steps ++ take (i + 1) (steps_from g 0 nodes)) c after
goes_more w n a b c before mid after g nodes i ds lt so_far asks one steps walk =
    let found = node_of nodes i lt in
    subst (λ (xs : List (List Constraint)). IsWalk w n xs c after)
    (behind_all steps (take i (steps_from g 0 nodes)) (ds ∷ [])
    ∙ ap (λ (d : List Constraint). steps ++ (take i (steps_from g 0 nodes) ++ d ∷ [])) (asks found.0 found.1)
    ∙ ap (λ (k : ℕ). steps ++ (take i (steps_from g 0 nodes) ++ g k found.0 ∷ [])) (let z : i ≡ 0 + i = omega arith in z)
    ∙ ap (λ (xs : List (List Constraint)). steps ++ xs) (sym (steps_next g 0 i nodes found.0 found.1))
    ∙ ap (λ (k : ℕ). steps ++ take k (steps_from g 0 nodes)) (let k : suc i ≡ i + 1 = omega arith in k))
    (one (steps ++ take i (steps_from g 0 nodes)) (so_far steps walk))

pub constraints_more : (w : TypeReading) (n : ℕ) (a b c : List Slot) (before mid after : Progress) (s : CodeSetting) (i first : ℕ) (ds : List Constraint) → i < length s.nodes → first ≡ first_argument s i →
    ((steps : List (List Constraint)) → IsWalk w n steps a before → IsWalk w n (steps ++ take i (constraints_from s 0 s.nodes)) b mid) →
    ((node : CodeNode) → slice_get s.nodes i ≡ Some node → ds ≡ constraints_at s i first node) → ((steps : List (List Constraint)) → IsWalk w n steps b mid → IsWalk w n (steps ++ ds ∷ []) c after) →
    (steps : List (List Constraint)) → IsWalk w n steps a before → IsWalk w n (steps ++ take (i + 1) (constraints_from s 0 s.nodes)) c after
constraints_more w n a b c before mid after s i first ds lt at so_far asks one steps walk =
    let e = constraints_steps s 0 s.nodes in
    subst (λ (xs : List (List Constraint)). IsWalk w n (steps ++ take (i + 1) xs) c after) (sym e)
    (goes_more w n a b c before mid after (λ k x. constraints_at s k (first_argument s k) x) s.nodes i ds lt
    (λ others is_walk. subst (λ (xs : List (List Constraint)). IsWalk w n (others ++ take i xs) b mid) e (so_far others is_walk))
    (λ node is. asks node is ∙ ap (λ (k : ℕ). constraints_at s i k node) at) one steps walk)

pub values_more : (w : TypeReading) (n : ℕ) (a b c : List Slot) (before mid after : Progress) (s : CodeSetting) (i first : ℕ) (ds : List Constraint) → i < length s.nodes → first ≡ first_argument s i →
    ((steps : List (List Constraint)) → IsWalk w n steps a before → IsWalk w n (steps ++ take i (values_from s 0 s.nodes)) b mid) →
    ((node : CodeNode) → slice_get s.nodes i ≡ Some node → ds ≡ (if is_constant_node node then constraints_at s i first node else Barred ∷ [])) →
    ((steps : List (List Constraint)) → IsWalk w n steps b mid → IsWalk w n (steps ++ ds ∷ []) c after) →
    (steps : List (List Constraint)) → IsWalk w n steps a before → IsWalk w n (steps ++ take (i + 1) (values_from s 0 s.nodes)) c after
values_more w n a b c before mid after s i first ds lt at so_far asks one steps walk =
    let e = values_steps s 0 s.nodes in
    subst (λ (xs : List (List Constraint)). IsWalk w n (steps ++ take (i + 1) xs) c after) (sym e)
    (goes_more w n a b c before mid after (λ k x. value_constraints s k x) s.nodes i ds lt
    (λ others is_walk. subst (λ (xs : List (List Constraint)). IsWalk w n (others ++ take i xs) b mid) e (so_far others is_walk))
    (λ node is. asks node is ∙ ap (λ (k : ℕ). if is_constant_node node then constraints_at s i k node else Barred ∷ []) at) one steps walk)

pub constraints_end : (w : TypeReading) (n : ℕ) (c : List Slot) (after : Progress) (s : CodeSetting) (i count : ℕ) (steps : List (List Constraint)) → i ≡ count → IsWalk w n (steps ++ take i (constraints_from s 0 s.nodes)) c after →
    IsWalk w n (steps ++ take count (constraints_from s 0 s.nodes)) c after
constraints_end w n c after s i count steps e is = subst (λ (k : ℕ). IsWalk w n (steps ++ take k (constraints_from s 0 s.nodes)) c after) e is

pub values_end : (w : TypeReading) (n : ℕ) (c : List Slot) (after : Progress) (s : CodeSetting) (i : ℕ) (steps : List (List Constraint)) → length s.nodes ≤ i → IsWalk w n (steps ++ take i (values_from s 0 s.nodes)) c after →
    IsWalk w n (steps ++ values_from s 0 s.nodes) c after
values_end w n c after s i steps le is = subst (λ (xs : List (List Constraint)). IsWalk w n (steps ++ xs) c after)
    (ap (take i) (values_steps s 0 s.nodes) ∙ steps_all (λ k node. value_constraints s k node) 0 i s.nodes le ∙ sym (values_steps s 0 s.nodes)) is
