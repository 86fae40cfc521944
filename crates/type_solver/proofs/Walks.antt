-- The steps of the nodes of spec expressions, one after another.
use Rattle.std.proofs.Common.{◌≡◌, ℕ, zero, suc, ◌+◌, ◌<◌, List, [], ◌∷◌, ◌++◌, length, take, get_or, Some, refl, sym, subst, ap, ◌∙◌, arith, append_assoc, append-nil}
use Rattle.std.specs.Prelude.{slice_get, slice_index_or}
use Rattle.std.proofs.lemmas.List.{get_or_read}
use Rattle.std.proofs.Math.Seq.{take-length}
use Rattle.typing_rules.specs.Constraint.{Constraint}
use Rattle.typing_rules.specs.Rules.{TypeReading}
use Rattle.typing_rules.specs.SpecConstraints.{SpecNode, SpecSetting, spec_constraints_at, spec_constraints_from, spec_first_argument, spec_variable_count}
use Rattle.unification.specs.declared.type_variables.slots.Slot.{Slot}
use Rattle.type_solver.specs.Walking.{IsWalk}
use Rattle.type_solver.specs.declared.walk.Progress.{Progress}
use Rattle.type_constraints.specs.SpecKnown.{AreVariables}
use Rattle.type_constraints.proofs.Sums.{take_more}

some_node : (x y : SpecNode) → Some x ≡ Some y → x ≡ y
some_node x y e = cc

-- the constraints of the node with the number n
abbrev node_step : SpecSetting → ℕ → SpecNode → List Constraint
node_step s n node = spec_constraints_at s n (spec_first_argument s n) node

at_from : (s : SpecSetting) (n k : ℕ) (nodes : List SpecNode) (node : SpecNode) → slice_get nodes k ≡ Some node → slice_get (spec_constraints_from s n nodes) k ≡ Some (node_step s (n + k) node)
at_from s n k [] node e = cc
at_from s n zero (x ∷ nodes) node e =
    ap (λ (y : SpecNode). Some (node_step s n y)) (some_node x node e) ∙ ap (λ (m : ℕ). Some (node_step s m node)) (let same : n ≡ n + 0 = omega arith in same)
at_from s n (suc k) (x ∷ nodes) node e =
    at_from s (n + 1) k nodes node e ∙ ap (λ (m : ℕ). Some (node_step s m node)) (let same : n + 1 + k ≡ n + suc k = omega arith in same)

from_length : (s : SpecSetting) (n : ℕ) (nodes : List SpecNode) → length (spec_constraints_from s n nodes) ≡ length nodes
from_length s n [] = refl
from_length s n (x ∷ nodes) = ap suc (from_length s (n + 1) nodes)

from_more : (s : SpecSetting) (nodes : List SpecNode) (k : ℕ) (node : SpecNode) → slice_get nodes k ≡ Some node →
    take (k + 1) (spec_constraints_from s 0 nodes) ≡ take k (spec_constraints_from s 0 nodes) ++ node_step s k node ∷ []
from_more s nodes k node e =
    let same : 0 + k ≡ k = omega arith in
    take_more (spec_constraints_from s 0 nodes) k (node_step s k node) (at_from s 0 k nodes node e ∙ ap (λ (m : ℕ). Some (node_step s m node)) same)

from_whole : (s : SpecSetting) (nodes : List SpecNode) (k : ℕ) → k ≡ length nodes → take k (spec_constraints_from s 0 nodes) ≡ spec_constraints_from s 0 nodes
from_whole s nodes k e = ap (λ (n : ℕ). take n (spec_constraints_from s 0 nodes)) (e ∙ sym (from_length s 0 nodes)) ∙ take-length (spec_constraints_from s 0 nodes)

found_at : (nodes : List SpecNode) (k : ℕ) → k < length nodes → (node : SpecNode) × (slice_get nodes k ≡ Some node)
found_at [] k lt = absurd (omega (arith, lt))
found_at (x ∷ nodes) zero lt = (x, refl)
found_at (x ∷ nodes) (suc k) lt = found_at nodes k (omega (arith, lt))

-- ---- type variables

-- the type variable of the first type argument of a node, from the table
pub first_known : (s : SpecSetting) (firsts : List ℕ) (k first : ℕ) → AreVariables s firsts → k < length firsts → first ≡ get_or firsts k first → first ≡ spec_first_argument s k
first_known s firsts k first known lt is = get_or_read firsts k first lt is 0 ∙ known.each k lt

-- the number of type variables, which comes last in the table
pub count_known : (s : SpecSetting) (firsts : List ℕ) (n count : ℕ) → length firsts ≡ length s.nodes + 1 → n ≡ length s.nodes → count ≡ get_or firsts n count → slice_index_or firsts (length s.nodes) 0 ≡ spec_variable_count s →
    count ≡ spec_variable_count s
count_known s firsts n count len at is last = get_or_read firsts n count (omega (arith, len, at)) is 0 ∙ ap (λ (k : ℕ). get_or firsts k 0) at ∙ last

-- ---- walks

pub walk_start : (w : TypeReading) (n : ℕ) (a : List Slot) (walk : Progress) (steps : List (List Constraint)) → IsWalk w n steps a walk → IsWalk w n (steps ++ []) a walk
walk_start w n a walk steps is = subst (λ (xs : List (List Constraint)). IsWalk w n xs a walk) (sym (append-nil steps)) is

pub walk_more : (w : TypeReading) (n : ℕ) (a b c : List Slot) (before mid after : Progress) (s : SpecSetting) (k first : ℕ) (constraints : List Constraint) → k < length s.nodes → first ≡ spec_first_argument s k →
    ((steps : List (List Constraint)) → IsWalk w n steps a before → IsWalk w n (steps ++ take k (spec_constraints_from s 0 s.nodes)) b mid) →
    ((node : SpecNode) → slice_get s.nodes k ≡ Some node → constraints ≡ spec_constraints_at s k first node) → ((steps : List (List Constraint)) → IsWalk w n steps b mid → IsWalk w n (steps ++ constraints ∷ []) c after) →
    (steps : List (List Constraint)) → IsWalk w n steps a before → IsWalk w n (steps ++ take (k + 1) (spec_constraints_from s 0 s.nodes)) c after
walk_more w n a b c before mid after s k first constraints lt at so_far asks one steps walk =
    let found = found_at s.nodes k lt in
    subst (λ (xs : List (List Constraint)). IsWalk w n xs c after)
    (append_assoc steps (take k (spec_constraints_from s 0 s.nodes)) (constraints ∷ [])
    ∙ ap (λ (d : List Constraint). steps ++ (take k (spec_constraints_from s 0 s.nodes) ++ d ∷ [])) (asks found.0 found.1 ∙ ap (λ (m : ℕ). spec_constraints_at s k m found.0) at)
    ∙ ap (λ (xs : List (List Constraint)). steps ++ xs) (sym (from_more s s.nodes k found.0 found.1)))
    (one (steps ++ take k (spec_constraints_from s 0 s.nodes)) (so_far steps walk))

pub walk_end : (w : TypeReading) (n : ℕ) (c : List Slot) (after : Progress) (s : SpecSetting) (k : ℕ) (steps : List (List Constraint)) → k ≡ length s.nodes → IsWalk w n (steps ++ take k (spec_constraints_from s 0 s.nodes)) c after →
    IsWalk w n (steps ++ spec_constraints_from s 0 s.nodes) c after
walk_end w n c after s k steps e is = subst (λ (xs : List (List Constraint)). IsWalk w n (steps ++ xs) c after) (from_whole s s.nodes k e) is
