-- Sums over the first nodes, and one more.
use Rattle.std.proofs.Common.{◌≡◌, ℕ, ◌+◌, ◌<◌, List, [], ◌∷◌, ◌++◌, take, get_or, length, sum_by, Some, sym, subst, ◌∙◌, ap, inl, inr, arith, add-one}
use Rattle.std.specs.Prelude.{slice_get}
use Rattle.std.specs.List.{flat_map}
use Rattle.std.proofs.Math.Seq.{get_or-append_seam, take-suc, take-length}
use Rattle.std.proofs.lemmas.Bool.Decides.{eqb_tells}
use Rattle.std.proofs.lemmas.Grind.{flat_map-append}
use Rattle.std.proofs.lemmas.List.{append-nil, get_or_append_left, length-append}
use Rattle.std.proofs.lemmas.List.Sums.{sum_by-append}
use Rattle.std.proofs.lemmas.Option.{get_or_from_slice_get, slice_get_within}
use Rattle.typing_rules.specs.SpecConstraints.{SpecNode, SpecSetting, bind_constraints, binds_in, declared_variables, spec_first_argument, spec_node_arity, spec_variable_count}
use Rattle.type_constraints.specs.SpecSettings.{variables_of}
use Rattle.type_constraints.specs.SpecKnown.{AreVariables}

pub take_more : {X : Type 0} (xs : List X) (k : ℕ) (x : X) → slice_get xs k ≡ Some x → take (k + 1) xs ≡ take k xs ++ x ∷ []
take_more xs k x e =
    ap (λ (n : ℕ). take n xs) (add-one k)
    ∙ take-suc xs k x (slice_get_within xs k x e)
    ∙ ap (λ y. take k xs ++ y ∷ []) (get_or_from_slice_get xs k x x e)

pub sum_more : {X : Type 0} (f : X → ℕ) (xs : List X) (k : ℕ) (x : X) → slice_get xs k ≡ Some x → sum_by f (take (k + 1) xs) ≡ sum_by f (take k xs) + f x
sum_more f xs k x e =
    let one : sum_by f (x ∷ []) ≡ f x = omega arith in
    ap (sum_by f) (take_more xs k x e) ∙ sum_by-append f (take k xs) (x ∷ []) ∙ ap (λ (n : ℕ). sum_by f (take k xs) + n) one

pub first_more : (s : SpecSetting) (n : ℕ) (node : SpecNode) → slice_get s.nodes n ≡ Some node → spec_first_argument s (n + 1) ≡ spec_first_argument s n + spec_node_arity s.program node
first_more s n node e =
    let more : sum_by (spec_node_arity s.program) (take (n + 1) s.nodes) ≡ sum_by (spec_node_arity s.program) (take n s.nodes) + spec_node_arity s.program node = sum_more (spec_node_arity s.program) s.nodes n node e in
    omega arith

-- no type variable comes after those of the last node
pub first_last : (s : SpecSetting) → spec_first_argument s (length s.nodes) ≡ spec_variable_count s
first_last s = ap (λ (nodes : List SpecNode). (length s.nodes + s.variables) + sum_by (spec_node_arity s.program) nodes) (take-length s.nodes)

pub variables_more : (nodes : List SpecNode) (n : ℕ) (node : SpecNode) → slice_get nodes n ≡ Some node → variables_of (take (n + 1) nodes) ≡ variables_of (take n nodes) + length (binds_in node)
variables_more nodes n node e = sum_more (λ node. length (binds_in node)) nodes n node e

pub variables_step : (nodes : List SpecNode) (n : ℕ) (node : SpecNode) (count more total : ℕ) → slice_get nodes n ≡ Some node → count ≡ variables_of (take n nodes) → more ≡ length (binds_in node) → total ≡ count + more → total ≡ variables_of (take (n + 1) nodes)
variables_step nodes n node count more total e c m t =
    let step : variables_of (take (n + 1) nodes) ≡ variables_of (take n nodes) + length (binds_in node) = variables_more nodes n node e in
    omega arith

pub first_step : (s : SpecSetting) (n : ℕ) (node : SpecNode) (next more total : ℕ) → slice_get s.nodes n ≡ Some node → next ≡ spec_first_argument s n → more ≡ spec_node_arity s.program node → total ≡ next + more → total ≡ spec_first_argument s (n + 1)
first_step s n node next more total e c m t =
    let step : spec_first_argument s (n + 1) ≡ spec_first_argument s n + spec_node_arity s.program node = first_more s n node e in
    omega arith

pub variables_last : (nodes : List SpecNode) → variables_of (take (length nodes) nodes) ≡ variables_of nodes
variables_last nodes = ap variables_of (take-length nodes)

-- the declarations of the first nodes, and of one more
pub declared_more : (s : SpecSetting) (nodes : List SpecNode) (n : ℕ) (node : SpecNode) → slice_get nodes n ≡ Some node → flat_map (bind_constraints s) (flat_map binds_in (take (n + 1) nodes)) ≡ flat_map (bind_constraints s) (flat_map binds_in (take n nodes)) ++ flat_map (bind_constraints s) (binds_in node)
declared_more s nodes n node e =
    ap (λ (ns : List SpecNode). flat_map (bind_constraints s) (flat_map binds_in ns)) (take_more nodes n node e)
    ∙ ap (flat_map (bind_constraints s)) (flat_map-append binds_in (take n nodes) (node ∷ []))
    ∙ flat_map-append (bind_constraints s) (flat_map binds_in (take n nodes)) (flat_map binds_in (node ∷ []))
    ∙ ap (λ bs. flat_map (bind_constraints s) (flat_map binds_in (take n nodes)) ++ flat_map (bind_constraints s) bs) (append-nil (binds_in node))

pub declared_last : (s : SpecSetting) → flat_map (bind_constraints s) (flat_map binds_in (take (length s.nodes) s.nodes)) ≡ declared_variables s
declared_last s = ap (λ (ns : List SpecNode). flat_map (bind_constraints s) (flat_map binds_in ns)) (take-length s.nodes)

-- the type variables of the first type arguments of the first nodes, and of one more
pub type_variables_more : (s : SpecSetting) (variables : List ℕ) (next : ℕ) → next ≡ spec_first_argument s (length variables) → AreVariables s variables → AreVariables s (variables ++ next ∷ [])
type_variables_more s variables next e are = record {
  each = λ n lt.
      elim (eqb_tells n (length variables)) [
        | inl h ↦ subst (λ (q : ℕ). get_or (variables ++ next ∷ []) q 0 ≡ spec_first_argument s q) (sym h.1) (get_or-append_seam variables next [] 0 ∙ e)
        | inr h ↦ (let lower : n < length variables = omega (arith, lt, h.1, length-append variables (next ∷ [])) in get_or_append_left variables (next ∷ []) 0 n lower ∙ are.each n lower)
      ];
}

-- the last of them is the number of type variables
pub type_variables_last : (s : SpecSetting) (variables : List ℕ) (next : ℕ) → length variables ≡ length s.nodes → next ≡ spec_first_argument s (length variables) → get_or (variables ++ next ∷ []) (length s.nodes) 0 ≡ spec_variable_count s
type_variables_last s variables next len e =
    subst (λ (n : ℕ). get_or (variables ++ next ∷ []) n 0 ≡ spec_variable_count s) len
    (get_or-append_seam variables next [] 0 ∙ e ∙ ap (spec_first_argument s) len ∙ first_last s)
