-- The type variables whose values nodes drop, node by node.
use Rattle.std.proofs.Common.{◌≡◌, ℕ, zero, suc, ◌+◌, ◌<◌, ◌≤◌, ◌++◌, List, [], ◌∷◌, length, take, flat_map, All, Some, refl, sym, ap, ◌∙◌, arith}
use Rattle.std.specs.Prelude.{slice_get}
use Rattle.program.specs.CodeNodes.{CodeNode}
use Rattle.typing_rules.specs.CodeSystems.{dropped_by}

none_behind : (xs : List ℕ) → xs ++ [] ≡ xs
none_behind [] = refl
none_behind (x ∷ xs) = ap (λ (l : List ℕ). x ∷ l) (none_behind xs)

behind_all : (xs ys zs : List ℕ) → (xs ++ ys) ++ zs ≡ xs ++ (ys ++ zs)
behind_all [] ys zs = refl
behind_all (x ∷ xs) ys zs = ap (λ (l : List ℕ). x ∷ l) (behind_all xs ys zs)

same_node : (x y : CodeNode) → Some x ≡ Some y → x ≡ y
same_node x y e = cc

dropped_next : (nodes : List CodeNode) (i : ℕ) (node : CodeNode) → slice_get nodes i ≡ Some node → flat_map dropped_by (take (suc i) nodes) ≡ flat_map dropped_by (take i nodes) ++ dropped_by node
dropped_next [] i node is = cc
dropped_next (x ∷ nodes) zero node is = none_behind (dropped_by x) ∙ ap dropped_by (same_node x node is)
dropped_next (x ∷ nodes) (suc i) node is =
    ap (λ (l : List ℕ). dropped_by x ++ l) (dropped_next nodes i node is) ∙ sym (behind_all (dropped_by x) (flat_map dropped_by (take i nodes)) (dropped_by node))

pub dropped_more : (nodes : List CodeNode) (i : ℕ) (node : CodeNode) (old new : List ℕ) → slice_get nodes i ≡ Some node → old ≡ flat_map dropped_by (take i nodes) → new ≡ old ++ dropped_by node →
    new ≡ flat_map dropped_by (take (i + 1) nodes)
dropped_more nodes i node old new is e more =
    more ∙ ap (λ (l : List ℕ). l ++ dropped_by node) e ∙ sym (dropped_next nodes i node is) ∙ ap (λ (k : ℕ). flat_map dropped_by (take k nodes)) (let k : suc i ≡ i + 1 = omega arith in k)

take_past : (k : ℕ) (xs : List CodeNode) → length xs ≤ k → take k xs ≡ xs
take_past zero [] le = refl
take_past zero (x ∷ xs) le = absurd (omega (arith, le))
take_past (suc k) [] le = refl
take_past (suc k) (x ∷ xs) le = ap (λ (l : List CodeNode). x ∷ l) (take_past k xs (omega (arith, le)))

pub dropped_all : (nodes : List CodeNode) (i : ℕ) (dropped : List ℕ) → length nodes ≤ i → dropped ≡ flat_map dropped_by (take i nodes) → dropped ≡ flat_map dropped_by nodes
dropped_all nodes i dropped le e = e ∙ ap (flat_map dropped_by) (take_past i nodes le)

pub all_below : (a b : ℕ) (xs : List ℕ) → a ≤ b → All (λ p. p < a) xs → All (λ p. p < b) xs
all_below a b xs le each k d lt = let h = each k d lt in omega (arith, h, le)
