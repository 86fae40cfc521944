-- Tables of the loops among the first nodes, and one more.
use Rattle.std.proofs.Common.{◌≡◌, ℕ, ◌+◌, ◌<◌, Bool, true, false, ◌||◌, List, [], ◌∷◌, length, get_or, take, Some, refl, sym, ◌∙◌, ap, arith, add-one}
use Rattle.std.specs.Prelude.{slice_get, slice_index_or}
use Rattle.std.specs.List.{list_any}
use Rattle.std.proofs.Math.Seq.{take-suc}
use Rattle.std.proofs.lemmas.List.Folds.{list_any-append}
use Rattle.std.proofs.lemmas.Option.{get_or_from_slice_get, slice_get_within}
use Rattle.program.specs.CodeNodes.{CodeNode}
use Rattle.typing_rules.specs.Jumps.{loop_body, stands_in_body}
use Rattle.type_constraints.specs.CodeKnown.{TellsLoops}

any_case : {X : Type 0} (p : X → Bool) (x : X) (b : Bool) → p x ≡ b → list_any p (x ∷ []) ≡ p x
any_case p x true e = rw e refl
any_case p x false e = rw e refl

any_one : {X : Type 0} (p : X → Bool) (x : X) → list_any p (x ∷ []) ≡ p x
any_one p x = any_case p x (p x) refl

-- one more element
pub any_more : {X : Type 0} (p : X → Bool) (xs : List X) (k : ℕ) (x : X) → slice_get xs k ≡ Some x → list_any p (take (k + 1) xs) ≡ (list_any p (take k xs) || p x)
any_more {X} p xs k x e =
    let same : get_or xs k x ≡ x = get_or_from_slice_get xs k x x e in
    ap (λ (n : ℕ). list_any p (take n xs)) (add-one k)
    ∙ ap (list_any p) (take-suc xs k x (slice_get_within xs k x e))
    ∙ list_any-append p (take k xs) (get_or xs k x ∷ [])
    ∙ ap (λ (b : Bool). list_any p (take k xs) || b) (any_one p (get_or xs k x) ∙ ap p same)

pub tells_more : (old new : List Bool) (nodes : List CodeNode) (k : ℕ) (node : CodeNode) → slice_get nodes k ≡ Some node → length new ≡ length old → TellsLoops old nodes (take k nodes) → ((n : ℕ) → n < length old → slice_index_or new n false ≡ (slice_index_or old n false || stands_in_body nodes n (loop_body node))) → TellsLoops new nodes (take (k + 1) nodes)
tells_more old new nodes k node e len known marked = record {
  each = λ i h.
      let within : i < length old = omega arith in
      marked i within
      ∙ ap (λ (b : Bool). b || stands_in_body nodes i (loop_body node)) (known.each i within)
      ∙ sym (any_more (λ n. stands_in_body nodes i (loop_body n)) nodes k node e);
}
