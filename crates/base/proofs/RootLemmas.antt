-- The roots at the labels are those of the components.
use Rattle.std.proofs.Common.{◌≡◌, ℕ, ◌<◌, List, [], length, get_or, Option, Some, Result, Ok, Err, sym, ◌∙◌, ap, subst, arith}
use Rattle.std.specs.Prelude.{IfOk}
use Rattle.base.specs.declared.cycles.walk.Mark.{Mark}
use Rattle.base.specs.declared.cycles.walk.Mark.TheVariants.{Finished}
use Rattle.base.specs.GraphReachability.{AreMirrored, AreTogether, AreRoots}
use Rattle.base.specs.Walking.{mark, IsSeen, IsWalk}
use Rattle.base.specs.Labelling.{label, root_of, AreNumbers, NoneIsOpen, IsLabelling}
use Rattle.base.proofs.WalkLemmas.{seen_within}
use Rattle.base.proofs.CycleLemmas.{root_together, same_label}

finished_seen : (marks : List Mark) (i k : ℕ) → mark marks i ≡ Finished k → IsSeen marks i
finished_seen marks i k f u = cc

module _ (graph sources : List (List ℕ)) (marks : List Mark) (order : List ℕ) (labels : List (Option ℕ)) (mirrored : AreMirrored graph sources) (walk : IsWalk graph marks order []) (seen : (i : ℕ) → i < length graph → IsSeen marks i) (labelling : IsLabelling sources order 0 labels [] NoneIsOpen) where
  numbers : AreNumbers sources order
  numbers k b =
      let f = walk.ordered k b in
      let w = seen_within marks (get_or order k 0) (finished_seen marks (get_or order k 0) k f) in
      let size = walk.long in
      let half = mirrored.same in
      omega arith

  root_is : (roots : List ℕ) (i m : ℕ) → get_or roots i 0 ≡ root_of order (label labels i) → label labels i ≡ Some m → get_or roots i 0 ≡ get_or order m 0
  root_is roots i m e l = e ∙ ap (root_of order) l

  pub are_roots : (roots : List ℕ) → length roots ≡ length labels → ((i : ℕ) → i < length labels → get_or roots i 0 ≡ root_of order (label labels i)) → AreRoots graph roots
  are_roots roots long each =
      let size = labelling.long in
      let half = mirrored.same in
      record {
        same = omega arith;
        within = λ i b.
            let t = root_together graph sources marks order labels mirrored walk seen labelling i b in
            let n = numbers t.0 t.2 in
            let e = root_is roots i t.0 (each i (omega arith)) t.1 in
            omega arith;
        led = λ i b.
            let t = root_together graph sources marks order labels mirrored walk seen labelling i b in
            subst (λ (x : ℕ). AreTogether graph i x) (sym (root_is roots i t.0 (each i (omega arith)) t.1)) t.3;
        one = λ i j b d h.
            each i (omega arith) ∙ ap (root_of order) (same_label graph sources marks order labels mirrored walk seen labelling i j b d h) ∙ sym (each j (omega arith));
      }

-- the same for the values that the code reads
pub roots_read : (graph g sources : List (List ℕ)) (marks : List Mark) (order o p : List ℕ) (labels ls : List (Option ℕ)) → g ≡ graph → AreMirrored graph sources → IsWalk g marks order [] → ((i : ℕ) → i < length g → IsSeen marks i) → o ≡ order → p ≡ order → IsLabelling sources o 0 labels [] NoneIsOpen → ls ≡ labels
    → (roots : List ℕ) → length roots ≡ length ls → ((i : ℕ) → i < length ls → get_or roots i 0 ≡ root_of p (label ls i)) → AreRoots graph roots
roots_read graph g sources marks order o p labels ls same mirrored walk seen ordered again labelling valued roots long each =
    are_roots graph sources marks order ls mirrored
    (subst (λ (x : List (List ℕ)). IsWalk x marks order []) same walk)
    (subst (λ (x : List (List ℕ)). (k : ℕ) → k < length x → IsSeen marks k) same seen)
    (subst (λ (x : List (Option ℕ)). IsLabelling sources order 0 x [] NoneIsOpen) (sym valued) (subst (λ (x : List ℕ). IsLabelling sources x 0 labels [] NoneIsOpen) ordered labelling))
    roots long
    (subst (λ (x : List ℕ). (i : ℕ) → i < length ls → get_or roots i 0 ≡ root_of x (label ls i)) again each)

-- two properties of one result
pub both_ok : {T E : Type 0} (r : Result T E) (P Q R : T → Type 0) → ((x : T) → P x → Q x → R x) → IfOk r P → IfOk r Q → IfOk r R
both_ok (Ok x) P Q R f p q = f x p q
both_ok (Err e) P Q R f p q = tt
