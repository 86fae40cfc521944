use Rattle.std.proofs.Common.{rules, refl, sym, ap, ◌∙◌, subst, below_more, pos, ◌≢◌, ◌≡◌, ℕ, ◌*ℤ◌, List, ◌+◌, ◌<◌, length, Bool, true, false, [], ◌∷◌, ◌++◌, ℤ, FitsSigned, get_or, length-append}
use Rattle.std.specs.Prelude.{if◌then◌else◌, ◌==◌}
use Rattle.std.specs.Int.{w128}
use Rattle.std.proofs.lemmas.Bool.{eq-eqb, ne_eqb}
use Rattle.std.proofs.lemmas.Int.{to_z-of_z}
use Rattle.linear_arith.specs.Fits.{Fits}
use Rattle.linear_arith.proofs.ListLemmas.{each-push}
use Rattle.linear_arith.proofs.substitution.scaled_without.Goals as goal
use Rattle.linear_arith.proofs.substitution.scaled_without.Goals.{then-i-unknown+in_ok-push, else-i-unknown+in-Some+in_ok-push-2}

here : (t : Bool) (a b : ℤ) → t ≡ true → a ≡ pos 0 → a ≡ (if t then pos 0 else b)
here true a b e z = z
here false a b e z = absurd (cc)

there : (t : Bool) (a b : ℤ) → t ≡ false → a ≡ b → a ≡ (if t then pos 0 else b)
there true a b e z = absurd (cc)
there false a b e z = z

-- one more number
scaled-push : (factor : ℤ) (unknown : ℕ) (row cs : List ℤ) (i : ℕ) (z : ℤ) → length cs ≡ i → ((k : ℕ) → k < i → get_or cs k (pos 0) ≡ (if k == unknown then pos 0 else (factor *ℤ get_or row k (pos 0)))) → z ≡ (if i == unknown then pos 0 else (factor *ℤ get_or row i (pos 0))) → (k : ℕ) → k < i + 1 → get_or (cs ++ z ∷ []) k (pos 0) ≡ (if k == unknown then pos 0 else (factor *ℤ get_or row k (pos 0)))
scaled-push factor unknown row cs i z e made now = each-push (λ (k : ℕ) (x : ℤ). x ≡ (if k == unknown then pos 0 else (factor *ℤ get_or row k (pos 0)))) cs z (pos 0) i (sym e) made now

fits-more : (factor : ℤ) (unknown : ℕ) (row : List ℤ) (i : ℕ) → ((k : ℕ) → k < i → k ≢ unknown → Fits (factor *ℤ get_or row k (pos 0))) → (i ≢ unknown → Fits (factor *ℤ get_or row i (pos 0))) → (k : ℕ) → k < i + 1 → k ≢ unknown → Fits (factor *ℤ get_or row k (pos 0))
fits-more factor unknown row i before now = below_more (λ (k : ℕ). k ≢ unknown → Fits (factor *ℤ get_or row k (pos 0))) i before now

pub loop-i-preserved : goal.loop-i-preserved
loop-i-preserved c =
    let inv = c.loop-i.invariant in
    let i = c.loop-i.i in
    let unknown = c.args.unknown in
    let row = c.args.row.now.coefficients in
    let factor = c.args.factor in
    let cs = c.loop-i.coefficients.items in
    let ff : FitsSigned w128 factor = c.ranges.factor in
    let made = simp to_z-of_z at inv.made in
    let fits = simp to_z-of_z at inv.fits in
    elim c.if-i-unknown.branch [
      | then-i-unknown+in_ok-push w ↦
          let e : i ≡ unknown = w.if-i-unknown.true in
          rw (to_z-of_z w128 factor ff, w.coefficients-is, w.in_ok-push.ensures.items) record {
            len = length-append cs (pos 0 ∷ []) ∙ ap (λ (n : ℕ). n + 1) inv.len;
            made = scaled-push factor unknown row cs i (pos 0) inv.len made (here (i == unknown) (pos 0) (factor *ℤ get_or row i (pos 0)) (eq-eqb i unknown e) refl);
            fits = fits-more factor unknown row i fits (λ n. absurd (n e));
          }
      | else-i-unknown+in-Some+in_ok-push-2 w ↦
          let n : i ≢ unknown = w.if-i-unknown.false in
          let items = c.coefficients-number-items.result.now in
          let at : get_or items i (pos 0) ≡ get_or row i (pos 0) = ap (λ (xs : List ℤ). get_or xs i (pos 0)) c.coefficients-number-items.ensures in
          let fi : FitsSigned w128 (get_or items i (pos 0)) = search rules in
          let fp : FitsSigned w128 w.in-Some.product = search rules in
          let h = simp to_z-of_z at w.in-Some.ensures in
          let pushed = simp to_z-of_z at w.in_ok-push-2.ensures.items in
          rw (to_z-of_z w128 factor ff, w.coefficients-is, pushed) record {
            len = length-append cs (w.in-Some.product ∷ []) ∙ ap (λ (n : ℕ). n + 1) inv.len;
            made = scaled-push factor unknown row cs i w.in-Some.product inv.len made (there (i == unknown) w.in-Some.product (factor *ℤ get_or row i (pos 0)) (ne_eqb i unknown n) (h.1 ∙ ap (λ (z : ℤ). factor *ℤ z) at));
            fits = fits-more factor unknown row i fits (λ _. subst (λ (z : ℤ). Fits (factor *ℤ z)) at h.0);
          }
    ]
