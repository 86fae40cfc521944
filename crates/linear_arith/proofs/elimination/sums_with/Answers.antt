use Rattle.std.proofs.Common.{rules, ◌≡◌, ◌≢◌, ℕ, get_or, pos, sym, ◌∙◌, subst, arith, below_more, FitsSigned}
use Rattle.std.specs.Int.{w128}
use Rattle.std.proofs.lemmas.Int.{ints}
use Rattle.linear_arith.specs.Inequality.{coefficient}
use Rattle.linear_arith.specs.Stages.{IsLeft}
use Rattle.linear_arith.specs.declared.elimination.Derived.{Derived}
use Rattle.linear_arith.proofs.ListLemmas.{get_or-any_default}
use Rattle.linear_arith.proofs.elimination.sums_with.Goals as goal
use Rattle.linear_arith.proofs.elimination.sums_with.Goals.{then-coefficient-gt0, else-coefficient-gt0+then-coefficient-lt0, else-coefficient-gt0+else-coefficient-lt0}

pub loop-made-preserved : goal.loop-made-preserved
loop-made-preserved c =
    let inv = c.loop-made.invariant in
    let live = c.args.live.now in
    let unknown = c.args.unknown in
    let i = c.loop-made.made-index in
    let made = c.made-item.result in
    let f : FitsSigned w128 c.coefficient-coefficient.result = search rules in
    let here : c.coefficient-coefficient.result ≢ pos 0 → IsLeft live unknown = λ n. record { made = made; is_live = (i, omega arith, sym c.made-item.is); stands = λ z. n (c.coefficient-coefficient.ensures ∙ z) } in
    elim c.if-coefficient-gt0.branch [
      | then-coefficient-gt0 w ↦
          let n : c.coefficient-coefficient.result ≢ pos 0 = omega (arith, ints) in
          rw (w.upper-is, w.lower-is) record { counted = omega (arith, inv.counted); left = λ _. here n; none = λ e. absurd (omega (arith, e)) }
      | else-coefficient-gt0+then-coefficient-lt0 w ↦
          let n : c.coefficient-coefficient.result ≢ pos 0 = omega (arith, ints) in
          rw (w.upper-is, w.lower-is) record { counted = omega (arith, inv.counted); left = λ _. here n; none = λ e. absurd (omega (arith, e)) }
      | else-coefficient-gt0+else-coefficient-lt0 w ↦
          let z : c.coefficient-coefficient.result ≡ pos 0 = omega (arith, ints) in
          let at : coefficient unknown made.row ≡ pos 0 = sym c.coefficient-coefficient.ensures ∙ z in
          rw (w.upper-is, w.lower-is) record {
            counted = omega (arith, inv.counted);
            left = inv.left;
            none = λ e k d l. below_more (λ (k : ℕ). (d : Derived) → coefficient unknown (get_or live k d).row ≡ pos 0) i (λ k l d. inv.none e k d l) (λ d. subst (λ (m : Derived). coefficient unknown m.row ≡ pos 0) (c.made-item.is ∙ get_or-any_default live i made d (omega arith)) at) k l d;
          }
    ]
