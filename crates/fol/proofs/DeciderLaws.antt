-- The laws of tests that decide which properties all values have.
use Rattle.std.proofs.Common.{◌≡◌, Bool, true, false, ◌⊎◌, ◌↔◌, inl, inr, refl, sym, ◌∙◌}
use mathlib.Core.Path.{fun_ext}
use Rattle.std.specs.Prelude.{IsTrue, IsFalse}
use Rattle.std.specs.Cmp.{both_ways}
use Rattle.fol.specs.Val.{Val}
use Rattle.fol.specs.Deciders.{SomeInterpretationReads, OneInterpretationReads, OneTestAnswersRight}

-- the test, from a decision of each property
abbrev holds_of_all : (f : Val → Bool) → ((v : Val) → IsTrue (f v)) ⊎ ((v : Val) × IsFalse (f v)) → Bool
holds_of_all f (inl _) = true
holds_of_all f (inr _) = false

holds_of_all_right : (f : Val → Bool) (d : ((v : Val) → IsTrue (f v)) ⊎ ((v : Val) × IsFalse (f v))) → IsTrue (holds_of_all f d) ↔ ((v : Val) → IsTrue (f v))
holds_of_all_right f (inl h) = (λ _. h, λ _. refl)
holds_of_all_right f (inr w) = (λ e. absurd (cc), λ h. absurd (clash (f w.0) (h w.0) w.1))
  where
    clash : (b : Bool) → b ≡ true → b ≡ false → ⊥
    clash b p q = cc

pub some_interpretation : SomeInterpretationReads
some_interpretation decided shapes named ground = (
  record { all = λ f. holds_of_all f (decided f); shapes = shapes; named = named },
  record { answers_right = λ f. holds_of_all_right f (decided f); same_shapes = refl; names_ground = ground },
  λ n. refl,
)

pub one_test : OneTestAnswersRight
one_test all other a b f =
    both_ways (all f) (other f) (λ e. (b f).1 ((a f).0 e)) (λ e. (a f).1 ((b f).0 e))

pub one_interpretation : OneInterpretationReads
one_interpretation shapes m n a b names =
    let tests : m.all ≡ n.all = fun_ext (one_test m.all n.all a.answers_right b.answers_right) in
    let named : m.named ≡ n.named = fun_ext names in
    let shaped : m.shapes ≡ n.shapes = a.same_shapes ∙ sym b.same_shapes in
    λ i. record { all = tests i; shapes = shaped i; named = named i }
