use Rattle.std.proofs.Common.{rules, FitsSigned, ◌≡◌, pos, ◌+ℤ◌, refl, sym, ap, ◌∙◌, subst}
use Rattle.std.specs.Int.{w128}
use Rattle.std.proofs.lemmas.Int.{to_z-of_z}
use Rattle.certificates.specs.ProofTraces.{IsBetween}
use Rattle.row_reasoning.specs.Bounds.{HasNoNumber}
use Rattle.row_reasoning.specs.declared.values.bounds.Bound.{Bound}
use Rattle.row_reasoning.proofs.BoundLemmas.{bound_on}
use Rattle.row_reasoning.proofs.values.bounds.bound_of.Goals as goal

pub returns-in_default-look_up : goal.returns-in_default-look_up
returns-in_default-look_up c = HasNoNumber c.in-Some.class (sym c.class_at.ensures ∙ c.in-Some.is) (sym c.look_up.ensures ∙ c.in_default-look_up.is)

pub returns-in-Some-below : goal.returns-in-Some-below
returns-in-Some-below c =
    let a : FitsSigned w128 c.args.value.numerator = search rules in
    let b : FitsSigned w128 c.args.value.denominator = search rules in
    let f : FitsSigned w128 c.in-Some-below.below = search rules in
    let made = c.bound_with.ensures ∙ ap (λ k. bound_on c.in-Some-look_up.number k) (to_z-of_z w128 c.in-Some-below.below f) in
    record {
      name = c.in-Some.class;
      entry = c.in-Some-look_up.number;
      has_class = sym c.class_at.ensures ∙ c.in-Some.is;
      has_number = sym c.look_up.ensures ∙ c.in-Some-look_up.is;
      same_entry = ap (λ (b : Bound). b.entry) made;
      same_term = ap (λ (b : Bound). b.term) made;
      between = subst (λ (b : Bound). IsBetween b.below c.args.value) (sym made) (c.in-Some-below.ensures.is c.args.value (sym (to_z-of_z w128 c.args.value.numerator a)) (sym (to_z-of_z w128 c.args.value.denominator b)));
      next = subst (λ (b : Bound). b.above ≡ b.below +ℤ pos 1) (sym made) refl;
    }
