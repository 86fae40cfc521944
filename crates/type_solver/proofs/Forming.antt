-- Types as rules name them, as terms.
use Rattle.std.proofs.Common.{◌≡◌, ℕ, ◌+◌, ◌<◌, List, length, refl, ap, ◌∙◌, inl, inr, arith}
use Rattle.std.proofs.lemmas.Bool.Decides.{leb_tells}
use Rattle.base.specs.TypeData.{TypeData}
use Rattle.typing_rules.specs.Constraint.{arguments}
use Rattle.typing_rules.specs.Instances.{instance}
use Rattle.unification.specs.Slots.{Typing, value, wrapped, Fits, TermWithin}
use Rattle.unification.specs.declared.type_variables.slots.Wrap.{Wrap}
use Rattle.unification.specs.declared.type_variables.slots.Term.{Term}
use Rattle.unification.specs.declared.type_variables.slots.Slot.{Slot}
use Rattle.unification.proofs.Growing.{grown}
use Rattle.type_constraints.specs.Seen.{plain_type}
use Rattle.type_constraints.specs.declared.constraint.PlainType.{PlainType}
use Rattle.type_constraints.specs.declared.constraint.PlainType.TheVariants.{Bool, Int, Num, Address, Nothing}
use Rattle.type_solver.specs.Equations.{Keeps, TermSaid}
use Rattle.type_solver.proofs.Emitting.{earlier}

-- unchanged slots
pub keeps_same : (a : List Slot) → Fits a → Keeps a a
keeps_same a fits = record {
  fits = fits;
  longer = omega arith;
  opens = λ n lt o. (lt, o);
  forth = λ t m f. (t, ((λ p lt. refl), m, tt));
  back = λ t m g. (m, tt);
}

pub said_same : (a : List Slot) (x : Term) (of : Typing → TypeData) → Fits a → TermWithin (length a) x → ((t : Typing) → value t x ≡ of t) → TermSaid a a x of
said_same a x of fits within is = record { grows = keeps_same a fits; within = within; is = λ t m. is t }

pub said_made : (a b c : List Slot) (x y : Term) (w : Wrap) (of : Typing → TypeData) → TermSaid a b x of → TermSaid b c y (λ t. wrapped w (value t x)) → TermSaid a c y (λ t. wrapped w (of t))
said_made a b c x y w of s r = record {
  grows = grown s.grows r.grows;
  within = r.within;
  is = λ t m. r.is t m ∙ ap (wrapped w) (s.is t (earlier b c r.grows t m));
}

pub plain_instance : (f : ℕ → TypeData) (p : PlainType) → instance f (plain_type p) ≡ plain_type p
plain_instance f Bool = refl
plain_instance f (Int w) = refl
plain_instance f Num = refl
plain_instance f Address = refl
plain_instance f Nothing = refl

pub first_argument : (t : Typing) (base count : ℕ) → 0 < count → t base ≡ arguments t base count 0
first_argument t base count lt = elim (leb_tells 1 count) [
  | inl e ↦ simp e.0 (ap t (let k : base ≡ base + 0 = omega arith in k))
  | inr e ↦ absurd (omega (arith, lt, e.1))
]
