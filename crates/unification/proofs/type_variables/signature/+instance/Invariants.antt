use Rattle.std.proofs.Common.{◌≡◌, map, take, length}
use Rattle.unification.specs.Slots.{Typing, value, Meets}
use Rattle.unification.specs.Grown.{Grows}
use Rattle.unification.specs.Terms.{AllWithin}
use Rattle.unification.specs.Instances.{instance, arguments}
use Rattle.unification.proofs.type_variables.signature.+instance.Given as goal

abbrev pub invariant-instances-loop-part : goal.invariant-instances-loop-part
invariant-instances-loop-part l = record {
  grows : Grows l.fn.slots.items (λ t. Unit {0}) l.slots.items (λ t. Unit {0});
  within : AllWithin (length l.slots.items) l.terms.items;
  are : (t : Typing) → Meets l.slots.items t → map (value t) l.terms.items ≡ map (instance (arguments t l.parameters.base l.parameters.count)) (take l.part-index l.parts);
}
