use Rattle.std.proofs.Common.{◌≡◌, map, take, length}
use Rattle.typing_rules.specs.Instances.{instance, spec_type}
use Rattle.unification.specs.Slots.{Typing, value, Meets}
use Rattle.unification.specs.Grown.{Grows}
use Rattle.unification.specs.Terms.{AllWithin}
use Rattle.type_solver.specs.Arguments.{stated}
use Rattle.type_solver.proofs.read.+read_term.Given as goal

abbrev pub invariant-read_terms-loop-part : goal.invariant-read_terms-loop-part
invariant-read_terms-loop-part l = record {
  grows : Grows l.fn.slots.items (λ t. Unit {0}) l.slots.items (λ t. Unit {0});
  within : AllWithin (length l.slots.items) l.terms.items;
  are : (t : Typing) → Meets l.slots.items t → map (value t) l.terms.items ≡ map (λ of. instance (stated t l.arguments) (spec_type of)) (take l.part-index l.parts);
}
