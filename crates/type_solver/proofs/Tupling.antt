-- What slots know of the parts of tuples.
use Rattle.std.proofs.Common.{◌≡◌, ℕ, zero, suc, ◌<◌, IsTrue, List, length, Option, Some, None, refl, sym, ap, ◌∙◌}
use Rattle.base.specs.TypeData.{TypeData, BoolType, SharedType, TupleType, TypesData, NoTypes, MoreTypes}
use Rattle.typing_rules.specs.Sorts as R
use Rattle.typing_rules.specs.declared.sort.Reference.TheVariants.{Shared as rule_shared}
use Rattle.unification.specs.Sorts.{is_of}
use Rattle.unification.specs.Slots.{Typing, value, Meets, Fits, slot_at}
use Rattle.unification.specs.declared.type_variables.slots.Sort.{Sort}
use Rattle.unification.specs.declared.type_variables.slots.Sort.TheVariants.{Any, Single, Value, Integer}
use Rattle.unification.specs.declared.type_variables.slots.Term.{Term}
use Rattle.unification.specs.declared.type_variables.slots.Slot.{Slot}
use Rattle.unification.specs.declared.type_variables.slots.Slot.TheVariants.{Open}
use Rattle.unification.proofs.Becoming.{open_says}
use Rattle.unification.proofs.Heading.{small, small_is}
use Rattle.unification.proofs.Refill.{distinguished}
use Rattle.type_solver.specs.Tuples.{TupleIs, TupleSeen}
use Rattle.type_solver.specs.declared.tuples.Parts.{Parts}

-- a tuple whose part with this number is a reference
abbrev shared_at : ℕ → TypesData
shared_at zero = MoreTypes (SharedType BoolType) NoTypes
shared_at (suc i) = MoreTypes BoolType (shared_at i)

shared_there : (i : ℕ) → R.part_kind i (TupleType (shared_at i)) ≡ Some rule_shared
shared_there zero = refl
shared_there (suc i) = shared_there i

abbrev tuple_or_small : ℕ → Sort → TypeData
tuple_or_small i Any = TupleType (shared_at i)
tuple_or_small i Single = small Single
tuple_or_small i Value = small Value
tuple_or_small i Integer = small Integer

tuple_is : (i : ℕ) (s : Sort) → IsTrue (is_of s (tuple_or_small i s))
tuple_is i Any = refl
tuple_is i Single = refl
tuple_is i Value = refl
tuple_is i Integer = refl

differs : (i : ℕ) → R.part_kind i (small Any) ≡ R.part_kind i (tuple_or_small i Any) → ⊥
differs i e = let z : None ≡ Some rule_shared = e ∙ shared_there i in cc

no_tuple : (s : Sort) (a : TypeData) (ts : TypesData) → IsTrue (is_of s a) → a ≡ TupleType ts → (is_of s (TupleType ts) ≡ is_of Single (TupleType ts)) → ⊥
no_tuple s a ts h e same = (let z : IsTrue (is_of Single (TupleType ts)) = sym same ∙ sym (ap (is_of s) e) ∙ h in cc)

pub open_seen : (slots : List Slot) (p at : ℕ) (s : Sort) → Fits slots → at < length slots → slot_at slots at ≡ Open s → ((t : Typing) → Meets slots t → t p ≡ t at) → TupleSeen slots p None
open_seen slots p at Any fits lt free same t m ts is i = distinguished (R.part_kind i) small (tuple_or_small i) small_is (tuple_is i) slots p at Any fits free same (differs i) t m
open_seen slots p at Single fits lt free same t m ts is i = λ agree. no_tuple Single (t at) ts (open_says slots at Single t lt free m) (sym (same t m) ∙ is) refl
open_seen slots p at Value fits lt free same t m ts is i = λ agree. no_tuple Value (t at) ts (open_says slots at Value t lt free m) (sym (same t m) ∙ is) refl
open_seen slots p at Integer fits lt free same t m ts is i = λ agree. no_tuple Integer (t at) ts (open_says slots at Integer t lt free m) (sym (same t m) ∙ is) refl

-- what is known of the type of a bound variable
pub bound_seen : (slots : List Slot) (p : ℕ) (x : Term) (parts : Option Parts) → ((t : Typing) → Meets slots t → t p ≡ value t x) → ((t : Typing) → Meets slots t → TupleIs t (value t x) parts) → TupleSeen slots p parts
bound_seen slots p x None same is = λ t m ts at i agree. is t m ts (sym (same t m) ∙ at)
bound_seen slots p x (Some parts) same is = λ t m. same t m ∙ is t m
