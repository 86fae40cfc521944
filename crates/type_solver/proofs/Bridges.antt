-- The definitions of the typing rules and those of the solver agree.
use Rattle.std.proofs.Common.{◌≡◌, ℕ, zero, suc, ◌+◌, Option, Some, None, refl, sym, ap, ◌∙◌}
use Rattle.base.specs.TypeData.{TypeData, BoolType, IntType, NumType, AddressType, SignerType, VectorType, StructType, ParamType, SharedType, MutableType, TupleType, MoreTypes, types_of}
use Rattle.typing_rules.specs.Sorts as R
use Rattle.typing_rules.specs.Constraint.{types_at}
use Rattle.typing_rules.specs.declared.sort.Sort.{Sort as RuleSort}
use Rattle.typing_rules.specs.declared.sort.Sort.TheVariants.{Single as rule_single, Value as rule_value, Integer as rule_integer}
use Rattle.typing_rules.specs.declared.sort.Wrap.{Wrap as RuleWrap}
use Rattle.typing_rules.specs.declared.sort.Wrap.TheVariants.{Vector as rule_vector, Shared as rule_wrap_shared, Mutable as rule_wrap_mutable}
use Rattle.typing_rules.specs.declared.sort.Reference.{Reference}
use Rattle.typing_rules.specs.declared.sort.Reference.TheVariants.{Shared as rule_shared, Mutable as rule_mutable}
use Rattle.unification.specs.Sorts as S
use Rattle.unification.specs.Heads as H
use Rattle.unification.specs.Slots.{Typing, wrapped, list_at}
use Rattle.unification.specs.declared.type_variables.slots.Wrap.{Wrap}
use Rattle.unification.specs.declared.type_variables.slots.Wrap.TheVariants.{Vector, Shared, Mutable}
use Rattle.type_solver.specs.Words.{sort_word, wrap_word}

-- ---- kinds

abbrev as_wrap : Option Reference → Option Wrap
as_wrap None = None
as_wrap (Some rule_shared) = Some Shared
as_wrap (Some rule_mutable) = Some Mutable

abbrev as_reference : Option Wrap → Option Reference
as_reference None = None
as_reference (Some Vector) = None
as_reference (Some Shared) = Some rule_shared
as_reference (Some Mutable) = Some rule_mutable

wrap_kind : (a : TypeData) → as_wrap (R.kind a) ≡ H.kind a
wrap_kind BoolType = refl
wrap_kind (IntType w) = refl
wrap_kind NumType = refl
wrap_kind AddressType = refl
wrap_kind SignerType = refl
wrap_kind (VectorType t) = refl
wrap_kind (StructType s ts) = refl
wrap_kind (ParamType n) = refl
wrap_kind (SharedType t) = refl
wrap_kind (MutableType t) = refl
wrap_kind (TupleType ts) = refl

reference_kind : (a : TypeData) → as_reference (H.kind a) ≡ R.kind a
reference_kind BoolType = refl
reference_kind (IntType w) = refl
reference_kind NumType = refl
reference_kind AddressType = refl
reference_kind SignerType = refl
reference_kind (VectorType t) = refl
reference_kind (StructType s ts) = refl
reference_kind (ParamType n) = refl
reference_kind (SharedType t) = refl
reference_kind (MutableType t) = refl
reference_kind (TupleType ts) = refl

-- two types have the same kind for the solver if they have the same kind for the rules
pub solver_kind : (a b : TypeData) → R.kind a ≡ R.kind b → H.kind a ≡ H.kind b
solver_kind a b e = sym (wrap_kind a) ∙ ap as_wrap e ∙ wrap_kind b

pub rule_kind : (a b : TypeData) → H.kind a ≡ H.kind b → R.kind a ≡ R.kind b
rule_kind a b e = sym (reference_kind a) ∙ ap as_reference e ∙ reference_kind b

pub no_kind : (a : TypeData) → H.kind a ≡ None → R.kind a ≡ None
no_kind a e = sym (reference_kind a) ∙ ap as_reference e

-- a type that is no reference points at nothing
pub plain_target : (a : TypeData) → R.kind a ≡ None → R.target a ≡ None
plain_target BoolType e = refl
plain_target (IntType w) e = refl
plain_target NumType e = refl
plain_target AddressType e = refl
plain_target SignerType e = refl
plain_target (VectorType t) e = refl
plain_target (StructType s ts) e = refl
plain_target (ParamType n) e = refl
plain_target (SharedType t) e = cc
plain_target (MutableType t) e = cc
plain_target (TupleType ts) e = refl

pub plain_behind : (a : TypeData) → R.kind a ≡ None → R.behind a ≡ a
plain_behind BoolType e = refl
plain_behind (IntType w) e = refl
plain_behind NumType e = refl
plain_behind AddressType e = refl
plain_behind SignerType e = refl
plain_behind (VectorType t) e = refl
plain_behind (StructType s ts) e = refl
plain_behind (ParamType n) e = refl
plain_behind (SharedType t) e = cc
plain_behind (MutableType t) e = cc
plain_behind (TupleType ts) e = refl

-- the type that a reference of a kind points at
pub wrapped_target : (w : Wrap) (b : TypeData) → H.kind (wrapped w b) ≡ Some w → R.target (wrapped w b) ≡ Some b
wrapped_target Vector b e = cc
wrapped_target Shared b e = refl
wrapped_target Mutable b e = refl

pub wrapped_behind : (w : Wrap) (b : TypeData) → H.kind (wrapped w b) ≡ Some w → R.behind (wrapped w b) ≡ b
wrapped_behind Vector b e = cc
wrapped_behind Shared b e = refl
wrapped_behind Mutable b e = refl

-- ---- sorts, and type constructors of one type

pub sort_same : (s : RuleSort) (a : TypeData) → S.is_of (sort_word s) a ≡ R.is_of s a
sort_same rule_single a = refl
sort_same rule_value a = refl
sort_same rule_integer a = refl

pub made_same : (w : RuleWrap) (a : TypeData) → wrapped (wrap_word w) a ≡ R.made w a
made_same rule_vector a = refl
made_same rule_wrap_shared a = refl
made_same rule_wrap_mutable a = refl

-- ---- lists of type variables

pub types_at_same : (t : Typing) (first n : ℕ) → types_of (list_at t first n) ≡ types_at t first n
types_at_same t first zero = refl
types_at_same t first (suc n) = ap (MoreTypes (t first)) (types_at_same t (first + 1) n)
