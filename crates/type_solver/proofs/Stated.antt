-- The types substituted for type parameters.
use Rattle.std.proofs.Common.{◌≡◌, ℕ, zero, suc, ◌≤◌, List, [], ◌∷◌, get_or, slice_get, Some, None, refl, ap, ◌∙◌, arith}
use Rattle.std.proofs.lemmas.Option.{get_or_from_slice_get}
use Rattle.base.specs.TypeData.{TypeData, ParamType, types_of, list_of_types-types_of}
use Rattle.typing_rules.specs.Instances.{argument_in}
use Rattle.type_solver.specs.Arguments.{ArgumentsWithin}
use Rattle.type_solver.specs.declared.read.Arguments.{Arguments}
use Rattle.type_solver.specs.declared.read.Arguments.TheVariants.{Types, Variables}

get_absent : (xs : List TypeData) (k : ℕ) (d : TypeData) → slice_get xs k ≡ None → get_or xs k d ≡ d
get_absent [] k d e = refl
get_absent (x ∷ xs) zero d e = cc
get_absent (x ∷ xs) (suc k) d e = get_absent xs k d e

pub argument_some : (types : List TypeData) (k : ℕ) (of : TypeData) → slice_get types k ≡ Some of → argument_in (types_of types) k ≡ of
argument_some types k of e =
    ap (λ (ts : List TypeData). get_or ts k (ParamType k)) (list_of_types-types_of types) ∙ get_or_from_slice_get types k of (ParamType k) e

pub argument_none : (types : List TypeData) (k : ℕ) → slice_get types k ≡ None → argument_in (types_of types) k ≡ ParamType k
argument_none types k e =
    ap (λ (ts : List TypeData). get_or ts k (ParamType k)) (list_of_types-types_of types) ∙ get_absent types k (ParamType k) e

pub arguments_more : (n m : ℕ) (a : Arguments) → n ≤ m → ArgumentsWithin n a → ArgumentsWithin m a
arguments_more n m (Types types) le h = tt
arguments_more n m (Variables p) le h = omega (arith, le, h)
