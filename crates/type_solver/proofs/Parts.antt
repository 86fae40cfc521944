-- Structs and tuples of which each part is read.
use Rattle.std.proofs.Common.{◌≡◌, ℕ, ◌+◌, ◌<◌, ◌++◌, List, [], ◌∷◌, length, map, take, get_or, refl, sym, ap, ◌∙◌}
use Rattle.std.proofs.lemmas.List.{map-append}
use Rattle.base.specs.declared.types.StructId.{StructId}
use Rattle.base.specs.TypeData.{TypeData, StructType, TupleType, TypesData, MoreTypes, types_of}
use Rattle.typing_rules.specs.Instances.{instance, instances, spec_type, spec_types}
use Rattle.unification.specs.Slots.{Typing, value}
use Rattle.unification.specs.declared.type_variables.slots.Term.{Term}
use Rattle.unification.proofs.Instancing.{map_more}

-- a type as it is read with these types substituted for type parameters
abbrev pub read_as : (ℕ → TypeData) → TypeData → TypeData
read_as s of = instance s (spec_type of)

parts_of : (s : ℕ → TypeData) (ts : List TypeData) → instances s (spec_types (types_of ts)) ≡ types_of (map (read_as s) ts)
parts_of s [] = refl
parts_of s (t ∷ ts) = ap (λ (us : TypesData). MoreTypes (read_as s t) us) (parts_of s ts)

pub struct_read : (s : ℕ → TypeData) (id : StructId) (ts us : List TypeData) (of : TypeData) → of ≡ StructType id (types_of ts) → us ≡ map (read_as s) ts → StructType id (types_of us) ≡ read_as s of
struct_read s id ts us of e are = ap (λ (xs : List TypeData). StructType id (types_of xs)) are ∙ ap (StructType id) (sym (parts_of s ts)) ∙ ap (read_as s) (sym e)

pub tuple_read : (s : ℕ → TypeData) (ts us : List TypeData) (of : TypeData) → of ≡ TupleType (types_of ts) → us ≡ map (read_as s) ts → TupleType (types_of us) ≡ read_as s of
tuple_read s ts us of e are = ap (λ (xs : List TypeData). TupleType (types_of xs)) are ∙ ap TupleType (sym (parts_of s ts)) ∙ ap (read_as s) (sym e)

-- one more term has the written type
pub reads_more : (t : Typing) (s : ℕ → TypeData) (terms new : List Term) (x : Term) (parts : List TypeData) (i : ℕ) (part : TypeData) → i < length parts → part ≡ get_or parts i part → new ≡ terms ++ x ∷ [] →
    map (value t) terms ≡ map (read_as s) (take i parts) → value t x ≡ read_as s part → map (value t) new ≡ map (read_as s) (take (i + 1) parts)
reads_more t s terms new x parts i part lt e pushed are is =
    ap (map (value t)) pushed ∙ map-append (value t) terms (x ∷ []) ∙ (λ k. are k ++ is k ∷ []) ∙ sym (map_more (read_as s) parts i part lt e)
