-- Instances with equal keys are equal.
use Rattle.std.proofs.Common.{◌≡◌, ℕ, inl, inr, true, List, [], ◌∷◌, ◌++◌, length, map, Option, Some, None, refl, sym, ◌∙◌, ap, subst, arith}
use Rattle.std.specs.Prelude.{◌==◌, ◌&&◌, slice_get}
use Rattle.std.specs.Cmp.Lexicographic.{same_text}
use Rattle.std.specs.List.{position}
use Rattle.std.specs.Map.{keys_of, lookup}
use Rattle.std.specs.Option.{option_map}
use Rattle.std.proofs.lemmas.Bool.{and_parts, eqb-true}
use Rattle.std.proofs.lemmas.List.{length-append, map-append}
use Rattle.std.proofs.lemmas.Option.{slice_get-map, slice_get_within}
use Rattle.base.specs.Names.{same_name}
use Rattle.base.specs.TypeData.{TypesData}
use Rattle.program.specs.declared.program.SchemaId.{SchemaId}
use Rattle.program.specs.Same.{same_schema}
use Rattle.type_constraints.specs.contracts.clauses.block.BlockPartialEq.TheImpl.{eq-value as block_eq}
use Rattle.type_constraints.specs.declared.clauses.block.Block.{Block}
use Rattle.type_constraints.specs.declared.clauses.block.Block.TheVariants.{Function, Struct, Module, Loop}
use Rattle.term_pool.specs.Items.{TypesItem}
use Rattle.term_pool.specs.Pools.{Extends}
use Rattle.term_pool.specs.declared.node.Node.{Node}
use Rattle.ability_rules.proofs.Tables.{entry_there, found_there, number_there}
use Rattle.typing_rules.specs.Clauses as C
use Rattle.type_check.specs.ClausesInstances as I
use Rattle.type_check.specs.Judged.{instance_of}
use Rattle.type_check.specs.declared.clauses.instance.Instance.{Instance}
use Rattle.type_check.specs.Known.{IsKeyOf, IsPut}
use Rattle.type_check.specs.contracts.schemas.known.InstanceKeyPartialEq.TheImpl.{eq-value}
use Rattle.type_check.specs.declared.schemas.known.InstanceKey.{InstanceKey}
use Rattle.type_check.proofs.SchemasLists.{get_old, last_is, some_inside}
use Rattle.term_pool.proofs.GrowthLemmas as G

block_equal : (a b : Block) → block_eq.it a b ≡ true → a ≡ b
block_equal Function Function e = refl
block_equal Struct Struct e = refl
block_equal Module Module e = refl
block_equal Loop Loop e = refl
block_equal Function Struct e = absurd cc
block_equal Function Module e = absurd cc
block_equal Function Loop e = absurd cc
block_equal Struct Function e = absurd cc
block_equal Struct Module e = absurd cc
block_equal Struct Loop e = absurd cc
block_equal Module Function e = absurd cc
block_equal Module Struct e = absurd cc
block_equal Module Loop e = absurd cc
block_equal Loop Function e = absurd cc
block_equal Loop Struct e = absurd cc
block_equal Loop Module e = absurd cc

schema_equal : (s t : SchemaId) → same_schema s t ≡ true → s ≡ t
schema_equal s t same =
    let parts = and_parts (s.address == t.address) _ same in
    let names = and_parts (same_name s.«module» t.«module») (same_name s.name t.name) parts.1 in
    let address : s.address ≡ t.address = eqb-true _ _ parts.0 in
    let home : s.«module» ≡ t.«module» = same_text _ _ (sym names.0) in
    let name : s.name ≡ t.name = same_text _ _ (sym names.1) in
    λ i. record { address = address i; «module» = home i; name = name i }

pub key_equal : (a b : InstanceKey) → eq-value.it a b ≡ true → a ≡ b
key_equal a b e =
    let x : (same_schema a.schema b.schema && (a.types == b.types && block_eq.it a.block b.block)) ≡ true = e in
    let parts = and_parts (same_schema a.schema b.schema) _ x in
    let rest = and_parts (a.types == b.types) (block_eq.it a.block b.block) parts.1 in
    let schema : a.schema ≡ b.schema = schema_equal a.schema b.schema parts.0 in
    let types : a.types ≡ b.types = eqb-true _ _ rest.0 in
    let block : a.block ≡ b.block = block_equal a.block b.block rest.1 in
    λ i. record { schema = schema i; types = types i; block = block i }

-- ---- instances by their keys

types_inside : (a b : TypesData) → TypesItem a ≡ TypesItem b → a ≡ b
types_inside a b e = cc

pub keys_grown : (old new : List Node) (key : InstanceKey) (i : I.Instance) → Extends old new → IsKeyOf old key i → IsKeyOf new key i
keys_grown old new key i more k = record { schema = k.schema; block = k.block; types = G.item_stays more k.types }

abbrev instance_with : SchemaId → TypesData → C.Block → I.Instance
instance_with s ts b = record { schema = s; types = ts; block = b }

one_of_key : (pool : List Node) (key : InstanceKey) (i j : I.Instance) → IsKeyOf pool key i → IsKeyOf pool key j → i ≡ j
one_of_key pool key i j a b =
    let types : i.types ≡ j.types = types_inside i.types j.types (sym a.types.is ∙ b.types.is) in
    same (sym a.schema ∙ b.schema) types (sym a.block ∙ b.block)
  where
    same : {s t : SchemaId} {ts us : TypesData} {x y : C.Block} → s ≡ t → ts ≡ us → x ≡ y → instance_with s ts x ≡ instance_with t us y
    same e f g = λ k. record { schema = e k; types = f k; block = g k }

abbrev of_entry : InstanceKey × Instance → I.Instance
of_entry e = instance_of e.1

-- an instance with its key
pub put_found : (pool : List Node) (entries : List (InstanceKey × Instance)) (key : InstanceKey) (i : I.Instance) (n : ℕ)
    → ((m : ℕ) (e : InstanceKey × Instance) → slice_get entries m ≡ Some e → IsKeyOf pool e.0 (instance_of e.1)) → IsKeyOf pool key i
    → position (eq-value.it key) (keys_of entries) ≡ Some n → IsPut (map of_entry entries) (map of_entry entries) i n
put_found pool entries key i n keyed is found =
    let at = entry_there (eq-value.it key) entries n key found in
    let passes = (found_there (eq-value.it key) entries n at.0 found at.1).1 in
    let same : key ≡ at.0.0 = key_equal key at.0.0 passes in
    let one : of_entry at.0 ≡ i = one_of_key pool key (of_entry at.0) i (subst (λ (k : InstanceKey). IsKeyOf pool k (of_entry at.0)) (sym same) (keyed n at.0 at.1)) is in
    record {
      there = slice_get-map of_entry entries n ∙ ap (option_map of_entry) at.1 ∙ ap (λ (x : I.Instance). Some x) one;
      others = inl refl;
    }

pub none_there : (entries : List (InstanceKey × Instance)) (key : InstanceKey) → position (eq-value.it key) (keys_of entries) ≡ None → lookup (eq-value.it key) entries ≡ None
none_there entries key none = go (lookup (eq-value.it key) entries) refl
  where
    go : (o : Option Instance) → lookup (eq-value.it key) entries ≡ o → lookup (eq-value.it key) entries ≡ None
    go None e = e
    go (Some v) e = absurd (let w = number_there (eq-value.it key) entries v key e in let f : None ≡ Some w.0 = sym none ∙ w.1 in cc)

pub last_there : {A : Type 0} (xs : List A) (x : A) → slice_get (xs ++ x ∷ []) (length xs) ≡ Some x
last_there [] x = refl
last_there (a ∷ xs) x = last_there xs x

pub put_new : (entries : List (InstanceKey × Instance)) (key : InstanceKey) (copy : Instance) (i : I.Instance) → instance_of copy ≡ i
    → IsPut (map of_entry entries) (map of_entry (entries ++ (key, copy) ∷ [])) i (length entries)
put_new entries key copy i is = record {
  there = slice_get-map of_entry (entries ++ (key, copy) ∷ []) (length entries) ∙ ap (option_map of_entry) (last_there entries (key, copy)) ∙ ap (λ (x : I.Instance). Some x) is;
  others = inr (map-append of_entry entries ((key, copy) ∷ []) ∙ ap (λ (x : I.Instance). map of_entry entries ++ x ∷ []) is);
}

pub keyed_new : (pool : List Node) (entries : List (InstanceKey × Instance)) (key : InstanceKey) (copy : Instance)
    → ((m : ℕ) (e : InstanceKey × Instance) → slice_get entries m ≡ Some e → IsKeyOf pool e.0 (instance_of e.1)) → IsKeyOf pool key (instance_of copy)
    → (m : ℕ) (e : InstanceKey × Instance) → slice_get (entries ++ (key, copy) ∷ []) m ≡ Some e → IsKeyOf pool e.0 (instance_of e.1)
keyed_new pool entries key copy keyed is m e at =
    let within = slice_get_within (entries ++ (key, copy) ∷ []) m e at in
    let size = length-append entries ((key, copy) ∷ []) in
    elim (last_is m (length entries) (omega (arith, within, size))) [
      | inl below ↦ keyed m e (get_old entries (entries ++ (key, copy) ∷ []) ((key, copy) ∷ []) m e refl below at)
      | inr here ↦
          let same : ◌≡◌ {A = InstanceKey × Instance} (key, copy) e = some_inside (key, copy) e (sym (last_there entries (key, copy)) ∙ ap (λ (n : ℕ). slice_get (entries ++ (key, copy) ∷ []) n) (sym here) ∙ at) in
          subst (λ (x : InstanceKey × Instance). IsKeyOf pool x.0 (instance_of x.1)) same is
    ]
