-- The judgment of an entry, made from those of its parts, is that of its type.
use Rattle.std.proofs.Common.{◌≡◌, ℕ, ◌+◌, ◌-◌, ◌<◌, ◌≤◌, Bool, true, false, ◌&&◌, inl, inr, List, [], ◌∷◌, ◌++◌, length, get_or, map, drop, drop-cons, add-one, All, Some, refl, sym, ◌∙◌, ap, subst, arith, if◌then◌else◌}
use Rattle.std.specs.Prelude.{slice_get}
use Rattle.std.specs.Map.{lookup}
use Rattle.std.proofs.lemmas.List.{get_or_append_left, length_push}
use Rattle.std.proofs.lemmas.Bool.{cases_lt}
use Rattle.std.proofs.Math.Seq.{get_or-append_seam}
use Rattle.std.proofs.lemmas.List.Elements.{All-head, All-tail}
use Rattle.base.specs.TypeData.{TypeData, types_of}
use Rattle.program.specs.declared.declaration.AbilitySet.{AbilitySet}
use Rattle.program.specs.declared.declaration.TypeParameter.{TypeParameter}
use Rattle.program.specs.Same.{same_struct}
use Rattle.program.specs.Sets.{both}
use Rattle.program.specs.Types.{Structs, common, declared_applied, is_phantom, of_tuple, of_type, of_vector}
use Rattle.typing_rules.specs.declared.sort.Wrap.TheVariants.{Vector, Shared, Mutable}
use Rattle.typing_rules.specs.Required.{are_constrained, is_constrained, meets_parameter, type_parameters_of}
use Rattle.typing_rules.specs.Pools.{IsBelow, type_at, type_of}
use Rattle.typing_rules.specs.declared.type_pool.PlainType.TheVariants.{Bool as bool_type, Int, Num, Address, Signer, Param}
use Rattle.typing_rules.specs.declared.type_pool.PoolType.{PoolType}
use Rattle.typing_rules.specs.declared.type_pool.PoolType.TheVariants.{Plain, Made, Struct, Tuple}
use Rattle.ability_rules.specs.declared.required.entry.Judged.{Judged}
use Rattle.ability_rules.specs.declared.required.entry.JudgedTypes.{JudgedTypes}
use Rattle.ability_rules.proofs.Common.{both_joined}
use Rattle.ability_rules.specs.Entries.{AreFrom, HasPartsFrom, HasKnownParts, IsListed, TellsTypes, are_constrained_known, common_known, entry_abilities, entry_constrained, judged_at, judged_type, nothing_judged}

module _ (structs : Structs) (params : List AbilitySet) (ts : List TypeData) (table : JudgedTypes) (tells : TellsTypes structs params ts table) where
  abbrev known : ℕ → Judged
  known m = judged_at table m

  abilities_are : (m : ℕ) → IsListed table m → (known m).abilities ≡ of_type structs params (type_at ts m)
  abilities_are m h = ap (λ (j : Judged). j.abilities) (tells.each m h)

  constrained_is : (m : ℕ) → IsListed table m → (known m).is_constrained ≡ is_constrained structs params (type_at ts m)
  constrained_is m h = ap (λ (j : Judged). j.is_constrained) (tells.each m h)

  common_is : (parameters : List TypeParameter) (n : ℕ) (ms : List ℕ) → All (IsListed table) ms → common_known known parameters n ms ≡ common structs params parameters n (types_of (map (type_at ts) ms))
  common_is parameters n [] h = refl
  common_is parameters n (m ∷ ms) h =
      let rest = common_is parameters (n + 1) ms (All-tail (IsListed table) m ms h) in
      let one = abilities_are m (All-head (IsListed table) m ms h) in
      λ i. if is_phantom (slice_get parameters n) then rest i else both (one i) (rest i)

  are_is : (parameters : List TypeParameter) (n : ℕ) (ms : List ℕ) → All (IsListed table) ms → are_constrained_known known parameters n ms ≡ are_constrained structs params parameters n (types_of (map (type_at ts) ms))
  are_is parameters n [] h = refl
  are_is parameters n (m ∷ ms) h =
      let rest = are_is parameters (n + 1) ms (All-tail (IsListed table) m ms h) in
      let first = All-head (IsListed table) m ms h in
      let one = abilities_are m first in
      let two = constrained_is m first in
      λ i. (two i && meets_parameter (slice_get parameters n) (one i)) && rest i

  entry_abilities_are : (entry : PoolType) → HasKnownParts table entry → entry_abilities structs params known entry ≡ of_type structs params (type_of ts entry)
  entry_abilities_are (Plain p) h = refl
  entry_abilities_are (Made Vector m) h = ap of_vector (abilities_are m h)
  entry_abilities_are (Made Shared m) h = refl
  entry_abilities_are (Made Mutable m) h = refl
  entry_abilities_are (Struct s ms) h =
      λ i. declared_applied (lookup (same_struct s) structs) (λ parameters. common_is parameters 0 ms h i)
  entry_abilities_are (Tuple ms) h = ap of_tuple (common_is [] 0 ms h)

  entry_constrained_is : (entry : PoolType) → HasKnownParts table entry → entry_constrained structs known entry ≡ is_constrained structs params (type_of ts entry)
  entry_constrained_is (Plain bool_type) h = refl
  entry_constrained_is (Plain (Int w)) h = refl
  entry_constrained_is (Plain Num) h = refl
  entry_constrained_is (Plain Address) h = refl
  entry_constrained_is (Plain Signer) h = refl
  entry_constrained_is (Plain (Param n)) h = refl
  entry_constrained_is (Made Vector m) h = constrained_is m h
  entry_constrained_is (Made Shared m) h = constrained_is m h
  entry_constrained_is (Made Mutable m) h = constrained_is m h
  entry_constrained_is (Struct s ms) h = are_is (type_parameters_of (lookup (same_struct s) structs)) 0 ms h
  entry_constrained_is (Tuple ms) h = are_is [] 0 ms h

all_known : (table : JudgedTypes) (n : ℕ) (ms : List ℕ) → table.start ≤ n → length table.judged.items ≡ n - table.start → All (λ m. table.start ≤ m) ms → All (λ m. m < n) ms → All (IsListed table) ms
all_known table n ms h long a b k d l = record { begins = a k d l; ends = (let begins = a k d l in let ends = b k d l in omega arith) }

parts_by : (table : JudgedTypes) (n : ℕ) (entry : PoolType) → table.start ≤ n → length table.judged.items ≡ n - table.start → HasPartsFrom table.start entry → IsBelow n entry → HasKnownParts table entry
parts_by table n (Plain p) h long a b = tt
parts_by table n (Made wrap m) h long a b = record { begins = a; ends = omega arith }
parts_by table n (Struct s ms) h long a b = all_known table n ms h long a b
parts_by table n (Tuple ms) h long a b = all_known table n ms h long a b

-- the table has the parts of the next entry
pub parts_known : (table : JudgedTypes) (pool : List PoolType) (start n : ℕ) (entry : PoolType) → table.start ≡ start → start ≤ n → length table.judged.items ≡ n - start → AreFrom start pool → slice_get pool n ≡ Some entry → IsBelow n entry → HasKnownParts table entry
parts_known table pool start n entry same h long from e b =
    parts_by table n entry (omega arith) (omega arith) (subst (λ (k : ℕ). HasPartsFrom k entry) (sym same) (from.each n entry h e)) b

-- one more entry
pub known_more : (structs : Structs) (params : List AbilitySet) (ts : List TypeData) (old new : JudgedTypes) (n : ℕ) (entry : PoolType) (judged : Judged) → TellsTypes structs params ts old → HasKnownParts old entry
    → old.start ≤ n → length old.judged.items ≡ n - old.start → new.start ≡ old.start → new.judged.items ≡ old.judged.items ++ judged ∷ []
    → type_at ts n ≡ type_of ts entry → judged.abilities ≡ entry_abilities structs params (judged_at old) entry → judged.is_constrained ≡ entry_constrained structs (judged_at old) entry
    → TellsTypes structs params ts new
known_more structs params ts old new n entry judged tells parts h long same push type a c =
    let size = ap (λ (xs : List Judged). length xs) push in
    let pushed = length_push old.judged.items judged in
    let one : judged ≡ judged_type structs params (type_at ts n) = λ i. record {
      abilities = (a ∙ entry_abilities_are structs params ts old tells entry parts ∙ ap (of_type structs params) (sym type)) i;
      is_constrained = (c ∙ entry_constrained_is structs params ts old tells entry parts ∙ ap (is_constrained structs params) (sym type)) i;
    } in
    record {
      each = λ m t.
          let begins = t.begins in
          let ends = t.ends in
          let variable : judged_at new m ≡ get_or (old.judged.items ++ judged ∷ []) (m - old.start) nothing_judged =
          (λ i. get_or (push i) (m - same i) nothing_judged) in
          elim (cases_lt m n) [
            | inl less ↦ (
                let within : m - old.start < length old.judged.items = omega arith in
                variable ∙ get_or_append_left old.judged.items (judged ∷ []) nothing_judged (m - old.start) within
                ∙ tells.each m (record { begins = omega arith; ends = omega arith }))
            | inr more ↦ (
                let at : m ≡ n = omega arith in
                let last : m - old.start ≡ length old.judged.items = omega arith in
                variable ∙ ap (λ (k : ℕ). get_or (old.judged.items ++ judged ∷ []) k nothing_judged) last
                ∙ get_or-append_seam old.judged.items judged [] nothing_judged
                ∙ one ∙ ap (λ (k : ℕ). judged_type structs params (type_at ts k)) (sym at))
          ];
    }

-- ---- one more part

common_by : (known : ℕ → Judged) (parameters : List TypeParameter) (n m : ℕ) (rest : List ℕ) (found : AbilitySet) (b : Bool)
    → both (if b then found else both found (known m).abilities) (common_known known parameters (n + 1) rest)
    ≡ both found (if b then common_known known parameters (n + 1) rest else both (known m).abilities (common_known known parameters (n + 1) rest))
common_by known parameters n m rest found true = refl
common_by known parameters n m rest found false = both_joined found (known m).abilities (common_known known parameters (n + 1) rest)

pub common_step : (known : ℕ → Judged) (parameters : List TypeParameter) (n : ℕ) (ms : List ℕ) (found next : AbilitySet) → n < length ms
    → next ≡ (if is_phantom (slice_get parameters n) then found else both found (known (get_or ms n 0)).abilities)
    → both next (common_known known parameters (n + 1) (drop (n + 1) ms)) ≡ both found (common_known known parameters n (drop n ms))
common_step known parameters n ms found next h e =
    ap (λ (a : AbilitySet). both a (common_known known parameters (n + 1) (drop (n + 1) ms))) e
    ∙ common_by known parameters n (get_or ms n 0) (drop (n + 1) ms) found (is_phantom (slice_get parameters n))
    ∙ ap (λ (xs : List ℕ). both found (common_known known parameters n xs)) (sym (drop-cons ms n 0 h ∙ ap (λ (k : ℕ). get_or ms n 0 ∷ drop k ms) (sym (add-one n))))
