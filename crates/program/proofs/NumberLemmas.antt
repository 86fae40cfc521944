-- Maps to which the number of one more field is added.
use Rattle.std.proofs.Common.{◌≡◌, ℕ, suc, ◌+◌, ◌<◌, ◌≤◌, Bool, true, false, cond, List, [], ◌∷◌, ◌++◌, length, take, get_or, Option, Some, None, refl, sym, ap, subst, ◌∙◌, arith, add-one}
use Rattle.std.specs.Prelude.{◌↔◌, IsTrue, if◌then◌else◌, slice_get, option_and_then}
use Rattle.std.specs.Map.{lookup, keys_of}
use Rattle.std.specs.List.{position, position_from}
use Rattle.std.specs.Cmp.Lexicographic.{same_text}
use Rattle.std.proofs.Math.Seq.{take-suc}
use Rattle.std.proofs.lemmas.Option.{slice_get_within, slice_get-get_or, get_or_from_slice_get}
use Rattle.std.proofs.lemmas.Iterator.Adapters.{position_from-zero}
use Rattle.base.specs.Names.{same_name}
use Rattle.base.specs.Pairs.{Paired}
use Rattle.base.proofs.PairLaws.{paired_append}
use Rattle.base.specs.declared.types.StructId.{StructId}
use Rattle.program.specs.declared.declaration.TypedName.{TypedName}
use Rattle.program.specs.declared.declaration.Struct.{Struct}
use Rattle.program.specs.Same.{same_struct}
use Rattle.program.specs.FieldNumbers.{AreNumbers, field_number, field_number_in}

-- the first value that is present
abbrev first_of : {A : Type 0} → Option A → Option A → Option A
first_of (Some x) other = Some x
first_of None other = other

position_next : {K : Type 0} (p : K → Bool) (i : ℕ) (xs : List K) (x : K) → position_from p i (xs ++ x ∷ []) ≡ first_of (position_from p i xs) (cond (p x) (Some (i + length xs)) None)
position_next p i [] x = ap (λ n. cond (p x) (Some n) None) (omega (arith))
position_next p i (y ∷ ys) x = by (p y) (position_next p (i + 1) ys x ∙ ap (λ n. first_of (position_from p (i + 1) ys) (cond (p x) (Some n) None)) (omega (arith)))
  where
    Later : Type 0
    Later = position_from p (i + 1) (ys ++ x ∷ []) ≡ first_of (position_from p (i + 1) ys) (cond (p x) (Some (i + suc (length ys))) None)

    by : (b : Bool) → Later → cond b (Some i) (position_from p (i + 1) (ys ++ x ∷ [])) ≡ first_of (cond b (Some i) (position_from p (i + 1) ys)) (cond (p x) (Some (i + suc (length ys))) None)
    by true later = refl
    by false later = later

lookup_next : {K X : Type 0} (p : K → Bool) (es : List (K × X)) (k : K) (x : X) → lookup p (es ++ (k, x) ∷ []) ≡ first_of (lookup p es) (cond (p k) (Some x) None)
lookup_next p [] k x = refl
lookup_next p (e ∷ es) k x = by (p e.0) (lookup_next p es k x)
  where
    by : (b : Bool) → lookup p (es ++ (k, x) ∷ []) ≡ first_of (lookup p es) (cond (p k) (Some x) None) → cond b (Some e.1) (lookup p (es ++ (k, x) ∷ [])) ≡ first_of (cond b (Some e.1) (lookup p es)) (cond (p k) (Some x) None)
    by true later = refl
    by false later = later

number_next : (fields : List TypedName) (field : TypedName) (name : List ℕ) → field_number (fields ++ field ∷ []) name ≡ first_of (field_number fields name) (cond (same_name name field.name) (Some (length fields)) None)
number_next fields field name =
    let p : TypedName → Bool = λ f. same_name name f.name in
    position_from-zero p (fields ++ field ∷ []) ∙ position_next p 0 fields field ∙ ap (λ n. first_of (position_from p 0 fields) (cond (p field) (Some n) None)) (omega (arith)) ∙ ap (λ o. first_of o (cond (p field) (Some (length fields)) None)) (sym (position_from-zero p fields))

-- a value that is present is the first
first_stays : {A : Type 0} (o other : Option A) → (o ≡ None → ⊥) → first_of o other ≡ o
first_stays (Some x) other some = refl
first_stays None other some = absurd (some refl)

-- one more field, whose name is added if it is new
pub put_next : (fields : List TypedName) (field : TypedName) (es fs : List (List ℕ × ℕ)) (name : List ℕ) (is_new : Bool) (index : ℕ) → AreNumbers fields es → index ≡ length fields → name ≡ field.name → IsTrue is_new ↔ (lookup (same_name name) es ≡ None)
    → fs ≡ (if is_new then es ++ (name, index) ∷ [] else es) → AreNumbers (fields ++ field ∷ []) fs
put_next fields field es fs name true index are at same new is = record {
  each = λ q. ap (lookup (same_name q)) is ∙ lookup_next (same_name q) es name index ∙ (λ i. first_of (are.each q i) (cond (same_name q (same i)) (Some (at i)) None)) ∙ sym (number_next fields field q);
}
put_next fields field es fs name false index are at same new is = record {
  each = λ q. ap (lookup (same_name q)) is ∙ are.each q ∙ sym (stays q (same_name q field.name) refl) ∙ sym (number_next fields field q);
}
  where
    known : lookup (same_name field.name) es ≡ None → ⊥
    known none = let t = new.1 (ap (λ n. lookup (same_name n) es) same ∙ none) in absurd (cc)

    none_other : (o : Option ℕ) → first_of o None ≡ o
    none_other (Some x) = refl
    none_other None = refl

    stays : (q : List ℕ) (b : Bool) → same_name q field.name ≡ b → first_of (field_number fields q) (cond (same_name q field.name) (Some (length fields)) None) ≡ field_number fields q
    stays q false e = ap (λ c. first_of (field_number fields q) (cond c (Some (length fields)) None)) e ∙ none_other (field_number fields q)
    stays q true e =
        let same = same_text q field.name (sym e) in
        first_stays (field_number fields q) _ (λ none. known (sym (ap (λ n. lookup (same_name n) es) same) ∙ are.each q ∙ none))

-- ---- the fields of a given struct

-- the table of the struct at this index after `i` gives this answer
record Answers (tables : List (List (List ℕ × ℕ))) (name : List ℕ) (i at : ℕ) (answer : Option ℕ) : Type 0 where
  k : ℕ
  is : at ≡ i + k
  table : List (List ℕ × ℕ)
  found : slice_get tables k ≡ Some table
  answers : lookup (same_name name) table ≡ answer

abbrev Numbered : StructId × Struct → List (List ℕ × ℕ) → Type 0
Numbered s n = AreNumbers s.1.fields n

none_from : (p : StructId → Bool) (i : ℕ) (structs : List (StructId × Struct)) → position_from p i (keys_of structs) ≡ None → lookup p structs ≡ None
none_from p i [] e = refl
none_from p i (s ∷ ss) e = by (p s.0) e (none_from p (i + 1) ss)
  where
    by : (b : Bool) → cond b (Some i) (position_from p (i + 1) (keys_of ss)) ≡ None → (position_from p (i + 1) (keys_of ss) ≡ None → lookup p ss ≡ None) → cond b (Some s.1) (lookup p ss) ≡ None
    by true e more = absurd (cc)
    by false e more = more e

found_from : (owner : StructId) (name : List ℕ) (i at : ℕ) (structs : List (StructId × Struct)) (tables : List (List (List ℕ × ℕ))) → Paired Numbered structs tables → position_from (same_struct owner) i (keys_of structs) ≡ Some at
    → Answers tables name i at (field_number_in structs owner name)
found_from owner name i at [] tables p e = absurd (cc)
found_from owner name i at (s ∷ ss) [] p e = absurd p
found_from owner name i at (s ∷ ss) (t ∷ ts) p e = by (same_struct owner s.0) e (found_from owner name (i + 1) at ss ts p.1)
  where
    number : Struct → Option ℕ
    number one = field_number one.fields name

    by : (b : Bool) → cond b (Some i) (position_from (same_struct owner) (i + 1) (keys_of ss)) ≡ Some at → (position_from (same_struct owner) (i + 1) (keys_of ss) ≡ Some at → Answers ts name (i + 1) at (field_number_in ss owner name))
        → Answers (t ∷ ts) name i at (option_and_then number (cond b (Some s.1) (lookup (same_struct owner) ss)))
    by true e more = record { k = 0; is = (let same = some_is i at e in omega (arith, same)); table = t; found = refl; answers = p.0.each name }
      where
        some_is : (x y : ℕ) → Some x ≡ Some y → x ≡ y
        some_is x y h = cc
    by false e more = let a = more e in record { k = suc a.k; is = (let same = a.is in omega (arith, same)); table = a.table; found = a.found; answers = a.answers }

-- no struct with this name
pub no_struct : (structs : List (StructId × Struct)) (owner : StructId) (name : List ℕ) → position (same_struct owner) (keys_of structs) ≡ None → field_number_in structs owner name ≡ None
no_struct structs owner name e = ap (option_and_then (λ (s : Struct). field_number s.fields name)) (none_from (same_struct owner) 0 structs (sym (position_from-zero (same_struct owner) (keys_of structs)) ∙ e))

-- the struct with this number
pub at_struct : (structs : List (StructId × Struct)) (tables seen : List (List (List ℕ × ℕ))) (owner : StructId) (name : List ℕ) (at : ℕ) (table : List (List ℕ × ℕ)) → Paired (λ s n. AreNumbers s.1.fields n) structs tables
    → position (same_struct owner) (keys_of structs) ≡ Some at → seen ≡ tables → table ≡ get_or seen at table → lookup (same_name name) table ≡ field_number_in structs owner name
at_struct structs tables seen owner name at table p e is f =
    let a = found_from owner name 0 at structs tables p (sym (position_from-zero (same_struct owner) (keys_of structs)) ∙ e) in
    let here : slice_get tables at ≡ Some a.table = ap (slice_get tables) (let same = a.is in omega (arith, same)) ∙ a.found in
    let one : table ≡ a.table = f ∙ ap (λ (all : List _). get_or all at table) is ∙ get_or_from_slice_get tables at a.table table here in
    ap (lookup (same_name name)) one ∙ a.answers

pub no_table : (structs : List (StructId × Struct)) (tables seen : List (List (List ℕ × ℕ))) (owner : StructId) (name : List ℕ) (at : ℕ) → Paired (λ s n. AreNumbers s.1.fields n) structs tables → position (same_struct owner) (keys_of structs) ≡ Some at
    → seen ≡ tables → length seen ≤ at → None ≡ field_number_in structs owner name
no_table structs tables seen owner name at p e is past =
    let a = found_from owner name 0 at structs tables p (sym (position_from-zero (same_struct owner) (keys_of structs)) ∙ e) in
    let here : slice_get tables at ≡ Some a.table = ap (slice_get tables) (let same = a.is in omega (arith, same)) ∙ a.found in
    let within = slice_get_within tables at a.table here in
    let long = ap (λ (all : List _). length all) is in
    absurd (omega (arith, within, long, past))

-- ---- items of lists

pub take_next : {A : Type 0} (xs : List A) (n : ℕ) (x : A) → slice_get xs n ≡ Some x → take (n + 1) xs ≡ take n xs ++ x ∷ []
take_next xs n x h = ap (λ m. take m xs) (add-one n) ∙ take-suc xs n x (slice_get_within xs n x h) ∙ ap (λ (y : _). take n xs ++ y ∷ []) (get_or_from_slice_get xs n x x h)

pub nothing_there : {A : Type 0} (xs : List A) (n : ℕ) → n < length xs → None ≡ slice_get xs n → ⊥
nothing_there [] n b h = omega arith
nothing_there (x ∷ xs) n b h = let e = slice_get-get_or (x ∷ xs) n x b in cc

-- one more struct with its numbers
pub paired_next : (structs : List (StructId × Struct)) (n : ℕ) (s : StructId × Struct) (tables more : List (List (List ℕ × ℕ))) (table : List (List ℕ × ℕ)) → Paired (λ one numbers. AreNumbers one.1.fields numbers) (take n structs) tables
    → slice_get structs n ≡ Some s → AreNumbers s.1.fields table → more ≡ tables ++ table ∷ [] → Paired (λ one numbers. AreNumbers one.1.fields numbers) (take (n + 1) structs) more
paired_next structs n s tables more table p at are e =
    subst (λ (zs : List _). Paired Numbered zs more) (sym (take_next structs n s at)) (subst (λ (zs : List _). Paired Numbered (take n structs ++ s ∷ []) zs) (sym e) (paired_append Numbered (take n structs) tables s table p are))
