-- The names of structs, and the names of the functions in a prefix of a list.
use Rattle.std.proofs.Common.{◌≡◌, ◌≢◌, ℕ, ◌+◌, ◌<◌, Bool, true, false, cond, ◌&&◌, ◌||◌, List, [], ◌∷◌, ◌++◌, length, take, get_or, refl, sym, ap, ◌∙◌, append-nil}
use Rattle.std.specs.Prelude.{not}
use Rattle.std.specs.Ordering.{nat_cmp, is_eq}
use Rattle.std.specs.Cmp.Lexicographic.{slice_cmp}
use Rattle.std.specs.BTreeSet.{BTreeSet}
use Rattle.std.proofs.lemmas.Grind.{flat_map-append}
use Rattle.std.proofs.lemmas.List.{take_more}
use Rattle.syntax_tree.specs.FileData.{MemberData}
use Rattle.syntax_tree.specs.declared.member.Function.{Function as FunctionTree}
use Rattle.syntax_tree.specs.declared.member.MemberForm.{MemberForm}
use Rattle.syntax_tree.specs.declared.member.MemberForm.TheVariants.{Use, Friend, Struct, Constant, Function, Spec}
use Rattle.parser_base.specs.TokenReading.{begins_capital}
use Rattle.parser_base.proofs.TokenLemmas.{begins_capital-sound, begins_capital-complete}
use Rattle.base.proofs.NameLaws.{none_of-sound, none_of-complete, set_more}
use Rattle.syntax_tree.specs.FunctionNames.{function_name, function_names}
use Rattle.base.specs.Names.{is_one_of, has, IsSetOf}
use Rattle.syntax_tree.specs.SourceSlots.{IsOfStruct}

-- ---- names of structs

abbrev pub is_of_struct : List (List ℕ) → List ℕ → Bool
is_of_struct functions name = begins_capital name && not (is_one_of functions name)

pub of_struct-sound : (functions : List (List ℕ)) (name : List ℕ) → is_of_struct functions name ≡ true → IsOfStruct functions name
of_struct-sound functions name e = let b = both (begins_capital name) (is_one_of functions name) e in (begins_capital-sound name b.0, none_of-sound functions name b.1)
  where
    both : (a b : Bool) → (a && not b) ≡ true → (a ≡ true) × (b ≡ false)
    both true false e = (refl, refl)
    both true true e = absurd (cc)
    both false b e = absurd (cc)

pub of_struct-complete : (functions : List (List ℕ)) (name : List ℕ) → IsOfStruct functions name → is_of_struct functions name ≡ true
of_struct-complete functions name s =
    ap (λ b. b && not (is_one_of functions name)) (begins_capital-complete name s.0) ∙ ap not (none_of-complete functions name s.1)

pub of_struct-none : (functions : List (List ℕ)) (name : List ℕ) → (IsOfStruct functions name → ⊥) → is_of_struct functions name ≡ false
of_struct-none functions name none = go (is_of_struct functions name) refl
  where
    go : (b : Bool) → is_of_struct functions name ≡ b → is_of_struct functions name ≡ false
    go true e = absurd (none (of_struct-sound functions name e))
    go false e = e

-- ---- the names of the functions in a prefix of a list

names_more : (members : List MemberData) (i : ℕ) (d : MemberData) (names : List (List ℕ)) → i < length members → function_name (get_or members i d).form ≡ names → function_names (take (i + 1) members) ≡ function_names (take i members) ++ names
names_more members i d names h e =
    ap function_names (take_more members i d h) ∙ flat_map-append (λ m. function_name m.form) (take i members) (get_or members i d ∷ [])
    ∙ ap (λ more. function_names (take i members) ++ more) (append-nil (function_name (get_or members i d).form) ∙ e)

pub names_grow : (members : List MemberData) (i : ℕ) (d : MemberData) (key : List ℕ) (old new : BTreeSet (List ℕ)) → i < length members → IsSetOf old (function_names (take i members))
    → ((q : List ℕ) → has new q ≡ cond (is_eq (slice_cmp nat_cmp key q)) true (has old q)) → function_name (get_or members i d).form ≡ key ∷ [] → IsSetOf new (function_names (take (i + 1) members))
names_grow members i d key old new h before more e q =
    set_more (function_names (take i members)) key q (has old q) (has new q) (before q) (more q) ∙ ap (λ names. is_one_of names q) (sym (names_more members i d (key ∷ []) h e))

pub names_stay : (members : List MemberData) (i : ℕ) (d : MemberData) (old new : BTreeSet (List ℕ)) → i < length members → IsSetOf old (function_names (take i members)) → new ≡ old
    → function_name (get_or members i d).form ≡ [] → IsSetOf new (function_names (take (i + 1) members))
names_stay members i d old new h before same e q =
    ap (λ s. has s q) same ∙ before q ∙ ap (λ names. is_one_of names q) (sym (names_more members i d [] h e ∙ append-nil (function_names (take i members))))

pub no_function : (form : MemberForm) → ((f : FunctionTree) → form ≡ Function f → ⊥) → function_name form ≡ []
no_function (Use u) none = refl
no_function (Friend f) none = refl
no_function (Struct s) none = refl
no_function (Constant c) none = refl
no_function (Function f) none = absurd (none f refl)
no_function (Spec s) none = refl
