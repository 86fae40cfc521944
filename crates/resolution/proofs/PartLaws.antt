-- The declarations of the members of a module.
use Rattle.std.proofs.Common.{◌≡◌, ◌≢◌, ℕ, zero, suc, ◌+◌, ◌<◌, ◌≤◌, ◌==◌, is_none, if◌then◌else◌, Bool, true, false, T, Option, Some, None, IfSome, List, [], ◌∷◌, ◌++◌, length, map, get_or, set, All, refl, sym, ap, subst, ◌∙◌, arith, append-nil, length-append}
use Rattle.std.specs.List.{filter_map}
use Rattle.std.proofs.Math.Dec.{eqb_refl}
use Rattle.std.specs.Map.{lookup}
use Rattle.std.specs.Option.{option_or}
use Rattle.std.proofs.lemmas.Bool.{eqb-true}
use Rattle.std.proofs.lemmas.Grind.{flat_map-append}
use Rattle.std.proofs.lemmas.List.{length-map}
use Rattle.std.proofs.lemmas.List.Elements.{All-append, All-cons, All-nil, filter_map-append}
use Rattle.std.proofs.lemmas.Map.Entries.{All-lookup}
use Rattle.syntax_tree.specs.declared.clause.Spec.{Spec as SpecTree}
use Rattle.syntax_tree.specs.declared.clause.Spec.TheVariants.{Module as module_spec, Named as named_spec, Schema as schema_spec, Function as function_spec, Loop as loop_spec}
use Rattle.syntax_tree.specs.SourceData.{SourceMemberData}
use Rattle.syntax_tree.specs.declared.source.SourceForm.{SourceForm}
use Rattle.syntax_tree.specs.declared.source.SourceForm.TheVariants.{Use, Friend, Struct, Constant, Function, Spec}
use Rattle.scopes.specs.declared.member.MemberKind.TheVariants.{Struct as a_struct, Function as a_function}
use Rattle.scopes.specs.declared.member.NameOfKind.{NameOfKind}
use Rattle.scopes.specs.MemberNames.{first_stays, same_name_of_kind}
use Rattle.scopes.specs.Brings.{firsts}
use Rattle.scopes.specs.Declares.{form_declares, listed}
use Rattle.resolution.specs.declared.declared.Declared.{Declared}
use Rattle.resolution.specs.declared.owners.Owner.{Owner}
use Rattle.resolution.specs.Items.{AreKnown, HasUnknownInForm, Here, form_items}
use Rattle.resolution.specs.Owners.{block_of, if_number, member_numbers, member_scope, module_scope, numbered_as, numbered_names, owner_named, owner_of, owner_scopes, with_number}
use Rattle.resolution.specs.OwnersSoFar.{AreOwners, IsOwnerAfter, StandsIn, blocks_before, blocks_with, scopes_of}
use Rattle.resolution.specs.Parts.{ArePartsFrom, IsPartOf, IsSimple}
use Rattle.resolution.specs.Programs.{friend_of_member}
use Rattle.resolution.proofs.OwnerLaws.{owner_at, owners_count, owners_same, owners_set}

some_same : (m n : ℕ) → Some m ≡ Some n → m ≡ n
some_same m n e = cc

none_some : {A : Type 0} (x : A) → None ≡ Some x → ⊥
none_some x e = cc

true_of : (b : Bool) → T b → b ≡ true
true_of true h = refl
true_of false h = absurd h

-- ---- indices of owners

stays_within : (count : ℕ) (es : List (NameOfKind × ℕ)) (name : NameOfKind) (n : ℕ) → All (λ e. e.1 < count) es → n < count → All (λ e. e.1 < count) (first_stays same_name_of_kind es name n)
stays_within count es name n a h =
    let P : Bool → Type 0 = λ b. All (λ e. e.1 < count) (if b then es ++ (name, n) ∷ [] else es) in
    let cases : (b : Bool) → P b = λ b. elim b as P [ true ↦ All-append (λ e. e.1 < count) es ((name, n) ∷ []) a (All-cons (λ e. e.1 < count) (name, n) [] h (All-nil (λ e. e.1 < count))) | false ↦ a ] in
    cases (is_none (lookup (same_name_of_kind name) es))

firsts_within : (count : ℕ) (es : List (NameOfKind × ℕ)) (names : List NameOfKind) (n : ℕ) (more : List (NameOfKind × ℕ)) → All (λ e. e.1 < count) es → n < count → ((ts : List (NameOfKind × ℕ)) → All (λ e. e.1 < count) ts → All (λ e. e.1 < count) (firsts same_name_of_kind ts more)) → All (λ e. e.1 < count) (firsts same_name_of_kind es (map (with_number n) names ++ more))
firsts_within count es [] n more a h k = k es a
firsts_within count es (name ∷ names) n more a h k = firsts_within count (first_stays same_name_of_kind es name n) names n more (stays_within count es name n a h) h k

numbers_within : (count n : ℕ) (ms : List SourceMemberData) (es : List (NameOfKind × ℕ)) → n + length ms ≤ count → All (λ e. e.1 < count) es → All (λ e. e.1 < count) (firsts same_name_of_kind es (numbered_names n ms))
numbers_within count n [] es h a = a
numbers_within count n (m ∷ ms) es h a =
    firsts_within count es (listed (form_declares m.form)) n (numbered_names (n + 1) ms) a (omega (arith, h)) (λ ts b. numbers_within count (n + 1) ms ts (omega (arith, h)) b)

numbered_below : (numbers : List (NameOfKind × ℕ)) (count n : ℕ) (name : List ℕ) → All (λ e. e.1 < count) numbers → owner_named numbers name ≡ Some n → n < count
numbered_below numbers count n name within e =
    let P : Option ℕ → Type 0 = λ o. IfSome o (λ m. m < count) in
    let one : P (numbered_as numbers a_function name) = All-lookup (λ m. m < count) _ numbers within in
    let two : P (numbered_as numbers a_struct name) = All-lookup (λ m. m < count) _ numbers within in
    let either : (a b : Option ℕ) → P a → P b → P (option_or a b) = λ a b p q. elim a as (λ a. P a → P (option_or a b)) [ None ↦ λ r. q | Some x ↦ λ r. r ] p in
    subst P e (either (numbered_as numbers a_function name) (numbered_as numbers a_struct name) one two)

pub owner_below : (ms : List SourceMemberData) (spec : SpecTree) (n : ℕ) → owner_of (member_numbers ms) (length ms) spec ≡ Some n → n < length ms + 1
owner_below ms (module_spec span clauses) n e = let f : length ms ≡ n = some_same (length ms) n e in omega arith
owner_below ms (named_spec span name clauses) n e =
    let within = numbers_within (length ms) 0 ms [] (omega arith) (All-nil (λ e. e.1 < length ms)) in
    let h : n < length ms = numbered_below (member_numbers ms) (length ms) n name.text within e in omega arith
owner_below ms (schema_spec s) n e = absurd (none_some n e)
owner_below ms (function_spec f) n e = absurd (none_some n e)
owner_below ms (loop_spec span clauses) n e = absurd (none_some n e)

-- ---- one more member

if_same : (k : ℕ) (s : SpecTree) → if_number k (Some k) s ≡ s ∷ []
if_same k s = ap (λ (b : Bool). if b then s ∷ [] else []) (true_of (k == k) (eqb_refl k))

if_other : (m k : ℕ) (s : SpecTree) → m ≢ k → if_number m (Some k) s ≡ []
if_other m k s h =
    let P : Bool → Type 0 = λ b. (b ≡ true → m ≡ k) → (if b then s ∷ [] else []) ≡ [] in
    let cases : (b : Bool) → P b = λ b. elim b as P [ true ↦ λ q. absurd (h (q refl)) | false ↦ λ q. refl ] in
    cases (m == k) (eqb-true m k)

blocks-snoc : (w : Here) (first : List SourceMemberData) (m : SourceMemberData) (n : ℕ) → blocks_before w (first ++ m ∷ []) n ≡ blocks_before w first n ++ block_of (member_numbers w.members) (length w.members) n m.form
blocks-snoc w first m n =
    let f = λ (x : SourceMemberData). block_of (member_numbers w.members) (length w.members) n x.form in
    flat_map-append f first (m ∷ []) ∙ ap (λ bs. blocks_before w first n ++ bs) (append-nil (f m))

pub owners_with : (w : Here) (first : List SourceMemberData) (m : SourceMemberData) (spec : SpecTree) (os : List Owner) → m.form ≡ Spec spec → AreOwners w (blocks_with w first spec) os → AreOwners w (blocks_before w (first ++ m ∷ [])) os
owners_with w first m spec os e a = record {
  are = owners_same (blocks_with w first spec) (blocks_before w (first ++ m ∷ [])) 0 (scopes_of w) os (λ n. sym (blocks-snoc w first m n ∙ ap (λ form. blocks_before w first n ++ block_of (member_numbers w.members) (length w.members) n form) e)) a.are;
}

-- the member is not a spec block
pub owners_without : (w : Here) (first : List SourceMemberData) (m : SourceMemberData) (os : List Owner) → ((n : ℕ) → block_of (member_numbers w.members) (length w.members) n m.form ≡ []) → AreOwners w (blocks_before w first) os → AreOwners w (blocks_before w (first ++ m ∷ [])) os
owners_without w first m os e a = record {
  are = owners_same (blocks_before w first) (blocks_before w (first ++ m ∷ [])) 0 (scopes_of w) os (λ n. sym (blocks-snoc w first m n ∙ ap (λ bs. blocks_before w first n ++ bs) (e n) ∙ append-nil (blocks_before w first n))) a.are;
}

-- the block has no owner
pub owners_nothing : (w : Here) (first : List SourceMemberData) (spec : SpecTree) (os : List Owner) → owner_of (member_numbers w.members) (length w.members) spec ≡ None → AreOwners w (blocks_before w first) os → AreOwners w (blocks_with w first spec) os
owners_nothing w first spec os e a = record {
  are = owners_same (blocks_before w first) (blocks_with w first spec) 0 (scopes_of w) os (λ n. sym (ap (λ o. blocks_before w first n ++ if_number n o spec) e ∙ append-nil (blocks_before w first n))) a.are;
}

-- the block belongs to the owner with index k
pub owners_more : (w : Here) (first : List SourceMemberData) (spec : SpecTree) (os : List Owner) (k : ℕ) (o : Owner) → owner_of (member_numbers w.members) (length w.members) spec ≡ Some k → k < length os → AreOwners w (blocks_before w first) os → IsOwnerAfter (get_or (scopes_of w) k (module_scope w.environment w.schemas)) (blocks_before w first k ++ spec ∷ []) o → AreOwners w (blocks_with w first spec) (set os k o)
owners_more w first spec os k o e h a after = record {
  are = owners_set (blocks_before w first) (blocks_with w first spec) 0 (scopes_of w) os k (module_scope w.environment w.schemas) o a.are h
      (λ m q. let r : m ≢ k = λ x. q (x ∙ omega arith) in sym (ap (λ n. blocks_before w first m ++ if_number m n spec) e ∙ ap (λ bs. blocks_before w first m ++ bs) (if_other m k spec r) ∙ append-nil (blocks_before w first m)))
      (let z : 0 + k ≡ k = omega arith in subst (λ m. IsOwnerAfter (get_or (scopes_of w) k (module_scope w.environment w.schemas)) (blocks_with w first spec m) o) (sym z)
      (subst (λ bs. IsOwnerAfter (get_or (scopes_of w) k (module_scope w.environment w.schemas)) bs o) (sym (ap (λ n. blocks_before w first k ++ if_number k n spec) e ∙ ap (λ bs. blocks_before w first k ++ bs) (if_same k spec))) after));
}

-- the owner with index k
pub owner_of_number : (w : Here) (first : List SourceMemberData) (os : List Owner) (k : ℕ) (o : Owner) → AreOwners w (blocks_before w first) os → k < length os → o ≡ get_or os k o → IsOwnerAfter (get_or (scopes_of w) k (module_scope w.environment w.schemas)) (blocks_before w first k) o
owner_of_number w first os k o a h e =
    let z : 0 + k ≡ k = omega arith in
    subst (λ m. IsOwnerAfter (get_or (scopes_of w) k (module_scope w.environment w.schemas)) (blocks_before w first m) o) z
    (owner_at (blocks_before w first) 0 (scopes_of w) os k (module_scope w.environment w.schemas) o a.are h e)

pub owners_length : (w : Here) (blocks : ℕ → List SpecTree) (os : List Owner) → AreOwners w blocks os → length os ≡ length w.members + 1
owners_length w blocks os a =
    let n = owners_count blocks 0 (scopes_of w) os a.are in
    omega (arith, n, length-append (map (member_scope w.environment w.schemas) w.members) (module_scope w.environment w.schemas ∷ []), length-map w.members (member_scope w.environment w.schemas))

stands_among : (w : Here) (ms : List SourceMemberData) (k : ℕ) → StandsIn w (get_or (owner_scopes w.environment w.schemas ms) k (module_scope w.environment w.schemas))
stands_among w [] zero = record { environment = refl; is_spec = refl; schemas = refl }
stands_among w [] (suc k) = record { environment = refl; is_spec = refl; schemas = refl }
stands_among w (m ∷ ms) zero = record { environment = refl; is_spec = refl; schemas = refl }
stands_among w (m ∷ ms) (suc k) = stands_among w ms k

-- every owner of a module has the module's context
pub owner_stands : (w : Here) (k : ℕ) → StandsIn w (get_or (scopes_of w) k (module_scope w.environment w.schemas))
owner_stands w k = stands_among w w.members k

-- ---- the declarations of members

pub parts_snoc : (w : Here) (n : ℕ) (ms : List SourceMemberData) (ps : List (Option Declared)) (m : SourceMemberData) (p : Option Declared) → ArePartsFrom w n ms ps → IsPartOf w (n + length ms) m p → ArePartsFrom w n (ms ++ m ∷ []) (ps ++ p ∷ [])
parts_snoc w n [] [] m p a h = let e : n + 0 ≡ n = omega arith in (subst (λ k. IsPartOf w k m p) e h, tt)
parts_snoc w n [] (q ∷ ps) m p a h = absurd a
parts_snoc w n (x ∷ ms) [] m p a h = absurd a
parts_snoc w n (x ∷ ms) (q ∷ ps) m p a h =
    let e : n + length (x ∷ ms) ≡ (n + 1) + length ms = omega arith in
    (a.0, parts_snoc w (n + 1) ms ps m p a.1 (subst (λ k. IsPartOf w k m p) e h))

found_one : {A B : Type 0} (f : A → Option B) (x : A) (o : Option B) → f x ≡ o → filter_map f (x ∷ []) ≡ listed o
found_one f x None e = ap (λ o. filter_map (λ y. o) (x ∷ [])) e
found_one f x (Some y) e = ap (λ o. filter_map (λ z. o) (x ∷ [])) e

pub friends_snoc : (w : Here) (ms : List SourceMemberData) (m : SourceMemberData) → filter_map (friend_of_member w) (ms ++ m ∷ []) ≡ filter_map (friend_of_member w) ms ++ listed (friend_of_member w m)
friends_snoc w ms m = filter_map-append (friend_of_member w) ms (m ∷ []) ∙ ap (λ fs. filter_map (friend_of_member w) ms ++ fs) (found_one (friend_of_member w) m (friend_of_member w m) refl)

-- ---- members that are neither functions nor spec blocks

pub simple_known : (w : Here) (before : List SourceMemberData) (form : SourceForm) (loops : List SpecTree) → IsSimple form → (HasUnknownInForm w before form → ⊥) → AreKnown (form_items w before form loops)
simple_known w before (Use u) loops s h = (h, tt)
simple_known w before (Friend f) loops s h = (h, tt)
simple_known w before (Struct t) loops s h = (h, tt)
simple_known w before (Constant c) loops s h = (h, tt)
simple_known w before (Function f) loops s h = absurd s
simple_known w before (Spec b) loops s h = absurd s

pub simple_block : (form : SourceForm) (numbers : List (NameOfKind × ℕ)) (count n : ℕ) → IsSimple form → block_of numbers count n form ≡ []
simple_block (Use u) numbers count n s = refl
simple_block (Friend f) numbers count n s = refl
simple_block (Struct t) numbers count n s = refl
simple_block (Constant c) numbers count n s = refl
simple_block (Function f) numbers count n s = absurd s
simple_block (Spec b) numbers count n s = absurd s
