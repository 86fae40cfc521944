-- Sets of structs and of functions, member by member.
use Rattle.std.proofs.Common.{◌≡◌, ◌↔◌, ℕ, ◌+◌, ◌<◌, ◌≤◌, Bool, true, false, ◌||◌, inl, inr, List, [], ◌∷◌, ◌++◌, length, get_or, take, Option, Some, None, add-one, refl, sym, ◌∙◌, ap, subst, arith, if◌then◌else◌}
use Rattle.std.specs.Prelude.{All, Contains, cond, is_some}
use Rattle.std.specs.Bool.{IsTrue}
use Rattle.std.specs.Map.{lookup}
use Rattle.std.proofs.Math.Seq.{take-suc}
use Rattle.std.proofs.lemmas.Bool.{both_ways, or_cases, or_left, or_right}
use Rattle.std.proofs.lemmas.List.{take_all}
use Rattle.std.proofs.lemmas.List.Elements.{All-contains, All-more, Contains-append_left, Contains-push, Contains-push_cases}
use Rattle.base.specs.declared.types.StructId.{StructId}
use Rattle.program.specs.Same.{same_struct}
use Rattle.type_constraints.proofs.TypedNodesReading.{struct_equal, struct_itself}
use Rattle.ability_rules.specs.Missing.{HasMissing, IsSetOf, StructSet, has_struct}

-- ---- look-ups

or_false : (b : Bool) → (b || false) ≡ b
or_false true = refl
or_false false = refl

pub is_some_of : {A : Type 0} (o : Option A) → (o ≡ None → ⊥) → is_some o ≡ true
is_some_of None h = absurd (h refl)
is_some_of (Some x) h = refl

push_none : (b : Bool) (x : Unit {0}) (none : Option (Unit {0})) → none ≡ None → is_some (cond b (Some x) none) ≡ b
push_none true x none e = refl
push_none false x none e = ap (λ (o : Option (Unit {0})). is_some o) e

push_step : (b t : Bool) (x : Unit {0}) (more before : Option (Unit {0})) → is_some more ≡ (is_some before || t) → is_some (cond b (Some x) more) ≡ (is_some (cond b (Some x) before) || t)
push_step true t x more before h = refl
push_step false t x more before h = h

pub is_some_push : {K : Type 0} (test : K → Bool) (es : List (K × Unit {0})) (k : K) → is_some (lookup test (es ++ (k, tt) ∷ [])) ≡ (is_some (lookup test es) || test k)
is_some_push test [] k = push_none (test k) tt None refl
is_some_push test (e ∷ es) k = push_step (test e.0) (test k) e.1 (lookup test (es ++ (k, tt) ∷ [])) (lookup test es) (is_some_push test es k)

-- an element put into a set is found, and so are those that were found before
pub put_is : {K : Type 0} (same : K → K → Bool) → ((x y : K) → same x y ≡ true → x ≡ y) → (set new : List (K × Unit {0})) (x : K) (is_new : Bool) → (IsTrue is_new ↔ (lookup (same x) set ≡ None))
    → new ≡ (if is_new then set ++ (x, tt) ∷ [] else set) → (q : K) → is_some (lookup (same q) new) ≡ (is_some (lookup (same q) set) || same q x)
put_is {K} same equal set new x true n e q = ap (λ (es : List (K × Unit {0})). is_some (lookup (same q) es)) e ∙ is_some_push (same q) set x
put_is {K} same equal set new x false n e q = ap (λ (es : List (K × Unit {0})). is_some (lookup (same q) es)) e ∙ go (same q x) refl
  where
    there : is_some (lookup (same x) set) ≡ true
    there = is_some_of (lookup (same x) set) (λ none. (let t : false ≡ true = n.1 none in cc))

    go : (b : Bool) → same q x ≡ b → is_some (lookup (same q) set) ≡ (is_some (lookup (same q) set) || b)
    go true t = (let at : is_some (lookup (same q) set) ≡ true = subst (λ (y : K). is_some (lookup (same y) set) ≡ true) (sym (equal q x t)) there in at ∙ sym (or_right (is_some (lookup (same q) set)) true refl))
    go false t = sym (or_false (is_some (lookup (same q) set)))

-- ---- sets of structs

pub no_structs : (set : StructSet) → set ≡ [] → IsSetOf set []
no_structs set e = record {
  has = λ s c. (let b = c.1 in absurd (omega (arith, b)));
  only = λ s t. (let none = ap (λ (xs : StructSet). has_struct xs s) e in absurd (cc));
}

pub set_more : (set new : StructSet) (structs : List StructId) (k : ℕ) (id copy : StructId) (is_new : Bool) → IsSetOf set (take k structs) → k < length structs → id ≡ get_or structs k id → copy ≡ id
    → (IsTrue is_new ↔ (lookup (same_struct copy) set ≡ None)) → new ≡ (if is_new then set ++ (copy, tt) ∷ [] else set) → IsSetOf new (take (k + 1) structs)
set_more set new structs k id copy is_new is b at same n e = subst (λ (xs : List StructId). IsSetOf new xs) (sym taken) (record {
  has = λ s c. elim (Contains-push_cases (take k structs) copy s c) [
    | inl old ↦ put s ∙ or_left _ _ (is.has s old)
    | inr one ↦ put s ∙ or_right _ _ (ap (same_struct s) one ∙ struct_itself s)
  ];
  only = λ s t. elim (or_cases _ _ (sym (put s) ∙ t)) [
    | inl old ↦ Contains-append_left (take k structs) (copy ∷ []) s (is.only s old)
    | inr one ↦ subst (λ (y : StructId). Contains (take k structs ++ copy ∷ []) y) (sym (struct_equal s copy one)) (Contains-push (take k structs) copy)
  ];
})
  where
    put : (s : StructId) → has_struct new s ≡ (has_struct set s || same_struct s copy)
    put = put_is same_struct struct_equal set new copy is_new n e

    taken : take (k + 1) structs ≡ take k structs ++ copy ∷ []
    taken = ap (λ (m : ℕ). take m structs) (add-one k) ∙ take-suc structs k id b ∙ ap (λ (y : StructId). take k structs ++ y ∷ []) (sym at ∙ sym same)

pub set_all : (set : StructSet) (structs : List StructId) (k : ℕ) → length structs ≤ k → IsSetOf set (take k structs) → IsSetOf set structs
set_all set structs k h is = subst (λ (xs : List StructId). IsSetOf set xs) (take_all k structs h) is

-- ---- what is missing

abbrev pub AreIn : StructSet → List StructId → Type 0
AreIn set structs = All (λ s. has_struct set s ≡ true) structs

pub more_in : (set : StructSet) (structs : List StructId) (k : ℕ) (id : StructId) → k < length structs → id ≡ get_or structs k id → has_struct set id ≡ true → AreIn set (take k structs) → AreIn set (take (k + 1) structs)
more_in set structs k id b at h all = All-more (λ (s : StructId). has_struct set s ≡ true) structs k id b all (subst (λ (s : StructId). has_struct set s ≡ true) at h)

pub all_in : (set : StructSet) (structs : List StructId) (k : ℕ) → length structs ≤ k → AreIn set (take k structs) → AreIn set structs
all_in set structs k h all = subst (λ (xs : List StructId). AreIn set xs) (take_all k structs h) all

pub missing_found : (set : StructSet) (listed structs : List StructId) (k : ℕ) (id : StructId) → IsSetOf set listed → k < length structs → id ≡ get_or structs k id → has_struct set id ≡ false → IsTrue true ↔ HasMissing listed structs
missing_found set listed structs k id is b at h = (λ t. (id, (k, b, sym at), λ c. both_ways (has_struct set id) h (is.has id c)), λ m. refl)

pub none_missing : (set : StructSet) (listed structs : List StructId) → IsSetOf set listed → AreIn set structs → IsTrue false ↔ HasMissing listed structs
none_missing set listed structs is all = (λ t. absurd (cc), λ h. absurd (h.2 (is.only h.0 (All-contains (λ (s : StructId). has_struct set s ≡ true) structs h.0 all h.1))))
