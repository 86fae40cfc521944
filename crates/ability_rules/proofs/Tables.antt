-- The number of a name in a table, and what is declared there.
use Rattle.std.proofs.Common.{◌≡◌, inl, inr, ℕ, zero, suc, ◌<◌, ◌≤◌, nat_lt, Bool, true, false, cond, List, [], ◌∷◌, length, get_or, Some, None, refl, sym, ap, subst, ◌∙◌, arith}
use Rattle.std.specs.Prelude.{slice_get, ◌==◌}
use Rattle.std.specs.List.{position, position_or_len}
use Rattle.std.proofs.lemmas.Bool.{ltb-false, true≢false}
use Rattle.std.proofs.lemmas.Option.{slice_get_cases}
use Rattle.std.specs.Map.{keys_of, lookup}
use Rattle.std.specs.Cmp.Lexicographic.{same_text}
use Rattle.std.proofs.lemmas.Bool.{and_parts, eqb-true}
use Rattle.std.proofs.lemmas.List.{length-map}
use Rattle.std.proofs.lemmas.List.Quantifiers.{position-Some}
use Rattle.std.proofs.lemmas.List.Sums.{fails_before_first}
use Rattle.base.specs.Names.{same_name}
use Rattle.base.specs.declared.types.FunctionId.{FunctionId}
use Rattle.program.specs.Same.{same_function}

module _ {K V : Type 0} (test : K → Bool) where
  -- the first entry that passes is the one that is found
  lookup_first : (es : List (K × V)) (n : ℕ) (e d : K × V) → slice_get es n ≡ Some e → test e.0 ≡ true → ((k : ℕ) → k < n → test (get_or (keys_of es) k d.0) ≡ false) → lookup test es ≡ Some e.1
  lookup_first [] n e d at passes before = cc
  lookup_first (x ∷ es) zero e d at passes before =
      let same : x ≡ e = some_same x e at in
      subst (λ (y : K × V). cond (test y.0) (Some y.1) (lookup test es) ≡ Some e.1) (sym same) (ap (λ (b : Bool). cond b (Some e.1) (lookup test es)) passes)
    where
      some_same : (a b : K × V) → Some a ≡ Some b → a ≡ b
      some_same a b h = cc
  lookup_first (x ∷ es) (suc n) e d at passes before =
      ap (λ (b : Bool). cond b (Some x.1) (lookup test es)) (before 0 (omega arith)) ∙ lookup_first es n e d at passes (λ k lt. before (suc k) (omega (arith, lt)))

  pub found_there : (es : List (K × V)) (n : ℕ) (e : K × V) → position test (keys_of es) ≡ Some n → slice_get es n ≡ Some e → (lookup test es ≡ Some e.1) × (test e.0 ≡ true)
  found_there es n e found at =
      let p = position-Some test (keys_of es) n e.0 found in
      let key : get_or (keys_of es) n e.0 ≡ e.0 = key_at es n e e at in
      let passes : test e.0 ≡ true = ap test (sym key) ∙ p.1 in
      (lookup_first es n e e at passes p.2, passes)
    where
      key_at : (xs : List (K × V)) (k : ℕ) (x d : K × V) → slice_get xs k ≡ Some x → get_or (keys_of xs) k d.0 ≡ x.0
      key_at [] k x d h = cc
      key_at (y ∷ xs) zero x d h = let same : y ≡ x = (some_same y x h) in ap (λ (z : K × V). z.0) same
        where
          some_same : (a b : K × V) → Some a ≡ Some b → a ≡ b
          some_same a b s = cc
      key_at (y ∷ xs) (suc k) x d h = key_at xs k x d h

  abbrev Passing : List (K × V) → Type 0
  Passing es = (k : ℕ) × (k < length es) × ((d : K) → test (get_or (keys_of es) k d) ≡ true)

  passing_next : (x : K × V) (es : List (K × V)) (v : V) → (lookup test es ≡ Some v → Passing es) → (b : Bool) → test x.0 ≡ b → cond b (Some x.1) (lookup test es) ≡ Some v → Passing (x ∷ es)
  passing_next x es v more true t e = (0, omega arith, λ d. t)
  passing_next x es v more false t e = (let r = more e in let w = r.1 in (suc r.0, omega (arith, w), r.2))

  -- if an entry is found, a name passes
  passing : (es : List (K × V)) (v : V) → lookup test es ≡ Some v → Passing es
  passing [] v h = cc
  passing (x ∷ es) v h = passing_next x es v (passing es v) (test x.0) refl h

  -- and has a number
  pub number_there : (es : List (K × V)) (v : V) (d : K) → lookup test es ≡ Some v → (n : ℕ) × (position test (keys_of es) ≡ Some n)
  number_there es v d h = go (nat_lt (position_or_len test (keys_of es)) (length (keys_of es))) refl
    where
      go : (b : Bool) → nat_lt (position_or_len test (keys_of es)) (length (keys_of es)) ≡ b → (n : ℕ) × (position test (keys_of es) ≡ Some n)
      go true t = (position_or_len test (keys_of es), ap (λ (b : Bool). cond b (Some (position_or_len test (keys_of es))) None) t)
      go false t =
          let p = passing es v h in
          let w = p.1 in
          let long = length-map es (λ (e : K × V). e.0) in
          let past : length (keys_of es) ≤ position_or_len test (keys_of es) = ltb-false _ _ t in
          let fails = fails_before_first test (keys_of es) p.0 d (omega (arith, w, long, past)) in
          absurd (true≢false (sym (p.2 d) ∙ fails))

  -- and has an entry
  pub entry_there : (es : List (K × V)) (n : ℕ) (d : K) → position test (keys_of es) ≡ Some n → (e : K × V) × (slice_get es n ≡ Some e)
  entry_there es n d h = elim (slice_get_cases es n).1 [
    | inl some ↦ (some.0, some.2)
    | inr none ↦ (
        let w = (position-Some test (keys_of es) n d h).0 in
        let long = length-map es (λ (e : K × V). e.0) in
        let past = none.0 in
        absurd (omega (arith, w, long, past)))
  ]

-- names that are the same are equal
pub same_is : (f g : FunctionId) → same_function f g ≡ true → f ≡ g
same_is f g same =
    let parts = and_parts (f.address == g.address) _ same in
    let names = and_parts (same_name f.«module» g.«module») (same_name f.name g.name) parts.1 in
    let address : f.address ≡ g.address = eqb-true _ _ parts.0 in
    let home : f.«module» ≡ g.«module» = same_text _ _ (sym names.0) in
    let name : f.name ≡ g.name = same_text _ _ (sym names.1) in
    λ i. record { address = address i; «module» = home i; name = name i }
