-- Vector types beside vectors made of others.
use Rattle.std.proofs.Common.{◌≡◌, inl, inr, ℕ, ◌+◌, ◌<◌, Bool, true, false, not, true≢false, List, [], ◌∷◌, ◌++◌, length, take, get_or, cond, if◌then◌else◌, append-nil, refl, sym, ap, ◌∙◌, subst, arith}
use Rattle.std.specs.Prelude.{Contains, filter, nat_eq}
use Rattle.std.specs.List.{list_any}
use Rattle.std.proofs.lemmas.Bool.{eqb-true}
use Rattle.std.proofs.lemmas.List.Elements.{Contains-append_left, Contains-append_right, Contains-push_cases, filter_more}
use Rattle.indexmap.specs.IndexSet.{insert_key}
use Rattle.indexmap.proofs.CallerLemmas.{Contains-list_any}
use Rattle.base.specs.TypeData.{TypeData, VectorType}
use Rattle.fol.specs.declared.operators.Constant.TheVariants.{Empty}
use Rattle.fol.specs.declared.operators.Unary.TheVariants.{Len, Pop}
use Rattle.fol.specs.declared.operators.Binary.TheVariants.{Push}
use Rattle.fol.specs.declared.operators.Ternary.TheVariants.{Store, Set}
use Rattle.fol.specs.FormulaData.{TermData}
use Rattle.term_pool.specs.Items.{term_in, type_in}
use Rattle.term_pool.specs.declared.node.Node.{Node}
use Rattle.axiom_instances.specs.declared.reading.TermForm.{TermForm}
use Rattle.axiom_instances.specs.declared.reading.TermForm.TheVariants.{Constant, Unary, Binary, Ternary, If, Pack, SetField, Other}
use Rattle.axiom_instances.specs.Numbers.{HasForm, IsOtherTerm, IsVariable, IsField, IsNone, IsVector, term_at, type_at}
use Rattle.axiom_instances.specs.PairRows.{IsNoVector}
use Rattle.axiom_strategy.specs.declared.typings.Typing.{Typing}
use Rattle.axiom_strategy.specs.Beside.{is_vector_type, is_made_vector, is_made_form, HaveNumber, AreIn, AreVectorTypes}
use Rattle.axiom_strategy.proofs.TakenLemmas.{taken_kept, taken_last, taken_cases}

-- ---- vector types

pub a_vector_type : {ns : List Node} {of items : ℕ} → IsVector ns of items → true ≡ is_vector_type (type_at ns of)
a_vector_type h = sym (ap is_vector_type (ap type_in h.whole.is))

not_vector_type : (a : TypeData) → ((b : TypeData) → a ≡ VectorType b → ⊥) → false ≡ is_vector_type a
not_vector_type (VectorType b) d = absurd (d b refl)
not_vector_type _ d = refl

pub no_vector_type : {ns : List Node} {of : ℕ} → IsNoVector ns of → false ≡ is_vector_type (type_at ns of)
no_vector_type h = not_vector_type _ h.none

-- ---- vectors made of others

other_made : {t : TermData} → IsOtherTerm t → false ≡ is_made_vector t
other_made (IsVariable n) = refl
other_made (IsField s k t) = refl
other_made IsNone = refl

pub made_is : (ns : List Node) (n : ℕ) (f : TermForm) → HasForm ns n f → is_made_form f ≡ is_made_vector (term_at ns n)
made_is ns n (Constant Empty) h = sym (ap is_made_vector (ap term_in h.is))
made_is ns n (Constant _) h = sym (ap is_made_vector (ap term_in h.is))
made_is ns n (Unary Len v) h = sym (ap is_made_vector (ap term_in h.whole.is))
made_is ns n (Unary Pop v) h = sym (ap is_made_vector (ap term_in h.whole.is))
made_is ns n (Binary Push v x) h = sym (ap is_made_vector (ap term_in h.whole.is))
made_is ns n (Binary _ v x) h = sym (ap is_made_vector (ap term_in h.whole.is))
made_is ns n (Ternary Set b c d) h = sym (ap is_made_vector (ap term_in h.whole.is))
made_is ns n (Ternary Store b c d) h = sym (ap is_made_vector (ap term_in h.whole.is))
made_is ns n (If p b c) h = sym (ap is_made_vector (ap term_in h.whole.is))
made_is ns n (Pack s us) h = sym (ap is_made_vector (ap term_in h.whole.is))
made_is ns n (SetField l s b c) h = sym (ap is_made_vector (ap term_in h.whole.is))
made_is ns n Other h = other_made h.other

-- ---- sets of numbers

same_number : (k n : ℕ) → nat_eq k n ≡ true → k ≡ n
same_number k n e = eqb-true k n e

last_has : (xs : List ℕ) (n : ℕ) → Contains (xs ++ n ∷ []) n
last_has xs n = Contains-append_right xs (n ∷ []) n (0, omega arith, refl)

module _ (seen numbers : List ℕ) (n : ℕ) (listed : AreIn seen numbers) where
  -- a number that was not seen comes last
  pub new_in : {more rest : List ℕ} → more ≡ insert_key nat_eq seen n → rest ≡ numbers ++ n ∷ [] → AreIn more rest
  new_in {more} {rest} e f = subst (AreIn more) (sym f) (subst (λ ks. AreIn ks (numbers ++ n ∷ [])) (sym e) (record { each = λ k h. go k (list_any (nat_eq n) seen) h }))
    where
      go : (k : ℕ) (b : Bool) → Contains (if b then seen else seen ++ n ∷ []) k → Contains (numbers ++ n ∷ []) k
      go k true h = Contains-append_left numbers (n ∷ []) k (listed.each k h)
      go k false h = elim (Contains-push_cases seen n k h) [ inl old ↦ Contains-append_left numbers (n ∷ []) k (listed.each k old) | inr same ↦ subst (Contains (numbers ++ n ∷ [])) same (last_has numbers n) ]

  pub new_number : {rest : List ℕ} → rest ≡ numbers ++ n ∷ [] → HaveNumber numbers rest n
  new_number f = subst (λ ks. HaveNumber numbers ks n) (sym f) (record {
    kept = λ k h. Contains-append_left numbers (n ∷ []) k h;
    has = last_has numbers n;
    only = λ k h. elim (Contains-push_cases numbers n k h) [ inl old ↦ inl old | inr same ↦ inr (sym same) ];
  })

  seen_is : {r : Bool} → r ≡ not (list_any (nat_eq n) seen) → r ≡ false → list_any (nat_eq n) seen ≡ true
  seen_is {r} e f = go (list_any (nat_eq n) seen) (sym e ∙ f)
    where
      go : (b : Bool) → not b ≡ false → b ≡ true
      go true h = refl
      go false h = absurd (true≢false h)

  pub old_in : {more : List ℕ} {r : Bool} → more ≡ insert_key nat_eq seen n → r ≡ not (list_any (nat_eq n) seen) → r ≡ false → AreIn more numbers
  old_in {more} e f g = subst (λ ks. AreIn ks numbers) (sym (e ∙ ap (λ b. if b then seen else seen ++ n ∷ []) (seen_is f g))) listed

  pub old_number : {r : Bool} → r ≡ not (list_any (nat_eq n) seen) → r ≡ false → HaveNumber numbers numbers n
  old_number f g = record {
    kept = λ k h. h;
    has = listed.each n (Contains-list_any nat_eq same_number seen n (seen_is f g));
    only = λ k h. inl h;
  }

-- ---- types, one by one

module _ (ns : List Node) (typings : List Typing) (i : ℕ) (d : Typing) (w : i < length typings) where
  abbrev one : Typing
  one = get_or typings i d

  pub one_more_type : {types more : List ℕ} → AreVectorTypes ns (take i typings) types → is_vector_type (type_at ns one.of) ≡ true → HaveNumber types more one.of → AreVectorTypes ns (take (i + 1) typings) more
  one_more_type {types} {more} h e add = record {
    each = λ n c. elim (add.only n c) [ inl old ↦ (let it = h.each n old in record { typing = it.typing; among = taken_kept typings i d w it.typing it.among; is = it.is }) | inr same ↦ record { typing = one; among = taken_last typings i d w; is = sym same } ];
    all = λ x c v. elim (taken_cases typings i d w x c) [ inl old ↦ add.kept x.of (h.all x old v) | inr same ↦ subst (Contains more) (ap (λ (y : Typing). y.of) same) add.has ];
  }

  pub no_more_type : {types : List ℕ} → AreVectorTypes ns (take i typings) types → is_vector_type (type_at ns one.of) ≡ false → AreVectorTypes ns (take (i + 1) typings) types
  no_more_type {types} h e = record {
    each = λ n c. (let it = h.each n c in record { typing = it.typing; among = taken_kept typings i d w it.typing it.among; is = it.is });
    all = λ x c v. elim (taken_cases typings i d w x c) [ inl old ↦ h.all x old v | inr same ↦ absurd (true≢false (sym v ∙ ap (λ (y : Typing). is_vector_type (type_at ns y.of)) (sym same) ∙ e)) ];
  }

pub no_types : (ns : List Node) → AreVectorTypes ns [] []
no_types ns = record { each = λ n c. absurd (omega (arith, c.1)); all = λ x c v. absurd (omega (arith, c.1)) }

pub none_seen : AreIn [] []
none_seen = record { each = λ k c. c }

-- ---- terms, one by one

module _ (test : ℕ → Bool) (xs : List ℕ) (i : ℕ) (w : i < length xs) where
  pub passed_over : {ys : List ℕ} → ys ≡ filter test (take i xs) → false ≡ test (get_or xs i 0) → ys ≡ filter test (take (i + 1) xs)
  passed_over e f = e ∙ sym (append-nil (filter test (take i xs))) ∙ ap (λ b. filter test (take i xs) ++ cond b (get_or xs i 0 ∷ []) []) f ∙ sym (filter_more test xs i 0 w)

  pub put_behind : {ys zs : List ℕ} → zs ≡ ys ++ get_or xs i 0 ∷ [] → ys ≡ filter test (take i xs) → true ≡ test (get_or xs i 0) → zs ≡ filter test (take (i + 1) xs)
  put_behind e f g = e ∙ ap (λ vs. vs ++ get_or xs i 0 ∷ []) f ∙ ap (λ b. filter test (take i xs) ++ cond b (get_or xs i 0 ∷ []) []) g ∙ sym (filter_more test xs i 0 w)
