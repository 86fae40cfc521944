-- Representatives that follow others: numbers with equal first ones have equal second ones.
use Rattle.std.proofs.Common.{◌≡◌, ◌≢◌, ◌⊎◌, inl, inr, ℕ, zero, suc, ◌+◌, ◌<◌, ◌≤◌, Bool, false, cond, nat_eq, IsTrue, ◌↔◌, List, [], ◌∷◌, ◌++◌, length, get_or, take, Option, Some, None, refl, sym, ap, ◌∙◌, subst, arith}
use Rattle.std.specs.Prelude.{slice_index, Contains}
use Rattle.std.proofs.lemmas.Bool.{cases_eq, eq-eqb, ne_eqb}
use Rattle.std.proofs.lemmas.List.{take_more, take_all}
use Rattle.std.proofs.lemmas.List.Elements.{Contains-append_left, Contains-push, Contains-push_cases}
use Rattle.fol.specs.FormulaData.{TermData}
use Rattle.term_pool.specs.Items.{term_in}
use Rattle.term_pool.specs.Pools.{IsOneNumber}
use Rattle.term_pool.specs.declared.node.Node.{Node}
use Rattle.certificates.specs.BranchesBranch.{Branch, IsTerm}
use Rattle.certificates.specs.Joined.{Joined}
use Rattle.certificates.specs.Rows.{IsClassing}
use Rattle.tableau.specs.PoolBranches.{BranchData, branch_in, IsOver}
use Rattle.tableau.specs.Terms.{term_at, IsBranchTerm, AreBranchTerms}
use Rattle.tableau.proofs.BranchLemmas.{term_number}
use Rattle.row_reasoning.specs.Rows.{AreNames}
use Rattle.row_reasoning.specs.Names.{IsNaming}
use Rattle.step_checks.specs.Naming.{AreClassNames, Follows, IsNoted, Had, Got, HasOther}

-- ---- padded representatives

-- the first representatives are stored
pub record AreFilled (names : List ℕ) (count : ℕ) (made : List ℕ) : Type 0 where
  pub long : length made ≡ count
  pub same : (n : ℕ) → n < count → slice_index made n ≡ slice_index names n

-- ---- the representatives of numbers

-- a number of the list with these representatives
pub record HasPair (numbers first second : List ℕ) (key value : ℕ) : Type 0 where
  pub number : ℕ
  pub among : Contains numbers number
  pub key_is : slice_index first number ≡ key
  pub value_is : slice_index second number ≡ value

-- each first representative has the second one, and nothing else is kept
pub record IsFollowed (numbers first second : List ℕ) (found : ℕ → Option ℕ) : Type 0 where
  pub each : (n : ℕ) → Contains numbers n → found (slice_index first n) ≡ Some (slice_index second n)
  pub from : (key value : ℕ) → found key ≡ Some value → HasPair numbers first second key value

module _ (first second : List ℕ) where
  pub followed_begun : (found : ℕ → Option ℕ) → ((k : ℕ) → found k ≡ None) → IsFollowed [] first second found
  followed_begun found none = record {
    each = λ n h. absurd (let w = h.1 in omega (arith, w));
    from = λ key value e. absurd (let never : None ≡ Some value = sym (none key) ∙ e in cc);
  }

  more_pair : (numbers : List ℕ) (n key value : ℕ) → HasPair numbers first second key value → HasPair (numbers ++ n ∷ []) first second key value
  more_pair numbers n key value h = record { number = h.number; among = Contains-append_left numbers (n ∷ []) h.number h.among; key_is = h.key_is; value_is = h.value_is }

  last_pair : (numbers : List ℕ) (n : ℕ) → HasPair (numbers ++ n ∷ []) first second (slice_index first n) (slice_index second n)
  last_pair numbers n = record { number = n; among = Contains-push numbers n; key_is = refl; value_is = refl }

  pub followed_more : (numbers : List ℕ) (n : ℕ) (before after : ℕ → Option ℕ) → IsFollowed numbers first second before → IsNoted (slice_index first n) (slice_index second n) before after → IsFollowed (numbers ++ n ∷ []) first second after
  followed_more numbers n before after h (Had found same) = record {
    each = λ m o. elim (Contains-push_cases numbers n m o) [
      | inl p ↦ ap (λ f. f (slice_index first m)) same ∙ h.each m p
      | inr e ↦ subst (λ k. after (slice_index first k) ≡ Some (slice_index second k)) e (ap (λ f. f (slice_index first n)) same ∙ found)
    ];
    from = λ key value e. more_pair numbers n key value (h.from key value (ap (λ f. f key) (sym same) ∙ e));
  }
  followed_more numbers n before after h (Got none put) = record {
    each = λ m o. elim (Contains-push_cases numbers n m o) [
      | inl p ↦ put (slice_index first m) ∙ kept (slice_index first m) (slice_index second m) (cases_eq (slice_index first n) (slice_index first m)) (h.each m p)
      | inr e ↦ subst (λ k. after (slice_index first k) ≡ Some (slice_index second k)) e (put (slice_index first n) ∙ ap (λ t. cond t (Some (slice_index second n)) (before (slice_index first n))) (eq-eqb (slice_index first n) (slice_index first n) refl))
    ];
    from = λ key value e. found_from key value (cases_eq (slice_index first n) key) (sym (put key) ∙ e);
  }
    where
      kept : (key value : ℕ) → (slice_index first n ≡ key) ⊎ (slice_index first n ≢ key) → before key ≡ Some value → cond (nat_eq (slice_index first n) key) (Some (slice_index second n)) (before key) ≡ Some value
      kept key value (inl e) f = absurd (let never : None ≡ Some value = sym none ∙ ap before e ∙ f in cc)
      kept key value (inr d) f = ap (λ t. cond t (Some (slice_index second n)) (before key)) (ne_eqb (slice_index first n) key d) ∙ f

      found_from : (key value : ℕ) → (slice_index first n ≡ key) ⊎ (slice_index first n ≢ key) → cond (nat_eq (slice_index first n) key) (Some (slice_index second n)) (before key) ≡ Some value → HasPair (numbers ++ n ∷ []) first second key value
      found_from key value (inl e) f =
          let some : Some (slice_index second n) ≡ Some value = ap (λ t. cond t (Some (slice_index second n)) (before key)) (sym (eq-eqb (slice_index first n) key e)) ∙ f in
          let same : slice_index second n ≡ value = cc in
          subst (λ v. HasPair (numbers ++ n ∷ []) first second key v) same (subst (λ k. HasPair (numbers ++ n ∷ []) first second k (slice_index second n)) e (last_pair numbers n))
      found_from key value (inr d) f = more_pair numbers n key value (h.from key value (ap (λ t. cond t (Some (slice_index second n)) (before key)) (sym (ne_eqb (slice_index first n) key d)) ∙ f))

  pub followed_next : (numbers : List ℕ) (count : ℕ) (before after : ℕ → Option ℕ) → count < length numbers → IsFollowed (take count numbers) first second before → IsNoted (slice_index first (get_or numbers count 0)) (slice_index second (get_or numbers count 0)) before after → IsFollowed (take (count + 1) numbers) first second after
  followed_next numbers count before after w h noted = subst (λ ns. IsFollowed ns first second after) (sym (take_more numbers count 0 w)) (followed_more (take count numbers) (get_or numbers count 0) before after h noted)

  pub followed_done : (numbers : List ℕ) (count : ℕ) (found : ℕ → Option ℕ) → length numbers ≤ count → IsFollowed (take count numbers) first second found → Follows numbers first second
  followed_done numbers count found past h = record {
    same = λ m n one other e. (
        let whole = subst (λ ns. IsFollowed ns first second found) (take_all count numbers past) h in
        let both : Some (slice_index second m) ≡ Some (slice_index second n) = sym (whole.each m one) ∙ ap found e ∙ whole.each n other in
        let same : slice_index second m ≡ slice_index second n = cc in
        same);
  }

  taken : (numbers : List ℕ) (count n : ℕ) → Contains (take count numbers) n → Contains numbers n
  taken numbers zero n h = absurd (let w = h.1 in omega (arith, w))
  taken [] (suc count) n h = h
  taken (x ∷ numbers) (suc count) n (zero, w, e) = (zero, omega arith, e)
  taken (x ∷ numbers) (suc count) n (suc i, w, e) = (let rest = taken numbers count n (i, omega (arith, w), e) in (suc rest.0, (let l = rest.1 in omega (arith, l)), rest.2))

  pub not_followed : (numbers : List ℕ) (count : ℕ) (before : ℕ → Option ℕ) → count < length numbers → Contains numbers (get_or numbers count 0) → IsFollowed (take count numbers) first second before → HasOther (slice_index first (get_or numbers count 0)) (slice_index second (get_or numbers count 0)) before → Follows numbers first second → ⊥
  not_followed numbers count before w among h other follows =
      let pair = h.from (slice_index first (get_or numbers count 0)) other.other other.found in
      other.differs (sym pair.value_is ∙ follows.same pair.number (get_or numbers count 0) (taken numbers count pair.number pair.among) among pair.key_is)

-- ---- representatives of classes

-- representatives of the same classes follow one another
pub names_follow : (ns : List Node) (b : Branch) (terms first second : List ℕ) → AreBranchTerms ns b terms → (f g : TermData → ℕ) → IsClassing b f → IsClassing b g → AreNames ns b f first → AreNames ns b g second → Follows terms first second
names_follow ns b terms first second are f g f_classing g_classing f_names g_names = record {
  same = λ m n one other e. (
      let s = (are.each m).0 one in
      let t = (are.each n).0 other in
      let alike : f (term_at ns m) ≡ f (term_at ns n) = sym (f_names.named m s.number s.stands) ∙ e ∙ f_names.named n t.number t.stands in
      let joined = f_classing.apart (term_at ns m) (term_at ns n) s.stands t.stands alike in
      g_names.named m s.number s.stands ∙ g_classing.same (term_at ns m) (term_at ns n) s.stands t.stands joined ∙ sym (g_names.named n t.number t.stands));
}

-- the second representative of the first of these numbers that has the first one
name_for : List ℕ → List ℕ → List ℕ → ℕ → ℕ
name_for [] first second key = 0
name_for (n ∷ numbers) first second key = cond (nat_eq (slice_index first n) key) (slice_index second n) (name_for numbers first second key)

in_rest : (k : ℕ) (ks : List ℕ) (n : ℕ) → (k ≡ n → ⊥) → Contains (k ∷ ks) n → Contains ks n
in_rest k ks n other (zero, w, e) = absurd (other e)
in_rest k ks n other (suc i, w, e) = (i, omega (arith, w), e)

name_found : (numbers first second : List ℕ) → Follows numbers first second → (ks : List ℕ) → ((k : ℕ) → Contains ks k → Contains numbers k) → (n : ℕ) → Contains ks n → Contains numbers n → name_for ks first second (slice_index first n) ≡ slice_index second n
unfolding name_for
name_found numbers first second follows [] within n h g = absurd (let w = h.1 in omega (arith, w))
name_found numbers first second follows (k ∷ ks) within n h g =
    by_test (cases_eq (slice_index first k) (slice_index first n)) (λ o. name_found numbers first second follows ks (λ m p. within m (suc p.0, (let w = p.1 in omega (arith, w)), p.2)) n o g)
  where
    by_test : (slice_index first k ≡ slice_index first n) ⊎ (slice_index first k ≢ slice_index first n) → (Contains ks n → name_for ks first second (slice_index first n) ≡ slice_index second n) → cond (nat_eq (slice_index first k) (slice_index first n)) (slice_index second k) (name_for ks first second (slice_index first n)) ≡ slice_index second n
    by_test (inl e) rest =
        ap (λ t. cond t (slice_index second k) (name_for ks first second (slice_index first n))) (eq-eqb (slice_index first k) (slice_index first n) e)
        ∙ follows.same k n (within k (zero, omega arith, refl)) g e
    by_test (inr d) rest =
        ap (λ t. cond t (slice_index second k) (name_for ks first second (slice_index first n))) (ne_eqb (slice_index first k) (slice_index first n) d)
        ∙ rest (in_rest k ks n (λ e. d (ap (slice_index first) e)) h)

module _ (ns : List Node) (one : IsOneNumber ns) (d : BranchData) (over : IsOver ns d) (terms : List ℕ) (are : AreBranchTerms ns (branch_in ns d) terms) (right : List ℕ) (naming : IsNaming ns (branch_in ns d) right) (names : List ℕ) where
  abbrev b : Branch
  b = branch_in ns d

  pub right_followed : AreClassNames ns b names → Follows terms right names
  right_followed h = names_follow ns b terms right names are naming.class h.class naming.classing h.classing naming.named h.named

  pub right_follows : AreClassNames ns b names → Follows terms names right
  right_follows h = names_follow ns b terms names right are h.class naming.class h.classing naming.classing h.named naming.named

  module _ (there : Follows terms right names) (back : Follows terms names right) where
    abbrev class : TermData → ℕ
    class t = name_for terms right names (naming.class t)

    class_is : (n : ℕ) → IsBranchTerm ns b n → class (term_at ns n) ≡ slice_index names n
    class_is n h =
        let among = (are.each n).1 h in
        ap (name_for terms right names) (sym (naming.named.named n h.number h.stands)) ∙ name_found terms right names there terms (λ k o. o) n among among

    pub both_follow : AreClassNames ns b names
    both_follow = record {
      class = class;
      classing = record { same = λ t u h g joined. ap (name_for terms right names) (naming.classing.same t u h g joined); apart = apart };
      named = record { named = λ n number stands. sym (class_is n (record { number = number; stands = stands })) };
    }
      where
        apart : (t u : TermData) → IsTerm b t → IsTerm b u → class t ≡ class u → Joined b t u
        apart t u h g e =
            let i = term_number ns one d over t h in
            let j = term_number ns one d over u g in
            let t_is : term_at ns i.number ≡ t = ap term_in i.is in
            let u_is : term_at ns j.number ≡ u = ap term_in j.is in
            let named : slice_index names i.number ≡ slice_index names j.number = sym (class_is i.number i.term) ∙ ap class t_is ∙ e ∙ ap class (sym u_is) ∙ class_is j.number j.term in
            let alike : slice_index right i.number ≡ slice_index right j.number = back.same i.number j.number ((are.each i.number).1 i.term) ((are.each j.number).1 j.term) named in
            naming.classing.apart t u h g
            (ap naming.class (sym t_is) ∙ sym (naming.named.named i.number i.term.number i.term.stands) ∙ alike ∙ naming.named.named j.number j.term.number j.term.stands ∙ ap naming.class u_is)

  pub known_by_back : Follows terms right names → (known : Bool) → IsTrue known ↔ Follows terms names right → IsTrue known ↔ AreClassNames ns b names
  known_by_back there known h = (λ t. both_follow there (h.0 t), λ named. h.1 (right_follows named))

  pub not_followed_right : (known : Bool) → known ≡ false → IsTrue known ↔ Follows terms right names → IsTrue false ↔ AreClassNames ns b names
  not_followed_right known e h = (λ t. absurd (cc), λ named. sym e ∙ h.1 (right_followed named))
