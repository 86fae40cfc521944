-- The representative of a term is that of the class of its number.
use Rattle.std.proofs.Common.{◌≡◌, inl, inr, ℕ, zero, suc, ◌+◌, ◌<◌, ◌≤◌, Bool, true, false, cond, List, [], ◌∷◌, length, get_or, set, take, replicate, refl, sym, ap, ◌∙◌, subst, arith}
use Rattle.std.specs.Prelude.{slice_index, Contains}
use Rattle.std.proofs.lemmas.Bool.{cases_eq}
use Rattle.std.proofs.lemmas.List.{get_or-set_other, length-set, length-replicate, take_more, take_all}
use Rattle.std.proofs.lemmas.List.Elements.{Contains-push_cases}
use Rattle.std.proofs.lemmas.Grind.{get_or-set_at}
use Rattle.fol.specs.FormulaData.{TermData}
use Rattle.term_pool.specs.Items.{TermItem, term_in}
use Rattle.term_pool.specs.Pools.{item_at, IsOneNumber}
use Rattle.term_pool.specs.declared.node.Node.{Node}
use Rattle.term_pool.proofs.ShapeLemmas.{a_term}
use Rattle.certificates.specs.BranchesBranch.{Branch, IsTerm}
use Rattle.certificates.specs.Joined.{Joined}
use Rattle.certificates.specs.Rows.{IsClassing}
use Rattle.certificates.specs.Linear.{same_term}
use Rattle.certificates.proofs.Sums.{same_term-equal, same_term_itself}
use Rattle.tableau.specs.PoolBranches.{BranchData, branch_in, IsOver}
use Rattle.congruence_closure.specs.Known.{BranchClassesData, class_of, AreExact}
use Rattle.tableau.specs.Terms.{term_at, IsBranchTerm, AreBranchTerms, AreClassesOf}
use Rattle.tableau.proofs.BranchLemmas.{term_number}
use Rattle.tableau.proofs.NearLemmas.{joined_of_class, class_of_joined}
use Rattle.row_reasoning.specs.Names.{IsNaming}

-- the class of the first of these numbers that is a number of the term
class_in : List Node → BranchClassesData → List ℕ → TermData → ℕ
class_in ns c [] t = 0
class_in ns c (k ∷ ks) t = cond (same_term (term_at ns k) t) (class_of c k) (class_in ns c ks t)

in_rest : (k : ℕ) (ks : List ℕ) (n : ℕ) → (k ≡ n → ⊥) → Contains (k ∷ ks) n → Contains ks n
in_rest k ks n other (zero, w, e) = absurd (other e)
in_rest k ks n other (suc i, w, e) = (i, omega (arith, w), e)

-- the representatives of the first terms are stored
pub record AreFirstNames (ns : List Node) (c : BranchClassesData) (terms : List ℕ) (count : ℕ) (names : List ℕ) : Type 0 where
  pub long : length names ≡ length ns
  pub each : (n : ℕ) → Contains (take count terms) n → slice_index names n ≡ class_of c n

pub names_begun : (ns : List Node) (c : BranchClassesData) (terms names : List ℕ) → names ≡ replicate (length ns) 0 → AreFirstNames ns c terms 0 names
names_begun ns c terms names e = record { long = ap length e ∙ length-replicate {A = ℕ} (length ns) 0; each = λ n h. absurd (let w = h.1 in omega (arith, w)) }

pub names_more : (ns : List Node) (c : BranchClassesData) (terms : List ℕ) (count : ℕ) (names : List ℕ) → count < length terms → get_or terms count 0 < length ns → AreFirstNames ns c terms count names → AreFirstNames ns c terms (count + 1) (set names (get_or terms count 0) (class_of c (get_or terms count 0)))
names_more ns c terms count names w within h = named_at ns c terms count names (get_or terms count 0) w within h refl
  where
    named_at : (ms : List Node) (e : BranchClassesData) (ks : List ℕ) (m : ℕ) (xs : List ℕ) (k : ℕ) → m < length ks → k < length ms → AreFirstNames ms e ks m xs → k ≡ get_or ks m 0 → AreFirstNames ms e ks (m + 1) (set xs k (class_of e k))
    named_at ms e ks m xs k v inside first is = record {
      long = length-set xs k (class_of e k) ∙ first.long;
      each = λ n o. elim (cases_eq n k) [
        | inl q ↦ (let l = first.long in ap (slice_index (set xs k (class_of e k))) q ∙ get_or-set_at xs k k (class_of e k) _ refl (omega (arith, l, inside)) ∙ ap (class_of e) (sym q))
        | inr q ↦ elim (Contains-push_cases (take m ks) (get_or ks m 0) n (subst (λ ys. Contains ys n) (take_more ks m 0 v) o)) [
          | inl r ↦ get_or-set_other xs k n (class_of e k) _ q ∙ first.each n r
          | inr r ↦ absurd (q (sym r ∙ sym is))
        ]
      ];
    }

module _ (ns : List Node) (one : IsOneNumber ns) (d : BranchData) (over : IsOver ns d) (c : BranchClassesData) (classes : AreClassesOf ns d c) (exact : AreExact c) where
  abbrev b : Branch
  b = branch_in ns d

  same_number : (k n : ℕ) → IsBranchTerm ns b k → IsBranchTerm ns b n → term_at ns k ≡ term_at ns n → k ≡ n
  same_number k n h g e = one.one k n h.number.within g.number.within (sym (a_term (item_at ns k) h.number.sort) ∙ ap TermItem e ∙ a_term (item_at ns n) g.number.sort)

  found_class : (ks : List ℕ) → ((k : ℕ) → Contains ks k → IsBranchTerm ns b k) → (n : ℕ) → Contains ks n → IsBranchTerm ns b n → class_in ns c ks (term_at ns n) ≡ class_of c n
  unfolding class_in
  found_class [] each n h g = absurd (let w = h.1 in omega (arith, w))
  found_class (k ∷ ks) each n h g =
      by_test (same_term (term_at ns k) (term_at ns n)) refl (λ o. found_class ks (λ m p. each m (suc p.0, (let w = p.1 in omega (arith, w)), p.2)) n o g)
    where
      first : IsBranchTerm ns b k
      first = each k (zero, omega arith, refl)

      by_test : (t : Bool) → same_term (term_at ns k) (term_at ns n) ≡ t → (Contains ks n → class_in ns c ks (term_at ns n) ≡ class_of c n) → cond t (class_of c k) (class_in ns c ks (term_at ns n)) ≡ class_of c n
      by_test true e rest = ap (class_of c) (same_number k n first g (same_term-equal (term_at ns k) (term_at ns n) e))
      by_test false e rest = rest (in_rest k ks n (λ q. (let never : true ≡ false = sym (ap (λ m. same_term (term_at ns m) (term_at ns n)) q ∙ same_term_itself (term_at ns n)) ∙ e in cc)) h)

  module _ (terms : List ℕ) (are : AreBranchTerms ns b terms) where
    abbrev class : TermData → ℕ
    class t = class_in ns c terms t

    class_is : (n : ℕ) → IsBranchTerm ns b n → class (term_at ns n) ≡ class_of c n
    class_is n h = found_class terms (λ k o. (are.each k).0 o) n ((are.each n).1 h) h

    term_is : (t : TermData) (h : IsTerm b t) → term_at ns (term_number ns one d over t h).number ≡ t
    term_is t h = ap term_in (term_number ns one d over t h).is

    class_of_term : (t : TermData) (h : IsTerm b t) → class t ≡ class_of c (term_number ns one d over t h).number
    class_of_term t h = ap class (sym (term_is t h)) ∙ class_is (term_number ns one d over t h).number (term_number ns one d over t h).term

    classing : IsClassing b class
    classing = record { same = same; apart = apart }
      where
        same : (t u : TermData) → IsTerm b t → IsTerm b u → Joined b t u → class t ≡ class u
        same t u h g joined =
            let i = term_number ns one d over t h in
            let j = term_number ns one d over u g in
            let both : Joined b (term_at ns i.number) (term_at ns j.number) = subst (λ x. Joined b x (term_at ns j.number)) (sym (term_is t h)) (subst (Joined b t) (sym (term_is u g)) joined) in
            class_of_term t h ∙ class_of_joined ns one d over c classes exact i.number j.number i.term j.term both ∙ sym (class_of_term u g)

        apart : (t u : TermData) → IsTerm b t → IsTerm b u → class t ≡ class u → Joined b t u
        apart t u h g e =
            let i = term_number ns one d over t h in
            let j = term_number ns one d over u g in
            let both : class_of c i.number ≡ class_of c j.number = sym (class_of_term t h) ∙ e ∙ class_of_term u g in
            let joined = joined_of_class ns one d over c classes exact i.number j.number i.term j.term both in
            subst (λ x. Joined b x u) (term_is t h) (subst (Joined b (term_at ns i.number)) (term_is u g) joined)

    pub named_done : (count : ℕ) (names : List ℕ) → length terms ≤ count → AreFirstNames ns c terms count names → IsNaming ns b names
    named_done count names w h = record {
      long = (let l = h.long in omega (arith, l));
      class = class;
      classing = classing;
      named = record {
        named = λ n number stands. (
            let term : IsBranchTerm ns b n = record { number = number; stands = stands } in
            h.each n (subst (λ ks. Contains ks n) (sym (take_all count terms w)) ((are.each n).1 term)) ∙ sym (class_is n term));
      };
    }
