-- Kept sums.
use Rattle.std.proofs.Common.{◌≡◌, ◌≢◌, ◌⊎◌, inl, inr, ℕ, pos, ◌*ℤ◌, cond, nat_eq, List, [], Some, None, sym, ap, ◌∙◌, subst}
use Rattle.std.proofs.lemmas.Bool.{cases_eq, eq-eqb, ne_eqb}
use Rattle.std.specs.Map.{lookup}
use Rattle.base.proofs.WholeNumbers.{one_mul}
use Rattle.fol.specs.FormulaData.{TermData}
use Rattle.certificates.proofs.Sums.{kept_exact}
use Rattle.certificates.specs.Rows.{over}
use Rattle.indexmap.specs.IndexMap.{get}
use Rattle.term_pool.specs.declared.node.Node.{Node}
use Rattle.row_reasoning.specs.Sums.{amount, IsSumOf, IsMultiple}
use Rattle.row_reasoning.specs.Shapes.{term_at}
use Rattle.row_reasoning.specs.Memos.{IsRight}
use Rattle.row_reasoning.specs.declared.sum.LinearSum.{LinearSum}
use Rattle.row_reasoning.specs.declared.memo.Memo.{Memo}
use Rattle.row_reasoning.proofs.WalkLemmas.{same_classes}

-- a copy of the sum
pub copied : (t : TermData) (s r : LinearSum) → IsSumOf t s → IsMultiple (pos 1) s r → IsSumOf t r
copied t s r sum h = record {
  weights = λ part. sum.weights part ∙ ap Some (sym (one_mul (amount s part)) ∙ kept_exact (pos 1 *ℤ amount s part) (amount r part) (h.numbers part));
  unknowns = same_classes t s r h.classes sum.unknowns;
  spoken = λ n g ks each. sum.spoken n (h.from.has n g) ks each;
}

pub right_begun : (ns : List Node) (class : TermData → ℕ) (m : Memo) → m.sums.entries ≡ [] → IsRight ns class m
right_begun ns class m e = record { sums = λ n s h. (let none : get nat_eq m.sums n ≡ None = ap (lookup (nat_eq n)) e in let both : None ≡ Some s = sym none ∙ h in absurd (cc)) }

pub right_same : (ns : List Node) (class : TermData → ℕ) (m k : Memo) → k.sums ≡ m.sums → IsRight ns class m → IsRight ns class k
right_same ns class m k e h = record { sums = λ n s f. h.sums n s (ap (λ x. get nat_eq x n) (sym e) ∙ f) }

pub right_more : (ns : List Node) (class : TermData → ℕ) (m k : Memo) (number : ℕ) (sum : LinearSum) → ((q : ℕ) → get nat_eq k.sums q ≡ cond (nat_eq number q) (Some sum) (get nat_eq m.sums q)) → IsSumOf (over class (term_at ns number)) sum → IsRight ns class m → IsRight ns class k
right_more ns class m k number sum put is h = record { sums = λ n s f. at n s (sym (put n) ∙ f) (cases_eq number n) }
  where
    at : (n : ℕ) (s : LinearSum) → cond (nat_eq number n) (Some sum) (get nat_eq m.sums n) ≡ Some s → (number ≡ n) ⊎ (number ≢ n) → IsSumOf (over class (term_at ns n)) s
    at n s f (inl e) =
        let here : Some sum ≡ Some s = ap (λ b. cond b (Some sum) (get nat_eq m.sums n)) (sym (eq-eqb number n e)) ∙ f in
        let same : sum ≡ s = cc in
        subst (λ x. IsSumOf (over class (term_at ns n)) x) same (subst (λ j. IsSumOf (over class (term_at ns j)) sum) e is)
    at n s f (inr d) = h.sums n s (ap (λ b. cond b (Some sum) (get nat_eq m.sums n)) (sym (ne_eqb number n d)) ∙ f)
