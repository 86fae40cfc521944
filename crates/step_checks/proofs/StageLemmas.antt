-- The rows of a stage, and the sums of two of them.
use Rattle.std.proofs.Common.{Bool, ℕ, List, [], ◌∷◌, ◌++◌, get_or, pos, ◌<ℤ◌, sym, subst, inl, inr}
use Rattle.std.specs.Prelude.{All, Contains}
use Rattle.std.specs.Bool.{Decides}
use Rattle.std.proofs.lemmas.List.Elements.{All-contains, Contains-get_or, Contains-push, Contains-push_cases, Contains-append_left}
use Rattle.linear_arith.specs.Inequality.{Inequality, coefficient}
use Rattle.linear_arith.specs.Closure.{IsWithout}
use Rattle.step_checks.specs.Sums.{IsReducedSum, HasReducedSum}
use Rattle.step_checks.specs.Given.{HasStageSums}
use Rattle.step_checks.specs.Stages.{IsLower, AreLowers, HasUpperSums}
use Rattle.step_checks.proofs.SumLemmas.{one_sum}

-- the sum of two rows is among the rows exactly if this one is
pub sum_found : (rows : List Inequality) (unknown : ℕ) (upper lower sum : Inequality) (b : Bool) → IsReducedSum unknown upper lower sum → Decides b (Contains rows sum) → Decides b (HasReducedSum rows unknown upper lower)
sum_found rows unknown upper lower sum b s d = (
  λ t. record { row = sum; is_found = d.0 t; is_sum = s },
  λ h. d.1 (subst (λ (r : Inequality). Contains rows r) (one_sum unknown upper lower h.row sum h.is_sum s) h.is_found),
)

lower_later : (rows : List Inequality) (eliminated : List ℕ) (unknown : ℕ) (more row : Inequality) → IsLower rows eliminated unknown row → IsLower (rows ++ more ∷ []) eliminated unknown row
lower_later rows eliminated unknown more row h = record { is_found = Contains-append_left rows (more ∷ []) row h.is_found; without = h.without; below = h.below }

-- the lower rows with one more row, which is a lower one
pub lowers_with : (rows lowers : List Inequality) (eliminated : List ℕ) (unknown : ℕ) (row : Inequality) → coefficient unknown row <ℤ pos 0 → IsWithout eliminated row → AreLowers rows eliminated unknown lowers → AreLowers (rows ++ row ∷ []) eliminated unknown (lowers ++ row ∷ [])
lowers_with rows lowers eliminated unknown row below without a = record {
  each = λ other h. elim (Contains-push_cases lowers row other h) [
    | inl o ↦ lower_later rows eliminated unknown row other (a.each other o)
    | inr e ↦ subst (λ (r : Inequality). IsLower (rows ++ row ∷ []) eliminated unknown r) e (record { is_found = Contains-push rows row; without = without; below = below })
  ];
  all = λ other h. elim (Contains-push_cases rows row other h.is_found) [
    | inl o ↦ Contains-append_left lowers (row ∷ []) other (a.all other (record { is_found = o; without = h.without; below = h.below }))
    | inr e ↦ subst (λ (r : Inequality). Contains (lowers ++ row ∷ []) r) e (Contains-push lowers row)
  ];
}

-- the lower rows with one more row, which is not a lower one
pub lowers_same : (rows lowers : List Inequality) (eliminated : List ℕ) (unknown : ℕ) (row : Inequality) → (coefficient unknown row <ℤ pos 0 → IsWithout eliminated row → ⊥) → AreLowers rows eliminated unknown lowers → AreLowers (rows ++ row ∷ []) eliminated unknown lowers
lowers_same rows lowers eliminated unknown row n a = record {
  each = λ other h. lower_later rows eliminated unknown row other (a.each other h);
  all = λ other h. elim (Contains-push_cases rows row other h.is_found) [
    | inl o ↦ a.all other (record { is_found = o; without = h.without; below = h.below })
    | inr e ↦ absurd (n (subst (λ (r : Inequality). coefficient unknown r <ℤ pos 0) (sym e) h.below) (subst (λ (r : Inequality). IsWithout eliminated r) (sym e) h.without))
  ];
}

-- a stage has all its sums if each upper row has those with the lower ones
pub stage_sums : (rows : List Inequality) (eliminated : List ℕ) (unknown : ℕ) (lowers : List Inequality) → AreLowers rows eliminated unknown lowers → All (HasUpperSums rows eliminated unknown lowers) rows → HasStageSums rows eliminated unknown
stage_sums rows eliminated unknown lowers a h = record {
  sums = λ upper lower uf lf uw lw above below.
      let of_upper = All-contains (HasUpperSums rows eliminated unknown lowers) rows upper h uf in
      All-contains (HasReducedSum rows unknown upper) lowers lower (of_upper uw above) (a.all lower (record { is_found = lf; without = lw; below = below }));
}

pub upper_sums : (rows : List Inequality) (eliminated : List ℕ) (unknown : ℕ) (lowers : List Inequality) (upper : Inequality) → AreLowers rows eliminated unknown lowers → Contains rows upper → HasStageSums rows eliminated unknown → HasUpperSums rows eliminated unknown lowers upper
upper_sums rows eliminated unknown lowers upper a uf h = λ uw above k d l.
    let lower = get_or lowers k d in
    let low = a.each lower (Contains-get_or lowers k d l) in
    h.sums upper lower uf low.is_found uw low.without above low.below
