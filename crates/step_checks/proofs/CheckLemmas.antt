-- Results of checks of rows and of walks over them.
use Rattle.std.proofs.Common.{◌≡◌, Bool, true, false, not, ℕ, ◌+◌, ◌<◌, ◌≤◌, List, length, take, get_or, Some, pos, ℤ, refl, sym, ap, ◌∙◌, subst}
use Rattle.std.specs.Prelude.{All, Contains, slice_get}
use Rattle.std.specs.Bool.{Decides}
use Rattle.std.proofs.lemmas.Bool.{false≢true}
use Rattle.std.proofs.lemmas.List.{take_all}
use Rattle.std.proofs.lemmas.List.Elements.{All-more, All-contains, All-from_get_or}
use Rattle.linear_arith.specs.Inequality.{Inequality, coefficient, padded}
use Rattle.linear_arith.specs.Closure.{IsWithout}
use Rattle.linear_arith.specs.Elimination.{AreDifferent}
use Rattle.step_checks.specs.Sums.{IsReducedSum}
use Rattle.step_checks.specs.Given.{rows_of, width_of, IsGivenRow, IsOfStage, IsSumOfTwo, AreOfOrigins, HasEachSum, HasNoneLeft, NoUnknownIsLeft, IsGivenElimination}
use Rattle.step_checks.specs.declared.elimination.Summands.{Summands}
use Rattle.step_checks.specs.declared.elimination.GivenElimination.{GivenElimination}
use Rattle.step_checks.specs.declared.elimination.GivenRow.{GivenRow}
use Rattle.step_checks.proofs.SumLemmas.{one_sum}

pub some_same : {A : Type 0} {x y : A} → Some x ≡ Some y → x ≡ y
some_same e = cc

-- a check that failed refutes what would have passed it
pub refused : (b : Bool) (P : Type 0) → b ≡ false → Decides b P → P → ⊥
refused b P e d p = false≢true (sym e ∙ d.1 p)

pub decided_false : (P : Type 0) → (P → ⊥) → Decides false P
decided_false P n = (λ t. absurd (false≢true t), λ p. absurd (n p))

pub decided_true : (P : Type 0) → P → Decides true P
decided_true P p = (λ t. p, λ q. refl)

-- rows with the same numbers are equal
pub same_numbers : (first second : Inequality) (xs ys : List ℤ) (a b : ℤ) (r : Bool) → xs ≡ first.coefficients → ys ≡ second.coefficients → a ≡ first.bound → b ≡ second.bound → a ≡ b → Decides r (xs ≡ ys) → Decides r (first ≡ second)
same_numbers first second xs ys a b r e f g h same d = (
  λ t. let cs = sym e ∙ d.0 t ∙ f in let bs = sym g ∙ same ∙ h in λ i. record { coefficients = cs i; bound = bs i },
  λ s. d.1 (e ∙ ap (λ (r : Inequality). r.coefficients) s ∙ sym f),
)

-- if no unknown is in a row, its coefficients are 0
all_zero : (row : Inequality) → ((u : ℕ) → coefficient u row ≡ pos 0) → All (λ c. c ≡ pos 0) row.coefficients
all_zero row h = All-from_get_or (λ (c : ℤ). c ≡ pos 0) row.coefficients (pos 0) (λ u l. h u)

pub settled : (unknowns : List ℕ) (row : Inequality) (b : Bool) → Decides b (IsWithout unknowns row) → (All (λ c. c ≡ pos 0) row.coefficients → ⊥) → Decides (not b) (HasNoneLeft unknowns row)
settled unknowns row true d n = (λ t. absurd (false≢true t), λ h. absurd (n (all_zero row (h (d.0 refl)))))
settled unknowns row false d n = (λ t w. absurd (false≢true (d.1 w)), λ h. refl)

-- a row of the system
pub given_row : (width : ℕ) (rows : List Inequality) (i : ℕ) (row one made : Inequality) (b : Bool) → slice_get rows i ≡ Some one → made ≡ padded width one → Decides b (row ≡ made) → Decides b (IsGivenRow width rows i row)
given_row width rows i row one made b at e d = (
  λ t. record { given = one; at = at; same = d.0 t ∙ e },
  λ g. d.1 (g.same ∙ ap (padded width) (some_same (sym g.at ∙ at)) ∙ sym e),
)

-- what holds of all rows before one, and of that one
pub all_more : (P : Inequality → Type 0) (rows : List Inequality) (i : ℕ) (row : Inequality) → i < length rows → row ≡ get_or rows i row → P row → All P (take i rows) → All P (take (i + 1) rows)
all_more P rows i row l is here before = All-more P rows i row l before (subst P is here)

pub all_end : (P : Inequality → Type 0) (rows : List Inequality) (i : ℕ) → length rows ≤ i → All P (take i rows) → All P rows
all_end P rows i l h = subst (λ (rs : List Inequality). All P rs) (take_all i rows l) h

pub at_row : (P : Inequality → Type 0) (rows : List Inequality) (i : ℕ) (row : Inequality) → i < length rows → row ≡ get_or rows i row → All P rows → P row
at_row P rows i row l is h = subst P (sym is) (h i row l)

-- the rows of a sum are those at the indexes
pub same_sum : (unknowns : List ℕ) (before : List GivenRow) (of : Summands) (row : Inequality) (unknown : ℕ) (upper lower : GivenRow) → slice_get unknowns of.step ≡ Some unknown → slice_get before of.upper ≡ Some upper → slice_get before of.lower ≡ Some lower → IsSumOfTwo unknowns before of row → IsReducedSum unknown upper.row lower.row row
same_sum unknowns before of row unknown upper lower e f g h =
    subst (λ (u : ℕ). IsReducedSum u upper.row lower.row row) (some_same (sym h.unknown_at ∙ e)) (subst (λ (r : GivenRow). IsReducedSum h.unknown r.row lower.row row) (some_same (sym h.upper_at ∙ f)) (subst (λ (r : GivenRow). IsReducedSum h.unknown h.upper.row r.row row) (some_same (sym h.lower_at ∙ g)) h.is_sum))

-- the sum of two rows, by their indexes
pub sum_of_positions : (unknowns : List ℕ) (before : List GivenRow) (of : Summands) (row : Inequality) (unknown : ℕ) (upper lower : GivenRow) (sum : Inequality) (b : Bool) → slice_get unknowns of.step ≡ Some unknown → slice_get before of.upper ≡ Some upper → slice_get before of.lower ≡ Some lower → IsOfStage unknowns of.step upper → IsOfStage unknowns of.step lower → IsReducedSum unknown upper.row lower.row sum → Decides b (row ≡ sum) → Decides b (IsSumOfTwo unknowns before of row)
sum_of_positions unknowns before of row unknown upper lower sum b e f g us ls s d = (
  λ t. record { unknown = unknown; upper = upper; lower = lower; unknown_at = e; upper_at = f; lower_at = g; upper_of_stage = us; lower_of_stage = ls; is_sum = subst (λ (r : Inequality). IsReducedSum unknown upper.row lower.row r) (sym (d.0 t)) s },
  λ h. d.1 (one_sum unknown upper.row lower.row row sum (same_sum unknowns before of row unknown upper lower e f g h) s),
)

-- if no unknown is left in any row
pub none_left : (rows : List Inequality) (unknowns : List ℕ) → All (HasNoneLeft unknowns) rows → NoUnknownIsLeft rows unknowns
none_left rows unknowns h row c = All-contains (HasNoneLeft unknowns) rows row h c

-- the given rows are among the rows, by other names of the lists
pub begins_decided : (rows slice found made : List Inequality) (w v : ℕ) (b : Bool) → slice ≡ rows → made ≡ found → w ≡ v → Decides b (All (λ (row : Inequality). Contains made (padded w row)) slice) → Decides b (All (λ (row : Inequality). Contains found (padded v row)) rows)
begins_decided rows slice found made w v b e f g d =
    subst (λ (n : ℕ). Decides b (All (λ (row : Inequality). Contains found (padded n row)) rows)) g (subst (λ (rs : List Inequality). Decides b (All (λ (row : Inequality). Contains rs (padded w row)) rows)) f (subst (λ (rs : List Inequality). Decides b (All (λ (row : Inequality). Contains made (padded w row)) rs)) e d))

pub sums_decided : (found made : List Inequality) (unknowns us : List ℕ) (b : Bool) → made ≡ found → us ≡ unknowns → Decides b (HasEachSum made us) → Decides b (HasEachSum found unknowns)
sums_decided found made unknowns us b e f d = subst (λ (ns : List ℕ). Decides b (HasEachSum found ns)) f (subst (λ (rs : List Inequality). Decides b (HasEachSum rs us)) e d)

-- what remains to show of an elimination at the end
pub complete : (rows : List Inequality) (provided : GivenElimination) (slice made : List Inequality) (us : List ℕ) (listed : List GivenRow) (w : ℕ) (b : Bool) → slice ≡ rows → us ≡ provided.unknowns.items → listed ≡ provided.rows.items → made ≡ rows_of provided.rows.items → w ≡ width_of rows → AreOfOrigins w slice us listed → AreDifferent made → All (λ (row : Inequality). Contains (rows_of provided.rows.items) (padded (width_of rows) row)) rows → HasEachSum (rows_of provided.rows.items) provided.unknowns.items → length provided.rows.items < 5000 → Decides b (NoUnknownIsLeft made us) → Decides b (IsGivenElimination rows provided)
complete rows provided slice made us listed w b e f g h i origins different begins sums limit d =
    let unknowns = provided.unknowns.items in
    let items = provided.rows.items in
    let left : Decides b (NoUnknownIsLeft (rows_of items) unknowns) = subst (λ (ns : List ℕ). Decides b (NoUnknownIsLeft (rows_of items) ns)) f (subst (λ (rs : List Inequality). Decides b (NoUnknownIsLeft rs us)) h d) in (
      λ t. record {
        of_origins = subst (λ (n : ℕ). AreOfOrigins n rows unknowns items) i (subst (λ (rs : List Inequality). AreOfOrigins w rs unknowns items) e (subst (λ (ns : List ℕ). AreOfOrigins w slice ns items) f (subst (λ (rs : List GivenRow). AreOfOrigins w slice us rs) g origins)));
        different = subst (λ (rs : List Inequality). AreDifferent rs) h different;
        begins = begins;
        has_sums = sums;
        below_limit = limit;
        no_unknown_left = left.0 t;
      },
      λ s. left.1 s.no_unknown_left,
    )
