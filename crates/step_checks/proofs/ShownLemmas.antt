-- Given eliminations that pass the check are complete: each of their rows is a row of its stage, with some multipliers.
use Rattle.std.proofs.Common.{◌≡◌, ℕ, zero, suc, ◌+◌, ◌-◌, ◌<◌, ◌≤◌, max, List, [], ◌∷◌, ◌++◌, length, map, take, drop, get_or, set, replicate, Some, pos, ℤ, ◌+ℤ◌, ◌*ℤ◌, ◌<ℤ◌, refl, sym, ap, ◌∙◌, subst, arith, inl, inr}
use Rattle.std.specs.Prelude.{All, slice_get}
use Rattle.std.specs.List.{range_with_len}
use Rattle.std.proofs.Math.IntN.{*ℤ-zero}
use Rattle.std.proofs.lemmas.List.{take-append-drop, take_more, take_all, get_or-take, length-take, length-set, length-replicate, get_or-replicate, get_or-set_same, get_or-set_other, length-map}
use Rattle.std.proofs.lemmas.List.FromFn.{get_or-map-range_with_len, length-map-range_with_len}
use Rattle.std.proofs.lemmas.List.Elements.{All-cons, All-nil, All-contains}
use Rattle.std.proofs.lemmas.Option.{get_or_from_slice_get, slice_get_within}
use Rattle.linear_arith.specs.Inequality.{Inequality, coefficient, IsWithinWidth}
use Rattle.linear_arith.specs.Combination.{number, combination}
use Rattle.linear_arith.specs.Elimination.{IsUnit, Cancels, IsMix, IsLeastMix, as_row, IsCancellingSum, IsRowOfStage, IsFound}
use Rattle.linear_arith.specs.Elimination.IsRowOfStage.{given, kept, sum}
use Rattle.linear_arith.specs.Closure.{IsWithout, IsSumOf, HasSums, IsClosed}
use Rattle.linear_arith.specs.Closure.IsClosed.{none, next}
use Rattle.linear_arith.specs.Reduction.{IsReduced}
use Rattle.linear_arith.proofs.ListLemmas.{get_or-past, below_or_past}
use Rattle.linear_arith.proofs.ClosureLemmas.{IsMultiple, multiple_of_itself, multiple_of_reduced, combinations_summed, sum_of_multiples, size_positive}
use Rattle.linear_arith.proofs.LeastLemmas.{reduced_list}
use Rattle.base.proofs.WholeNumbers.{mul_positive, mul_negative}
use Rattle.linear_arith.proofs.GivenLemmas.{padded_is}
use Rattle.linear_arith.proofs.StageLemmas.{width_of_combination, length_of_reduced}
use Rattle.step_checks.specs.Sums.{IsReducedSum}
use Rattle.step_checks.specs.Given.{rows_of, width_of, stage_of, IsOfStage, IsGivenRow, IsOfOrigin, AreOfOrigins, HasStageSums, HasEachSum, IsGivenElimination}
use Rattle.step_checks.specs.GivenValues.{AreGivenValues}
use Rattle.step_checks.specs.Shown.{ShowsElimination}
use Rattle.linear_arith.specs.declared.rows.Fraction.{Fraction}
use Rattle.linear_arith.specs.Values.{AreAllChosen}
use Rattle.step_checks.specs.declared.elimination.Origin.{Origin}
use Rattle.step_checks.specs.declared.elimination.Origin.TheVariants.{Given, Sum}
use Rattle.step_checks.specs.declared.elimination.GivenRow.{GivenRow}
use Rattle.step_checks.specs.declared.elimination.GivenElimination.{GivenElimination}
use Rattle.step_checks.proofs.ReducedLemmas.{HasReduced, has_reduced, reduced_in_ratio}
use Rattle.step_checks.proofs.SumLemmas.{have_weights, is_sum_of, sums_in_ratio}

-- a row of the stage after the first unknowns, with some multipliers
pub record IsShown (width : ℕ) (rows : List Inequality) (unknowns : List ℕ) (stage : ℕ) (row : Inequality) : Type 0 where
  pub multipliers : List ℤ
  pub of_stage : IsRowOfStage width rows (take stage unknowns) row multipliers
  pub one_each : length multipliers ≡ length rows
  pub multiple : IsMultiple row (combination width multipliers rows)
  pub same_width : length row.coefficients ≡ width

-- the unit multipliers of a given row
unit : ℕ → ℕ → List ℤ
unit count i = set (replicate count (pos 0)) i (pos 1)

no_number : (count k : ℕ) → number k (replicate count (pos 0)) ≡ pos 0
no_number count k = elim (below_or_past k count) [
  | inl l ↦ get_or-replicate count k (pos 0) (pos 0) l
  | inr l ↦ get_or-past (replicate count (pos 0)) k (pos 0) (subst (λ (n : ℕ). n ≤ k) (sym (length-replicate count (pos 0))) l)
]

is_unit : (count i : ℕ) → i < count → IsUnit count i (unit count i)
unfolding unit
is_unit count i l = record {
  one_each = length-set (replicate count (pos 0)) i (pos 1) ∙ length-replicate count (pos 0);
  is_one = l;
  itself = get_or-set_same (replicate count (pos 0)) i (pos 1) (pos 0) (subst (λ (n : ℕ). i < n) (sym (length-replicate count (pos 0))) l);
  others = λ k n. get_or-set_other (replicate count (pos 0)) i k (pos 1) (pos 0) n ∙ no_number count k;
}

shown_given : (width : ℕ) (rows : List Inequality) (unknowns : List ℕ) (i : ℕ) (row : Inequality) → IsGivenRow width rows i row → IsShown width rows unknowns 0 row
shown_given width rows unknowns i row g =
    let ms = unit (length rows) i in
    let l : i < length rows = slice_get_within rows i g.given g.at in
    let u = is_unit (length rows) i l in
    let at : g.given ≡ get_or rows i g.given = sym (get_or_from_slice_get rows i g.given g.given g.at) in
    let e : row ≡ combination width ms rows = g.same ∙ padded_is width ms rows i g.given u at in
    record {
      multipliers = ms;
      of_stage = given i row ms u e;
      one_each = u.one_each;
      multiple = subst (λ (r : Inequality). IsMultiple row r) e (multiple_of_itself row);
      same_width = ap (λ (r : Inequality). length r.coefficients) e ∙ width_of_combination width ms rows;
    }

multiple_zero : (row total : Inequality) (u : ℕ) → IsMultiple row total → coefficient u row ≡ pos 0 → coefficient u total ≡ pos 0
multiple_zero row total u m z = sym (m.is_scaled.coefficients u) ∙ ap (λ (w : ℤ). pos m.scale *ℤ w) z ∙ *ℤ-zero (pos m.scale)

multiple_above : (row total : Inequality) (u : ℕ) → IsMultiple row total → pos 0 <ℤ coefficient u row → pos 0 <ℤ coefficient u total
multiple_above row total u m h = subst (λ (z : ℤ). pos 0 <ℤ z) (m.is_scaled.coefficients u) (mul_positive (pos m.scale) (coefficient u row) (size_positive m.scale m.positive) h)

multiple_below : (row total : Inequality) (u : ℕ) → IsMultiple row total → coefficient u row <ℤ pos 0 → coefficient u total <ℤ pos 0
multiple_below row total u m h = subst (λ (z : ℤ). z <ℤ pos 0) (m.is_scaled.coefficients u) (mul_negative (pos m.scale) (coefficient u row) (size_positive m.scale m.positive) h)

-- a row that stays at the next stage
shown_next : (width : ℕ) (rows : List Inequality) (unknowns : List ℕ) (stage : ℕ) (row : Inequality) → stage < length unknowns → coefficient (get_or unknowns stage 0) row ≡ pos 0 → IsShown width rows unknowns stage row → IsShown width rows unknowns (stage + 1) row
shown_next width rows unknowns stage row l z s =
    let u = get_or unknowns stage 0 in
    let more : take (stage + 1) unknowns ≡ take stage unknowns ++ u ∷ [] = take_more unknowns stage 0 l in
    record {
      multipliers = s.multipliers;
      of_stage = subst (λ (us : List ℕ). IsRowOfStage width rows us row s.multipliers) (sym more) (kept (take stage unknowns) u row s.multipliers s.of_stage (multiple_zero row (combination width s.multipliers rows) u s.multiple z));
      one_each = s.one_each;
      multiple = s.multiple;
      same_width = s.same_width;
    }

-- the same for the stages after it
shown_later : (width : ℕ) (rows : List Inequality) (unknowns : List ℕ) (stage later : ℕ) (row : Inequality) → stage + later ≤ length unknowns → ((k : ℕ) → k < stage + later → coefficient (get_or unknowns k 0) row ≡ pos 0) → IsShown width rows unknowns stage row → IsShown width rows unknowns (stage + later) row
shown_later width rows unknowns stage zero row l z s = subst (λ (n : ℕ). IsShown width rows unknowns n row) (let e : stage ≡ stage + 0 = omega arith in e) s
shown_later width rows unknowns stage (suc later) row l z s =
    let before = shown_later width rows unknowns stage later row (omega (arith, l)) (λ k b. z k (omega (arith, b))) s in
    let at = shown_next width rows unknowns (stage + later) row (omega (arith, l)) (z (stage + later) (omega arith)) before in
    subst (λ (n : ℕ). IsShown width rows unknowns n row) (let e : (stage + later) + 1 ≡ stage + suc later = omega arith in e) at

without_each : (unknowns : List ℕ) (stage : ℕ) (row : Inequality) → stage ≤ length unknowns → IsWithout (take stage unknowns) row → (k : ℕ) → k < stage → coefficient (get_or unknowns k 0) row ≡ pos 0
without_each unknowns stage row l w k b =
    let len = length-take stage unknowns in
    ap (λ (u : ℕ). coefficient u row) (sym (get_or-take stage unknowns k 0 b)) ∙ w k 0 (omega (arith, len, l, b))

shown_at : (width : ℕ) (rows : List Inequality) (unknowns : List ℕ) (stage : ℕ) (made : GivenRow) → stage ≤ length unknowns → IsOfStage unknowns stage made → IsShown width rows unknowns (stage_of made.origin) made.row → IsShown width rows unknowns stage made.row
shown_at width rows unknowns stage made l o s =
    let e : stage_of made.origin + (stage - stage_of made.origin) ≡ stage = (let b = o.not_later in omega (arith, b)) in
    let each = without_each unknowns stage made.row l o.without in
    subst (λ (n : ℕ). IsShown width rows unknowns n made.row) e (shown_later width rows unknowns (stage_of made.origin) (stage - stage_of made.origin) made.row (omega (arith, e, l)) (λ k b. each k (omega (arith, e, b))) s)

-- x times the first list and y times the second
mixed : ℕ → ℕ → List ℤ → List ℤ → List ℤ
mixed x y first second = map (λ (k : ℕ). (pos x *ℤ number k first) +ℤ (pos y *ℤ number k second)) (range_with_len 0 (length first))

is_mixed : (x y : ℕ) (first second : List ℤ) → IsMix x y first second (mixed x y first second)
unfolding mixed
is_mixed x y first second =
    let f = λ (k : ℕ). (pos x *ℤ number k first) +ℤ (pos y *ℤ number k second) in
    record {
      one_each = length-map-range_with_len f 0 (length first);
      numbers = λ k l. get_or-map-range_with_len f 0 (length first) k k (pos 0) l (omega arith);
    }

least_of : (x y : ℕ) (first second : List ℤ) → HasReduced (as_row (mixed x y first second))
least_of x y first second = has_reduced (as_row (mixed x y first second))

-- the multipliers of a sum
sum_multipliers : (x y : ℕ) (first second : List ℤ) → List ℤ
sum_multipliers x y first second = (least_of x y first second).reduced.coefficients

is_least : (x y : ℕ) (first second : List ℤ) → IsReduced (as_row (mixed x y first second)) (as_row (sum_multipliers x y first second))
unfolding sum_multipliers
is_least x y first second = let h = least_of x y first second in reduced_list (mixed x y first second) h.reduced h.is_reduced

least_mix : (x y : ℕ) (first second : List ℤ) → IsLeastMix x y first second (sum_multipliers x y first second)
least_mix x y first second = record { mixed = mixed x y first second; is_mix = is_mixed x y first second; is_least = is_least x y first second }

least_length : (x y : ℕ) (first second : List ℤ) → length (sum_multipliers x y first second) ≡ length first
least_length x y first second = length_of_reduced (as_row (mixed x y first second)) (as_row (sum_multipliers x y first second)) (is_least x y first second) ∙ (is_mixed x y first second).one_each

-- the combination of the given rows by these multipliers is a sum of the two rows
sum_is : (width : ℕ) (rows : List Inequality) (unknown x y : ℕ) (first second : List ℤ) (upper lower : Inequality) → length second ≡ length first → IsMultiple upper (combination width first rows) → IsMultiple lower (combination width second rows) → Cancels (coefficient unknown (combination width first rows)) (coefficient unknown (combination width second rows)) x y → IsSumOf unknown upper lower (combination width (sum_multipliers x y first second) rows)
sum_is width rows unknown x y first second upper lower same um lm cancels =
    let ms = sum_multipliers x y first second in
    let m = multiple_of_reduced (as_row (mixed x y first second)) (as_row ms) (is_least x y first second) in
    let summed = combinations_summed width x y m.scale first second (mixed x y first second) ms rows (is_mixed x y first second) same m.is_scaled in
    sum_of_multiples unknown m.scale x y upper lower (combination width ms rows) (combination width first rows) (combination width second rows) (combination width ms rows) m.positive cancels (multiple_of_itself (combination width ms rows)) um lm summed

-- the sum of two rows of a stage is a row of the next
shown_sum : (width : ℕ) (rows : List Inequality) (unknowns : List ℕ) (stage : ℕ) (upper lower row : Inequality) → stage < length unknowns → IsShown width rows unknowns stage upper → IsShown width rows unknowns stage lower → IsReducedSum (get_or unknowns stage 0) upper lower row → IsShown width rows unknowns (stage + 1) row
shown_sum width rows unknowns stage upper lower row l a b s =
    let unknown = get_or unknowns stage 0 in
    let first = combination width a.multipliers rows in
    let second = combination width b.multipliers rows in
    let above = multiple_above upper first unknown a.multiple s.above in
    let below = multiple_below lower second unknown b.multiple s.below in
    let w = have_weights (coefficient unknown first) (coefficient unknown second) above below in
    let ms = sum_multipliers w.x w.y a.multipliers b.multipliers in
    let total = combination width ms rows in
    let is = sum_is width rows unknown w.x w.y a.multipliers b.multipliers upper lower (b.one_each ∙ sym a.one_each) a.multiple b.multiple w.cancels in
    let same : length lower.coefficients ≡ length upper.coefficients = b.same_width ∙ sym a.same_width in
    let row_width : length row.coefficients ≡ width = length_of_reduced s.sum row s.is_reduced ∙ s.coefficients.one_each ∙ a.same_width in
    let ratio = sums_in_ratio unknown upper lower row total s.above s.below (width_of_combination width ms rows ∙ sym row_width) (is_sum_of unknown upper lower row same s) is in
    let reduced = reduced_in_ratio s.sum row total s.is_reduced ratio in
    let cancelling : IsCancellingSum width rows unknown a.multipliers b.multipliers ms = record { above = above; below = below; x = w.x; y = w.y; cancels = w.cancels; least = least_mix w.x w.y a.multipliers b.multipliers } in
    let more : take (stage + 1) unknowns ≡ take stage unknowns ++ unknown ∷ [] = take_more unknowns stage 0 l in
    record {
      multipliers = ms;
      of_stage = subst (λ (us : List ℕ). IsRowOfStage width rows us row ms) (sym more) (sum (take stage unknowns) unknown upper lower row a.multipliers b.multipliers ms a.of_stage b.of_stage cancelling reduced);
      one_each = least_length w.x w.y a.multipliers b.multipliers ∙ a.one_each;
      multiple = multiple_of_reduced total row reduced;
      same_width = row_width;
    }

-- each row is one of its stage, if those before it are
abbrev AreShown : ℕ → List Inequality → List ℕ → List GivenRow → ℕ → Type 0
AreShown width rows unknowns made n = (k : ℕ) (d : GivenRow) → k < n → k < length made → IsShown width rows unknowns (stage_of (get_or made k d).origin) (get_or made k d).row

-- a row before another one
before_at : (made : List GivenRow) (n position : ℕ) (one : GivenRow) → slice_get (take n made) position ≡ Some one → (position < n) × (position < length made) × (get_or made position one ≡ one)
before_at made n position one e =
    let within = slice_get_within (take n made) position one e in
    let len = length-take n made in
    let l : position < n = omega (arith, within, len) in
    (l, omega (arith, within, len), sym (get_or-take n made position one l) ∙ get_or_from_slice_get (take n made) position one one e)

shown_before : (width : ℕ) (rows : List Inequality) (unknowns : List ℕ) (made : List GivenRow) (n position : ℕ) (one : GivenRow) → AreShown width rows unknowns made n → slice_get (take n made) position ≡ Some one → IsShown width rows unknowns (stage_of one.origin) one.row
shown_before width rows unknowns made n position one h e =
    let at = before_at made n position one e in
    subst (λ (r : GivenRow). IsShown width rows unknowns (stage_of r.origin) r.row) at.2 (h position one at.0 at.1)

shown_of_origin : (width : ℕ) (rows : List Inequality) (unknowns : List ℕ) (made : List GivenRow) (n : ℕ) (origin : Origin) (row : Inequality) → AreShown width rows unknowns made n → IsOfOrigin width rows unknowns (take n made) origin row → IsShown width rows unknowns (stage_of origin) row
shown_of_origin width rows unknowns made n (Given i) row h o = shown_given width rows unknowns i row o
shown_of_origin width rows unknowns made n (Sum of) row h o =
    let l : of.step < length unknowns = slice_get_within unknowns of.step o.unknown o.unknown_at in
    let at : o.unknown ≡ get_or unknowns of.step 0 = sym (get_or_from_slice_get unknowns of.step o.unknown 0 o.unknown_at) in
    let upper = shown_at width rows unknowns of.step o.upper (omega (arith, l)) o.upper_of_stage (shown_before width rows unknowns made n of.upper o.upper h o.upper_at) in
    let lower = shown_at width rows unknowns of.step o.lower (omega (arith, l)) o.lower_of_stage (shown_before width rows unknowns made n of.lower o.lower h o.lower_at) in
    shown_sum width rows unknowns of.step o.upper.row o.lower.row row l upper lower (subst (λ (u : ℕ). IsReducedSum u o.upper.row o.lower.row row) at o.is_sum)

all_shown : (width : ℕ) (rows : List Inequality) (unknowns : List ℕ) (made : List GivenRow) → AreOfOrigins width rows unknowns made → (n : ℕ) → AreShown width rows unknowns made n
all_shown width rows unknowns made o zero k d l b = absurd (omega (arith, l))
all_shown width rows unknowns made o (suc n) k d l b =
    let earlier : AreShown width rows unknowns made k = λ j e m c. all_shown width rows unknowns made o n j e (omega (arith, l, m)) c in
    shown_of_origin width rows unknowns made k (get_or made k d).origin (get_or made k d).row earlier (o k d b)

-- what holds of each given row
each_row : (P : Inequality → Type 0) (made : List GivenRow) → ((k : ℕ) (d : GivenRow) → k < length made → P (get_or made k d).row) → All P (rows_of made)
each_row P [] h = All-nil P
each_row P (one ∷ made) h = All-cons P one.row (rows_of made) (h 0 one (omega arith)) (each_row P made (λ k d l. h (suc k) d (omega (arith, l))))

found_of_shown : (width : ℕ) (rows : List Inequality) (unknowns : List ℕ) (stage : ℕ) (row : Inequality) → IsShown width rows unknowns stage row → IsFound width rows unknowns row
found_of_shown width rows unknowns stage row s = record { before = take stage unknowns; after = drop stage unknowns; parts = take-append-drop stage unknowns; multipliers = s.multipliers; of_stage = s.of_stage }

within_width : (rows : List Inequality) → IsWithinWidth (width_of rows) rows
within_width [] = All-nil (λ (row : Inequality). length row.coefficients ≤ 0)
within_width (row ∷ rows) =
    let w = max (length row.coefficients) (width_of rows) in
    let here : length row.coefficients ≤ w = omega arith in
    let rest : width_of rows ≤ w = omega arith in
    All-cons (λ (r : Inequality). length r.coefficients ≤ w) row rows here (λ k d l. let b = within_width rows k d l in omega (arith, b, rest))

-- the sums that the found rows have are sums as an elimination has them
has_sums : (width : ℕ) (found : List Inequality) (eliminated : List ℕ) (unknown : ℕ) → All (λ (row : Inequality). length row.coefficients ≡ width) found → HasStageSums found eliminated unknown → HasSums found eliminated unknown
has_sums width found eliminated unknown same h = record {
  sums = λ upper lower a b wa wb above below.
      let s = h.sums upper lower a b wa wb above below in
      let P = λ (row : Inequality). length row.coefficients ≡ width in
      record { row = s.row; is_found = s.is_found; is_sum = is_sum_of unknown upper lower s.row (All-contains P found lower same b ∙ sym (All-contains P found upper same a)) s.is_sum };
}

closed : (width : ℕ) (found : List Inequality) (unknowns : List ℕ) → All (λ (row : Inequality). length row.coefficients ≡ width) found → HasEachSum found unknowns → (n : ℕ) → n ≤ length unknowns → IsClosed found (take n unknowns)
closed width found unknowns same h zero l = none
closed width found unknowns same h (suc n) l =
    let u = get_or unknowns n 0 in
    let more : take (suc n) unknowns ≡ take n unknowns ++ u ∷ [] = ap (λ (m : ℕ). take m unknowns) (let e : suc n ≡ n + 1 = omega arith in e) ∙ take_more unknowns n 0 (omega (arith, l)) in
    subst (λ (us : List ℕ). IsClosed found us) (sym more) (next (take n unknowns) u (closed width found unknowns same h n (omega (arith, l))) (has_sums width found (take n unknowns) u same (h n 0 (omega (arith, l)))))

length_of_rows : (made : List GivenRow) → length (rows_of made) ≡ length made
length_of_rows made = length-map made (λ (one : GivenRow). one.row)

pub shows : (rows : List Inequality) (given : GivenElimination) → IsGivenElimination rows given → ShowsElimination rows given
shows rows provided g =
    let width = width_of rows in
    let unknowns = provided.unknowns.items in
    let made = provided.rows.items in
    let found = rows_of made in
    let shown = all_shown width rows unknowns made g.of_origins (length made) in
    let same : All (λ (row : Inequality). length row.coefficients ≡ width) found = each_row (λ (row : Inequality). length row.coefficients ≡ width) made (λ k d l. (shown k d l l).same_width) in
    record {
      complete = record {
        width = width;
        unknowns = unknowns;
        found = found;
        elimination = record {
          within = within_width rows;
          of_stages = each_row (IsFound width rows unknowns) made (λ k d l. found_of_shown width rows unknowns _ _ (shown k d l l));
          different = g.different;
          begins = g.begins;
          closed = subst (λ (us : List ℕ). IsClosed found us) (take_all (length unknowns) unknowns (omega arith)) (closed width found unknowns same g.has_sums (length unknowns) (omega arith));
          below_limit = (let len = length_of_rows made in let b = g.below_limit in omega (arith, len, b));
        };
        no_unknown_left = g.no_unknown_left;
      };
      width = refl;
      unknowns = refl;
      found = refl;
    }

-- values chosen after it are chosen for all unknowns
pub chosen : (rows : List Inequality) (provided : GivenElimination) (values : List Fraction) → AreGivenValues rows provided values → AreAllChosen rows values
unfolding shows
chosen rows provided values g = record {
  choosing = record {
    complete = (shows rows provided g.elimination).complete;
    different = g.different;
    before = [];
    are_values = g.are_values;
  };
  none_before = refl;
  covered = g.covered;
}
