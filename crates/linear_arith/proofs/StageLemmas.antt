-- Constraints of the stages of an elimination: their multipliers, and the invariant when one more is found.
use Rattle.std.proofs.Common.{◌≡◌, ◌≢◌, ℕ, zero, suc, ◌<◌, ◌≤◌, Bool, true, false, cond, not, List, [], ◌∷◌, ◌++◌, length, get_or, pos, ℤ, ◌+ℤ◌, ◌*ℤ◌, ◌≤ℤ◌, ◌<ℤ◌, refl, sym, ap, ◌∙◌, subst, arith, ◌⊎◌, inl, inr, length-append, append-nil, append_assoc}
use Rattle.std.specs.Prelude.{All, Contains}
use Rattle.std.specs.List.{list_any}
use Rattle.std.specs.BTreeMap.{is_at}
use Rattle.std.specs.BTreeSet.{BTreeSet, contains, contains_by, Updates}
use Rattle.std.specs.Ordering.{int_cmp}
use Rattle.std.specs.Cmp.Lexicographic.{slice_cmp}
use Rattle.std.specs.Global.{Vec}
use Rattle.std.proofs.lemmas.Bool.{false≢true}
use Rattle.std.proofs.lemmas.Int.{ints, by_lt_z}
use Rattle.std.proofs.Math.IntN.{*ℤ-zero}
use Rattle.std.proofs.lemmas.List.FromFn.{length-map-range_with_len}
use Rattle.std.proofs.lemmas.List.Elements.{All-push, All-contains, Contains-get_or, Contains-push, Contains-append_left}
use Rattle.std.proofs.lemmas.List.Quantifiers.{all_pairs_push}
use Rattle.linear_arith.specs.Inequality.{Inequality, coefficient}
use Rattle.linear_arith.specs.Combination.{number, weighted_sum, combination, CombinesWithin}
use Rattle.linear_arith.specs.Reduction.{IsReduced}
use Rattle.linear_arith.specs.Elimination.{IsUnit, Cancels, IsLeastMix, as_row, IsCancellingSum, IsRowOfStage, IsFound, ReachesLimit}
use Rattle.linear_arith.specs.Elimination.IsRowOfStage.{kept, sum}
use Rattle.linear_arith.specs.Fits.{IsFitting}
use Rattle.linear_arith.specs.Wide.{SumLeaves, IsWide}
use Rattle.linear_arith.specs.Wide.IsWide.{sum as wide}
use Rattle.linear_arith.specs.Stages.{AreMultipliers, IsDerived, AreBefore, IsStage, IsOfStages, HasKey, key_cmp, AreFound, IsUnderWay, IsSound}
use Rattle.linear_arith.specs.declared.elimination.Stage.{Stage}
use Rattle.linear_arith.specs.declared.elimination.Derived.{Derived}
use Rattle.linear_arith.specs.declared.elimination.Elimination.{Elimination}
use Rattle.linear_arith.specs.Closure.{IsWithout, IsSumOf, IsElimination, IsDue}
use Rattle.linear_arith.specs.Closure.IsDue.{sum as due}
use Rattle.linear_arith.proofs.ClosureLemmas.{IsMultiple, AreSummed, size_positive, multiple_of_reduced, combinations_summed, sum_of_multiples, without_in_sum, without_one_more}
use Rattle.base.proofs.WholeNumbers.{mul_not_negative, sign_of_multiple, zero_of_multiple}
use Rattle.linear_arith.proofs.FitSystemLemmas.{reduced_fits, combination_fits}
use Rattle.linear_arith.proofs.KeyLemmas.{no_other_with}
use Rattle.linear_arith.proofs.ListLemmas.{get_or-any_default}

one_not_negative : pos 0 ≤ℤ pos 1
one_not_negative = omega (arith, ints)

zero_not_negative : pos 0 ≤ℤ pos 0
zero_not_negative = omega (arith, ints)

size_not_negative : (n : ℕ) → pos 0 ≤ℤ pos n
size_not_negative n = omega (arith, ints)

sum_not_negative : (a b : ℤ) → pos 0 ≤ℤ a → pos 0 ≤ℤ b → pos 0 ≤ℤ (a +ℤ b)
sum_not_negative a b h k = omega (arith, ints, h, k)

-- two numbers are equal or different
same_or_not : (i k : ℕ) → (i ≡ k) ⊎ (i ≢ k)
same_or_not zero zero = inl refl
same_or_not zero (suc k) = inr (λ e. omega (arith, e))
same_or_not (suc i) zero = inr (λ e. omega (arith, e))
same_or_not (suc i) (suc k) = elim (same_or_not i k) [ inl e ↦ inl (ap suc e) | inr n ↦ inr (λ e. n (omega (arith, e))) ]

-- each number of a list is at least 0, where it is at each index
each_not_negative : (ms : List ℤ) → ((k : ℕ) → k < length ms → pos 0 ≤ℤ number k ms) → All (λ m. pos 0 ≤ℤ m) ms
each_not_negative ms h k d l = subst (λ (z : ℤ). pos 0 ≤ℤ z) (get_or-any_default ms k (pos 0) d l) (h k l)

pub unit_multipliers : (rows : List Inequality) (i : ℕ) (ms : List ℤ) → IsUnit (length rows) i ms → AreMultipliers rows ms
unit_multipliers rows i ms h = record {
  one_each = h.one_each;
  not_negative = each_not_negative ms (λ k l. elim (same_or_not k i) [
    | inl e ↦ subst (λ (z : ℤ). pos 0 ≤ℤ z) (sym (ap (λ (n : ℕ). number n ms) e ∙ h.itself)) one_not_negative
    | inr n ↦ subst (λ (z : ℤ). pos 0 ≤ℤ z) (sym (h.others k n)) zero_not_negative
  ]);
}

zero_or_positive : (n : ℕ) → (n ≡ 0) ⊎ (0 < n)
zero_or_positive zero = inl refl
zero_or_positive (suc n) = inr (omega arith)

pub length_of_reduced : (row reduced : Inequality) → IsReduced row reduced → length reduced.coefficients ≡ length row.coefficients
length_of_reduced row reduced h = elim (zero_or_positive h.divisor) [
  | inl z ↦ ap (λ (r : Inequality). length r.coefficients) (h.zeros z)
  | inr p ↦ (h.quotient p).same_unknowns
]

-- the least integers in the ratio of numbers that are at least 0
least_not_negative : (mixed ms : List ℤ) → IsReduced (as_row mixed) (as_row ms) → ((k : ℕ) → k < length mixed → pos 0 ≤ℤ number k mixed) → (k : ℕ) → k < length mixed → pos 0 ≤ℤ number k ms
least_not_negative mixed ms h at k l = elim (zero_or_positive h.divisor) [
  | inl z ↦ subst (λ (r : Inequality). pos 0 ≤ℤ number k r.coefficients) (sym (h.zeros z)) (at k l)
  | inr p ↦ sign_of_multiple (pos h.divisor) (number k ms) (omega (arith, ints, p)) (subst (λ (z : ℤ). pos 0 ≤ℤ z) (sym ((h.quotient p).coefficients k)) (at k l))
]

pub least_multipliers : (rows : List Inequality) (x y : ℕ) (first second ms : List ℤ) → AreMultipliers rows first → AreMultipliers rows second → IsLeastMix x y first second ms → AreMultipliers rows ms
least_multipliers rows x y first second ms a b h =
    let len : length ms ≡ length h.mixed = length_of_reduced (as_row h.mixed) (as_row ms) h.is_least in
    let whole : length h.mixed ≡ length rows = h.is_mix.one_each ∙ a.one_each in
    let at = λ (k : ℕ) (l : k < length h.mixed).
    let one = a.not_negative k (pos 0) (omega (arith, h.is_mix.one_each, l)) in
    let two = b.not_negative k (pos 0) (omega (arith, whole, b.one_each, l)) in
    subst (λ (z : ℤ). pos 0 ≤ℤ z) (sym (h.is_mix.numbers k (omega (arith, h.is_mix.one_each, l)))) (sum_not_negative _ _ (mul_not_negative (pos x) (number k first) (size_not_negative x) one) (mul_not_negative (pos y) (number k second) (size_not_negative y) two)) in
    record {
      one_each = len ∙ whole;
      not_negative = each_not_negative ms (λ k l. least_not_negative h.mixed ms h.is_least at k (omega (arith, len, l)));
    }

pub width_of_combination : (width : ℕ) (ms : List ℤ) (rows : List Inequality) → length (combination width ms rows).coefficients ≡ width
width_of_combination width ms rows = length-map-range_with_len (λ u. weighted_sum (coefficient u) ms rows) 0 width

-- a constraint whose key is new is none of those with keys
not_found : (keys : BTreeSet (Vec ℤ)) (key : Vec ℤ) (row other : Inequality) → contains key_cmp keys key ≡ false → key.items ≡ row.bound ∷ row.coefficients → HasKey keys other → other ≢ row
not_found keys key row other fresh numbers has same =
    let e : has.key.items ≡ key.items = has.numbers ∙ ap (λ (r : Inequality). r.bound ∷ r.coefficients) same ∙ sym numbers in
    let f : contains key_cmp keys has.key ≡ contains key_cmp keys key = contains_items keys has.key key e in
    false≢true (sym fresh ∙ sym f ∙ has.stands)
  where
    contains_items : (keys : BTreeSet (Vec ℤ)) (p q : Vec ℤ) → p.items ≡ q.items → contains key_cmp keys p ≡ contains key_cmp keys q
    contains_items keys p q e = ap (λ (xs : List ℤ). contains_by (λ (k : Vec ℤ). slice_cmp int_cmp xs k.items) keys) e

cond_same : (b : Bool) → cond b true true ≡ true
cond_same true = refl
cond_same false = refl

pub negated : (a b : Bool) → a ≡ not b → a ≡ true → b ≡ false
negated a true e t = absurd (false≢true (sym e ∙ t))
negated a false e t = refl

pub negated_false : (a b : Bool) → a ≡ not b → a ≡ false → b ≡ true
negated_false a true e f = refl
negated_false a false e f = absurd (false≢true (sym f ∙ e))

stays : (old new : BTreeSet (Vec ℤ)) (key : Vec ℤ) → Updates key_cmp old new key true → (row : Inequality) → HasKey old row → HasKey new row
stays old new key updates row has = record {
  key = has.key;
  numbers = has.numbers;
  stands = updates.0 has.key ∙ ap (λ (b : Bool). cond (is_at (key_cmp key) has.key) true b) has.stands ∙ cond_same (is_at (key_cmp key) has.key);
}

found_of_derived : (width : ℕ) (rows : List Inequality) (unknowns : List ℕ) (made : Derived) → IsDerived width rows unknowns made → IsFound width rows unknowns made.row
found_of_derived width rows unknowns made d = record { before = unknowns; after = []; parts = append-nil unknowns; multipliers = made.multipliers; of_stage = d.of_stage }

-- a constraint that is no contradiction is true where it has no unknown
pub sound_of : (row : Inequality) → ¬ ((row.bound <ℤ pos 0) × All (λ c. c ≡ pos 0) row.coefficients) → IsSound row
sound_of row h none = by_lt_z row.bound (pos 0) (λ l. absurd (h (l, λ k d b. get_or-any_default row.coefficients k d (pos 0) b ∙ none k))) (λ l. l)

sound_of_multiple : (row total : Inequality) → IsMultiple row total → IsSound total → IsSound row
sound_of_multiple row total m h none =
    sign_of_multiple (pos m.scale) row.bound (size_positive m.scale m.positive) (subst (λ (z : ℤ). pos 0 ≤ℤ z) (sym m.is_scaled.bound) (h (λ u. sym (m.is_scaled.coefficients u) ∙ ap (λ (z : ℤ). pos m.scale *ℤ z) (none u) ∙ *ℤ-zero (pos m.scale))))

-- the found constraints and one more with a new key
pub found_with : (width : ℕ) (rows : List Inequality) (unknowns : List ℕ) (old new : BTreeSet (Vec ℤ)) (found : List Inequality) (made : Derived) (key : Vec ℤ) → AreFound width rows unknowns old found → IsDerived width rows unknowns made → key.items ≡ made.row.bound ∷ made.row.coefficients → contains key_cmp old key ≡ false → Updates key_cmp old new key true → AreFound width rows unknowns new (found ++ made.row ∷ [])
found_with width rows unknowns old new found made key f d numbers fresh updates = record {
  of_stages = All-push (IsFound width rows unknowns) found made.row f.of_stages (found_of_derived width rows unknowns made d);
  same_width = All-push (λ (row : Inequality). length row.coefficients ≡ width) found made.row f.same_width d.same_width;
  different = all_pairs_push (λ (a b : Inequality). a ≢ b) found made.row f.different (λ k e l. not_found old key made.row (get_or found k e) fresh numbers (f.keyed k e l));
  keyed = All-push (HasKey new) found made.row (λ k e l. stays old new key updates (get_or found k e) (f.keyed k e l)) (record { key = key; numbers = numbers; stands = updates.1 });
  no_other = no_other_with old new found made.row key numbers updates f.no_other;
  sound = All-push IsSound found made.row f.sound d.sound;
}

-- an elimination with one more constraint
pub under_way_with : (width : ℕ) (rows : List Inequality) (old new : Elimination) (made : Derived) (key : Vec ℤ) → IsUnderWay width rows old → IsDerived width rows old.unknowns.items made → new.unknowns.items ≡ old.unknowns.items → new.live.items ≡ old.live.items ++ made ∷ [] → new.found ≡ old.found ++ made.row ∷ [] → new.stages.items ≡ old.stages.items → key.items ≡ made.row.bound ∷ made.row.coefficients → contains key_cmp old.keys key ≡ false → Updates key_cmp old.keys new.keys key true → length new.found < 5000 → IsUnderWay width rows new
under_way_with width rows old new made key u d unknowns live found stages numbers fresh updates limit = record {
  within = u.within;
  live = subst (λ (us : List ℕ). All (IsDerived width rows us) new.live.items) (sym unknowns) (subst (λ (ds : List Derived). All (IsDerived width rows old.unknowns.items) ds) (sym live) (All-push (IsDerived width rows old.unknowns.items) old.live.items made u.live d));
  live_found = subst (λ (ds : List Derived). All (λ (m : Derived). Contains new.found m.row) ds) (sym live) (subst (λ (rs : List Inequality). All (λ (m : Derived). Contains rs m.row) (old.live.items ++ made ∷ [])) (sym found) (All-push (λ (m : Derived). Contains (old.found ++ made.row ∷ []) m.row) old.live.items made (λ k e l. Contains-append_left old.found (made.row ∷ []) (get_or old.live.items k e).row (u.live_found k e l)) (Contains-push old.found made.row)));
  are_found = subst (λ (us : List ℕ). AreFound width rows us new.keys new.found) (sym unknowns) (subst (λ (rs : List Inequality). AreFound width rows old.unknowns.items new.keys rs) (sym found) (found_with width rows old.unknowns.items old.keys new.keys old.found made key u.are_found d numbers fresh updates));
  stages = subst (λ (ss : List Stage). All (IsOfStages width rows) ss) (sym stages) u.stages;
  below_limit = limit;
}

-- an elimination whose constraints reach the limit
pub limit_with : (width : ℕ) (rows : List Inequality) (old : Elimination) (keys : BTreeSet (Vec ℤ)) (found : List Inequality) (made : Derived) (key : Vec ℤ) → IsUnderWay width rows old → IsDerived width rows old.unknowns.items made → found ≡ old.found ++ made.row ∷ [] → key.items ≡ made.row.bound ∷ made.row.coefficients → contains key_cmp old.keys key ≡ false → Updates key_cmp old.keys keys key true → 5000 ≤ length found → ReachesLimit rows found
limit_with width rows old keys found made key u d is numbers fresh updates limit =
    let f = subst (λ (rs : List Inequality). AreFound width rows old.unknowns.items keys rs) (sym is) (found_with width rows old.unknowns.items old.keys keys old.found made key u.are_found d numbers fresh updates) in
    let len = ap (λ (rs : List Inequality). length rs) is ∙ length-append old.found (made.row ∷ []) in
    record {
      width = width;
      within = u.within;
      unknowns = old.unknowns.items;
      of_stages = f.of_stages;
      same_width = f.same_width;
      different = f.different;
      count = omega (arith, len, limit, u.below_limit);
    }

-- an elimination whose keys are only stored elsewhere
pub under_way_same : (width : ℕ) (rows : List Inequality) (old : Elimination) (keys : BTreeSet (Vec ℤ)) → IsUnderWay width rows old → old.keys.keys ≡ keys.keys → IsUnderWay width rows (record old { keys = keys })
under_way_same width rows old keys u same = record {
  within = u.within;
  live = u.live;
  live_found = u.live_found;
  are_found = record {
    of_stages = u.are_found.of_stages;
    same_width = u.are_found.same_width;
    different = u.are_found.different;
    keyed = λ k e l. let has = u.are_found.keyed k e l in record { key = has.key; numbers = has.numbers; stands = subst (λ (ks : List (Vec ℤ)). list_any (is_at (key_cmp has.key)) ks ≡ true) same has.stands };
    no_other = λ row has. u.are_found.no_other row (record { key = has.key; numbers = has.numbers; stands = subst (λ (ks : List (Vec ℤ)). list_any (is_at (key_cmp has.key)) ks ≡ true) (sym same) has.stands });
    sound = u.are_found.sound;
  };
  stages = u.stages;
  below_limit = u.below_limit;
}

multiple_of_row : (width : ℕ) (rows : List Inequality) (unknowns : List ℕ) (made : Derived) → IsDerived width rows unknowns made → IsMultiple made.row made.total
multiple_of_row width rows unknowns made d = record { scale = d.scale; positive = d.positive; is_scaled = d.is_scaled }

-- the combination of two constraints by their multipliers is their sum
pub sum_of_derived : (width : ℕ) (rows found : List Inequality) (unknowns : List ℕ) (unknown x y : ℕ) (upper lower made : Derived) → AreBefore width rows found unknowns unknown upper lower → Cancels (coefficient unknown upper.total) (coefficient unknown lower.total) x y → IsLeastMix x y upper.multipliers lower.multipliers made.multipliers → made.total ≡ combination width made.multipliers rows → IsReduced made.total made.row → IsSumOf unknown upper.row lower.row made.row
sum_of_derived width rows found unknowns unknown x y upper lower made b cancels least is reduced =
    let u = b.upper_of_stage in
    let l = b.lower_of_stage in
    let least_multiple = multiple_of_reduced (as_row least.mixed) (as_row made.multipliers) least.is_least in
    let summed = combinations_summed width x y least_multiple.scale upper.multipliers lower.multipliers least.mixed made.multipliers rows least.is_mix (l.multipliers.one_each ∙ sym u.multipliers.one_each) least_multiple.is_scaled in
    let totals : AreSummed least_multiple.scale x y upper.total lower.total made.total = rw (u.is_total, l.is_total, is) summed in
    sum_of_multiples unknown least_multiple.scale x y upper.row lower.row made.row upper.total lower.total made.total least_multiple.positive cancels (multiple_of_reduced made.total made.row reduced) (multiple_of_row width rows b.before upper u) (multiple_of_row width rows b.before lower l) totals

cancelling_sum : (width : ℕ) (rows found : List Inequality) (unknowns : List ℕ) (unknown x y : ℕ) (upper lower : Derived) (ms : List ℤ) → AreBefore width rows found unknowns unknown upper lower → Cancels (coefficient unknown upper.total) (coefficient unknown lower.total) x y → IsLeastMix x y upper.multipliers lower.multipliers ms → IsCancellingSum width rows unknown upper.multipliers lower.multipliers ms
cancelling_sum width rows found unknowns unknown x y upper lower ms b cancels least =
    let u = b.upper_of_stage in
    let l = b.lower_of_stage in
    record {
      above = subst (λ (r : Inequality). pos 0 <ℤ coefficient unknown r) u.is_total b.above;
      below = subst (λ (r : Inequality). coefficient unknown r <ℤ pos 0) l.is_total b.below;
      x = x;
      y = y;
      cancels = subst (λ (r : Inequality). Cancels (coefficient unknown (combination width upper.multipliers rows)) (coefficient unknown r) x y) l.is_total (subst (λ (r : Inequality). Cancels (coefficient unknown r) (coefficient unknown lower.total) x y) u.is_total cancels);
      least = least;
    }

-- the sum is due in the elimination that has the two constraints
pub sum_due : (width : ℕ) (rows found : List Inequality) (unknowns : List ℕ) (unknown x y : ℕ) (upper lower : Derived) (ms : List ℤ) → AreBefore width rows found unknowns unknown upper lower → Cancels (coefficient unknown upper.total) (coefficient unknown lower.total) x y → IsLeastMix x y upper.multipliers lower.multipliers ms → IsDue rows ms
sum_due width rows found unknowns unknown x y upper lower ms b cancels least = due (record {
  width = width;
  done = b.before;
  unknown = unknown;
  found = found;
  elimination = subst (λ (us : List ℕ). IsElimination width rows b.before us found) (sym b.is_last) b.elimination;
  first = upper.row;
  second = lower.row;
  first_found = b.upper_found;
  second_found = b.lower_found;
  upper = upper.multipliers;
  lower = lower.multipliers;
  first_of_stage = b.upper_of_stage.of_stage;
  second_of_stage = b.lower_of_stage.of_stage;
  is_sum = cancelling_sum width rows found unknowns unknown x y upper lower ms b cancels least;
})

-- the sum of two constraints that cancels an unknown, as a constraint of the next stage
pub sum_derived : (width : ℕ) (rows found : List Inequality) (unknowns : List ℕ) (unknown x y : ℕ) (upper lower made : Derived) → AreBefore width rows found unknowns unknown upper lower → Cancels (coefficient unknown upper.total) (coefficient unknown lower.total) x y → IsLeastMix x y upper.multipliers lower.multipliers made.multipliers → made.total ≡ combination width made.multipliers rows → IsReduced made.total made.row → IsSound made.total → CombinesWithin width made.multipliers rows → IsDerived width rows unknowns made
sum_derived width rows found unknowns unknown x y upper lower made b cancels least is reduced sound within =
    let u = b.upper_of_stage in
    let l = b.lower_of_stage in
    let of_sum = cancelling_sum width rows found unknowns unknown x y upper lower made.multipliers b cancels least in
    let scaled = multiple_of_reduced made.total made.row reduced in
    let is_sum = sum_of_derived width rows found unknowns unknown x y upper lower made b cancels least is reduced in
    record {
      of_stage = subst (λ (us : List ℕ). IsRowOfStage width rows us made.row made.multipliers) b.is_last (sum b.before unknown upper.row lower.row made.row upper.multipliers lower.multipliers made.multipliers u.of_stage l.of_stage of_sum (subst (λ (r : Inequality). IsReduced r made.row) is reduced));
      is_total = is;
      multipliers = least_multipliers rows x y upper.multipliers lower.multipliers made.multipliers u.multipliers l.multipliers least;
      same_width = length_of_reduced made.total made.row reduced ∙ ap (λ (r : Inequality). length r.coefficients) is ∙ width_of_combination width made.multipliers rows;
      scale = scaled.scale;
      positive = scaled.positive;
      is_scaled = scaled.is_scaled;
      without = subst (λ (us : List ℕ). IsWithout us made.row) b.is_last (without_in_sum b.before unknown upper.row lower.row made.row is_sum u.without l.without);
      sound = sound_of_multiple made.row made.total scaled sound;
      fits = reduced_fits made.total made.row reduced (subst (λ (r : Inequality). IsFitting r) (sym is) (combination_fits width made.multipliers rows within));
    }

first_of_rest : (P : Derived → Type 0) (rest more : List Derived) (made : Derived) → All P rest → rest ≡ made ∷ more → P made
first_of_rest P rest more made h e = subst (λ (ds : List Derived). All P ds) e h 0 made (omega arith)

others_of_rest : (P : Derived → Type 0) (rest more : List Derived) (made : Derived) → All P rest → rest ≡ made ∷ more → All P more
others_of_rest P rest more made h e = λ k d l. subst (λ (ds : List Derived). All P ds) e h (suc k) d (omega (arith, l))

pub head_derived : (width : ℕ) (rows : List Inequality) (unknowns : List ℕ) (rest more : List Derived) (made : Derived) → All (IsDerived width rows unknowns) rest → rest ≡ made ∷ more → IsDerived width rows unknowns made
head_derived width rows unknowns rest more made h e = first_of_rest (IsDerived width rows unknowns) rest more made h e

pub tail_derived : (width : ℕ) (rows : List Inequality) (unknowns : List ℕ) (rest more : List Derived) (made : Derived) → All (IsDerived width rows unknowns) rest → rest ≡ made ∷ more → All (IsDerived width rows unknowns) more
tail_derived width rows unknowns rest more made h e = others_of_rest (IsDerived width rows unknowns) rest more made h e

pub stage_with_upper : (width : ℕ) (rows : List Inequality) (unknowns : List ℕ) (old new : Stage) (made : Derived) → IsStage width rows unknowns old → IsDerived width rows unknowns made → pos 0 <ℤ coefficient old.unknown made.total → new.unknown ≡ old.unknown → new.upper.items ≡ old.upper.items ++ made ∷ [] → new.lower.items ≡ old.lower.items → IsStage width rows unknowns new
stage_with_upper width rows unknowns old new made s d above same upper lower =
    let P = λ (u : ℕ) (made : Derived). pos 0 <ℤ coefficient u made.total in
    let Q = λ (u : ℕ) (made : Derived). coefficient u made.total <ℤ pos 0 in
    record {
      upper = subst (λ (ds : List Derived). All (IsDerived width rows unknowns) ds) (sym upper) (All-push (IsDerived width rows unknowns) old.upper.items made s.upper d);
      lower = subst (λ (ds : List Derived). All (IsDerived width rows unknowns) ds) (sym lower) s.lower;
      above = subst (λ (u : ℕ). All (P u) new.upper.items) (sym same) (subst (λ (ds : List Derived). All (P old.unknown) ds) (sym upper) (All-push (P old.unknown) old.upper.items made s.above above));
      below = subst (λ (u : ℕ). All (Q u) new.lower.items) (sym same) (subst (λ (ds : List Derived). All (Q old.unknown) ds) (sym lower) s.below);
    }

pub stage_with_lower : (width : ℕ) (rows : List Inequality) (unknowns : List ℕ) (old new : Stage) (made : Derived) → IsStage width rows unknowns old → IsDerived width rows unknowns made → coefficient old.unknown made.total <ℤ pos 0 → new.unknown ≡ old.unknown → new.upper.items ≡ old.upper.items → new.lower.items ≡ old.lower.items ++ made ∷ [] → IsStage width rows unknowns new
stage_with_lower width rows unknowns old new made s d below same upper lower =
    let P = λ (u : ℕ) (made : Derived). pos 0 <ℤ coefficient u made.total in
    let Q = λ (u : ℕ) (made : Derived). coefficient u made.total <ℤ pos 0 in
    record {
      upper = subst (λ (ds : List Derived). All (IsDerived width rows unknowns) ds) (sym upper) s.upper;
      lower = subst (λ (ds : List Derived). All (IsDerived width rows unknowns) ds) (sym lower) (All-push (IsDerived width rows unknowns) old.lower.items made s.lower d);
      above = subst (λ (u : ℕ). All (P u) new.upper.items) (sym same) (subst (λ (ds : List Derived). All (P old.unknown) ds) (sym upper) s.above);
      below = subst (λ (u : ℕ). All (Q u) new.lower.items) (sym same) (subst (λ (ds : List Derived). All (Q old.unknown) ds) (sym lower) (All-push (Q old.unknown) old.lower.items made s.below below));
    }

-- a constraint without the unknown is one of the next stage
pub kept_derived : (width : ℕ) (rows : List Inequality) (unknowns : List ℕ) (unknown : ℕ) (made : Derived) → IsDerived width rows unknowns made → coefficient unknown made.total ≡ pos 0 → IsDerived width rows (unknowns ++ unknown ∷ []) made
kept_derived width rows unknowns unknown made d none = record {
  of_stage = kept unknowns unknown made.row made.multipliers d.of_stage (subst (λ (r : Inequality). coefficient unknown r ≡ pos 0) d.is_total none);
  is_total = d.is_total;
  multipliers = d.multipliers;
  same_width = d.same_width;
  scale = d.scale;
  positive = d.positive;
  is_scaled = d.is_scaled;
  without = without_one_more unknowns unknown made.row d.without (zero_of_multiple (pos d.scale) (coefficient unknown made.row) (size_positive d.scale d.positive) (d.is_scaled.coefficients unknown ∙ none));
  sound = d.sound;
  fits = d.fits;
}

pub live_with : (width : ℕ) (rows : List Inequality) (unknowns : List ℕ) (old new : List Derived) (made : Derived) → All (IsDerived width rows unknowns) old → IsDerived width rows unknowns made → new ≡ old ++ made ∷ [] → All (IsDerived width rows unknowns) new
live_with width rows unknowns old new made h d e = subst (λ (ds : List Derived). All (IsDerived width rows unknowns) ds) (sym e) (All-push (IsDerived width rows unknowns) old made h d)

found_later : (width : ℕ) (rows : List Inequality) (unknowns : List ℕ) (unknown : ℕ) (row : Inequality) → IsFound width rows unknowns row → IsFound width rows (unknowns ++ unknown ∷ []) row
found_later width rows unknowns unknown row f = record {
  before = f.before;
  after = f.after ++ unknown ∷ [];
  parts = sym (append_assoc f.before f.after (unknown ∷ [])) ∙ ap (λ (us : List ℕ). us ++ unknown ∷ []) f.parts;
  multipliers = f.multipliers;
  of_stage = f.of_stage;
}

-- an elimination that goes to the next stage
pub under_way_next : (width : ℕ) (rows : List Inequality) (unknown : ℕ) (old new : Elimination) → IsUnderWay width rows old → new.unknowns.items ≡ old.unknowns.items ++ unknown ∷ [] → new.found ≡ old.found → new.keys ≡ old.keys → new.stages.items ≡ old.stages.items → All (IsDerived width rows (old.unknowns.items ++ unknown ∷ [])) new.live.items → ((made : Derived) → Contains new.live.items made → Contains old.live.items made) → IsUnderWay width rows new
under_way_next width rows unknown old new u unknowns found keys stages live from = record {
  within = u.within;
  live = subst (λ (us : List ℕ). All (IsDerived width rows us) new.live.items) (sym unknowns) live;
  live_found = λ k d l. subst (λ (rs : List Inequality). Contains rs (get_or new.live.items k d).row) (sym found) (All-contains (λ (m : Derived). Contains old.found m.row) old.live.items (get_or new.live.items k d) u.live_found (from (get_or new.live.items k d) (Contains-get_or new.live.items k d l)));
  are_found = subst (λ (us : List ℕ). AreFound width rows us new.keys new.found) (sym unknowns) (subst (λ (ks : BTreeSet (Vec ℤ)). AreFound width rows (old.unknowns.items ++ unknown ∷ []) ks new.found) (sym keys) (subst (λ (rs : List Inequality). AreFound width rows (old.unknowns.items ++ unknown ∷ []) old.keys rs) (sym found) (record {
    of_stages = λ k d l. found_later width rows old.unknowns.items unknown (get_or old.found k d) (u.are_found.of_stages k d l);
    same_width = u.are_found.same_width;
    different = u.are_found.different;
    keyed = u.are_found.keyed;
    no_other = u.are_found.no_other;
    sound = u.are_found.sound;
  })));
  stages = subst (λ (ss : List Stage). All (IsOfStages width rows) ss) (sym stages) u.stages;
  below_limit = subst (λ (rs : List Inequality). length rs < 5000) (sym found) u.below_limit;
}

-- an elimination that keeps the constraints removed from a stage
pub under_way_kept : (width : ℕ) (rows : List Inequality) (unknowns : List ℕ) (stage : Stage) (old new : Elimination) → IsUnderWay width rows old → IsStage width rows unknowns stage → new.unknowns.items ≡ old.unknowns.items → new.live.items ≡ old.live.items → new.found ≡ old.found → new.keys ≡ old.keys → new.stages.items ≡ old.stages.items ++ stage ∷ [] → IsUnderWay width rows new
under_way_kept width rows unknowns stage old new u is_stage same live found keys stages = record {
  within = u.within;
  live = subst (λ (us : List ℕ). All (IsDerived width rows us) new.live.items) (sym same) (subst (λ (ds : List Derived). All (IsDerived width rows old.unknowns.items) ds) (sym live) u.live);
  live_found = subst (λ (ds : List Derived). All (λ (m : Derived). Contains new.found m.row) ds) (sym live) (subst (λ (rs : List Inequality). All (λ (m : Derived). Contains rs m.row) old.live.items) (sym found) u.live_found);
  are_found = subst (λ (us : List ℕ). AreFound width rows us new.keys new.found) (sym same) (subst (λ (ks : BTreeSet (Vec ℤ)). AreFound width rows old.unknowns.items ks new.found) (sym keys) (subst (λ (rs : List Inequality). AreFound width rows old.unknowns.items old.keys rs) (sym found) u.are_found));
  stages = subst (λ (ss : List Stage). All (IsOfStages width rows) ss) (sym stages) (All-push (IsOfStages width rows) old.stages.items stage u.stages (record { unknowns = unknowns; is_stage = is_stage }));
  below_limit = subst (λ (rs : List Inequality). length rs < 5000) (sym found) u.below_limit;
}

-- two constraints whose sum is not in 128 bits
pub wide_sum : (width : ℕ) (rows found : List Inequality) (unknowns : List ℕ) (unknown x y : ℕ) (upper lower : Derived) → AreBefore width rows found unknowns unknown upper lower → Cancels (coefficient unknown upper.total) (coefficient unknown lower.total) x y → SumLeaves width rows x y upper.multipliers lower.multipliers → IsWide rows upper.row lower.row
wide_sum width rows found unknowns unknown x y upper lower b cancels leaves =
    let u = b.upper_of_stage in
    let l = b.lower_of_stage in
    wide (record {
      width = width;
      unknowns = b.before;
      unknown = unknown;
      found = found;
      elimination = subst (λ (us : List ℕ). IsElimination width rows b.before us found) (sym b.is_last) b.elimination;
      first_found = b.upper_found;
      second_found = b.lower_found;
      upper = upper.multipliers;
      lower = lower.multipliers;
      first_of_stage = u.of_stage;
      second_of_stage = l.of_stage;
      above = subst (λ (r : Inequality). pos 0 <ℤ coefficient unknown r) u.is_total b.above;
      below = subst (λ (r : Inequality). coefficient unknown r <ℤ pos 0) l.is_total b.below;
      x = x;
      y = y;
      cancels = subst (λ (r : Inequality). Cancels (coefficient unknown (combination width upper.multipliers rows)) (coefficient unknown r) x y) l.is_total (subst (λ (r : Inequality). Cancels (coefficient unknown r) (coefficient unknown lower.total) x y) u.is_total cancels);
      leaves = leaves;
    })
