-- Eliminations to which constraints of the current stage are added, and which go from stage to stage with all sums.
use Rattle.std.proofs.Common.{◌≡◌, ◌≢◌, ℕ, zero, suc, ◌<◌, ◌≤◌, List, [], ◌∷◌, ◌++◌, length, get_or, pos, ℤ, ◌*ℤ◌, ◌<ℤ◌, refl, sym, ap, ◌∙◌, subst, arith, ◌⊎◌, inl, inr}
use Rattle.std.specs.Prelude.{All, Contains}
use Rattle.std.specs.List.{AllPairs}
use Rattle.std.proofs.Math.IntN.{*ℤ-zero}
use Rattle.std.proofs.lemmas.Bool.{eqb-true}
use Rattle.std.proofs.lemmas.Bool.Decides.{Decides-eqb}
use Rattle.std.proofs.lemmas.List.Elements.{All-nil, All-push, All-contains, Contains-get_or, Contains-push, Contains-push_cases, Contains-append_left}
use Rattle.std.proofs.lemmas.List.Quantifiers.{all_pairs_push}
use Rattle.std.proofs.lemmas.Map.Made.{IsDistinct-from_AllPairs}
use Rattle.std.proofs.lemmas.Map.Steps.{length-le_from_distinct_below}
use Rattle.std.proofs.lemmas.Map.Views.{Contains-from_any}
use Rattle.linear_arith.specs.Inequality.{Inequality, coefficient, padded}
use Rattle.linear_arith.specs.Closure.{IsWithout, HasSum, HasSums, IsClosed, IsElimination, IsBegun}
use Rattle.linear_arith.specs.Elimination.{IsFound}
use Rattle.linear_arith.specs.Closure.IsClosed.{none, next}
use Rattle.linear_arith.specs.Stages.{IsDerived, AreBefore, IsStage, IsStageBefore, IsUnderWay, StandsIn, KeepsRows, AreParted, IsExtended, IsCaughtUp, IsLeft, NoneIsLeft}
use Rattle.linear_arith.specs.declared.elimination.Stage.{Stage}
use Rattle.linear_arith.specs.declared.elimination.Derived.{Derived}
use Rattle.linear_arith.specs.declared.elimination.Elimination.{Elimination}
use Rattle.linear_arith.proofs.ClosureLemmas.{size_positive, not_zero_above, not_zero_below, closed_stays, without_last, without_others}
use Rattle.base.proofs.WholeNumbers.{mul_positive, mul_negative, positive_of_multiple, negative_of_multiple}
use Rattle.linear_arith.proofs.ListLemmas.{get_or-past, below_or_past}

-- the same constraints, the same unknowns
pub extended_same : (old new : Elimination) → new.unknowns.items ≡ old.unknowns.items → new.found ≡ old.found → new.live.items ≡ old.live.items → new.stages.items ≡ old.stages.items → IsExtended old new
extended_same old new unknowns found live stages = record {
  stages = stages;
  unknowns = unknowns;
  found = λ row h. subst (λ (rs : List Inequality). Contains rs row) (sym found) h;
  live = λ made h. subst (λ (ds : List Derived). Contains ds made) (sym live) h;
  fresh = λ row h. inl (subst (λ (rs : List Inequality). Contains rs row) found h);
}

-- one more constraint
pub extended_with : (width : ℕ) (rows : List Inequality) (old new : Elimination) (made : Derived) → IsDerived width rows old.unknowns.items made → new.unknowns.items ≡ old.unknowns.items → new.found ≡ old.found ++ made.row ∷ [] → new.live.items ≡ old.live.items ++ made ∷ [] → new.stages.items ≡ old.stages.items → IsExtended old new
extended_with width rows old new made d unknowns found live stages = record {
  stages = stages;
  unknowns = unknowns;
  found = λ row h. subst (λ (rs : List Inequality). Contains rs row) (sym found) (Contains-append_left old.found (made.row ∷ []) row h);
  live = λ other h. subst (λ (ds : List Derived). Contains ds other) (sym live) (Contains-append_left old.live.items (made ∷ []) other h);
  fresh = λ row h. elim (Contains-push_cases old.found made.row row (subst (λ (rs : List Inequality). Contains rs row) found h)) [
    | inl o ↦ inl o
    | inr e ↦ inr (record {
      is_live = record { made = made; is_live = subst (λ (ds : List Derived). Contains ds made) (sym live) (Contains-push old.live.items made); same = e };
      without = subst (λ (us : List ℕ). IsWithout us row) (sym unknowns) (subst (λ (r : Inequality). IsWithout old.unknowns.items r) e d.without);
    })
  ];
}

lives_on : (old new : Elimination) (row : Inequality) → ((made : Derived) → Contains old.live.items made → Contains new.live.items made) → StandsIn old.live.items row → StandsIn new.live.items row
lives_on old new row live s = record { made = s.made; is_live = live s.made s.is_live; same = s.same }

pub extended_twice : (old mid new : Elimination) → IsExtended old mid → IsExtended mid new → IsExtended old new
extended_twice old mid new a b = record {
  stages = b.stages ∙ a.stages;
  unknowns = b.unknowns ∙ a.unknowns;
  found = λ row h. b.found row (a.found row h);
  live = λ made h. b.live made (a.live made h);
  fresh = λ row h. elim (b.fresh row h) [
    | inr f ↦ inr f
    | inl m ↦ elim (a.fresh row m) [
      | inl o ↦ inl o
      | inr f ↦ inr (record {
        is_live = lives_on mid new row b.live f.is_live;
        without = subst (λ (us : List ℕ). IsWithout us row) (sym b.unknowns) f.without;
      })
    ]
  ];
}

pub keeps_extended : (old new : Elimination) → IsExtended old new → KeepsRows old → KeepsRows new
keeps_extended old new g k row h w = elim (g.fresh row h) [
  | inl o ↦ lives_on old new row g.live (k row o (subst (λ (us : List ℕ). IsWithout us row) g.unknowns w))
  | inr f ↦ f.is_live
]

total_above : (width : ℕ) (rows : List Inequality) (unknowns : List ℕ) (unknown : ℕ) (made : Derived) → IsDerived width rows unknowns made → pos 0 <ℤ coefficient unknown made.row → pos 0 <ℤ coefficient unknown made.total
total_above width rows unknowns unknown made d h = subst (λ (z : ℤ). pos 0 <ℤ z) (d.is_scaled.coefficients unknown) (mul_positive (pos d.scale) (coefficient unknown made.row) (size_positive d.scale d.positive) h)

total_below : (width : ℕ) (rows : List Inequality) (unknowns : List ℕ) (unknown : ℕ) (made : Derived) → IsDerived width rows unknowns made → coefficient unknown made.row <ℤ pos 0 → coefficient unknown made.total <ℤ pos 0
total_below width rows unknowns unknown made d h = subst (λ (z : ℤ). z <ℤ pos 0) (d.is_scaled.coefficients unknown) (mul_negative (pos d.scale) (coefficient unknown made.row) (size_positive d.scale d.positive) h)

total_zero : (width : ℕ) (rows : List Inequality) (unknowns : List ℕ) (unknown : ℕ) (made : Derived) → IsDerived width rows unknowns made → coefficient unknown made.row ≡ pos 0 → coefficient unknown made.total ≡ pos 0
total_zero width rows unknowns unknown made d h = sym (d.is_scaled.coefficients unknown) ∙ ap (λ (z : ℤ). pos d.scale *ℤ z) h ∙ *ℤ-zero (pos d.scale)

pub row_above : (width : ℕ) (rows : List Inequality) (unknowns : List ℕ) (unknown : ℕ) (made : Derived) → IsDerived width rows unknowns made → pos 0 <ℤ coefficient unknown made.total → pos 0 <ℤ coefficient unknown made.row
row_above width rows unknowns unknown made d h = positive_of_multiple (pos d.scale) (coefficient unknown made.row) (size_positive d.scale d.positive) (subst (λ (z : ℤ). pos 0 <ℤ z) (sym (d.is_scaled.coefficients unknown)) h)

pub row_below : (width : ℕ) (rows : List Inequality) (unknowns : List ℕ) (unknown : ℕ) (made : Derived) → IsDerived width rows unknowns made → coefficient unknown made.total <ℤ pos 0 → coefficient unknown made.row <ℤ pos 0
row_below width rows unknowns unknown made d h = negative_of_multiple (pos d.scale) (coefficient unknown made.row) (size_positive d.scale d.positive) (subst (λ (z : ℤ). z <ℤ pos 0) (sym (d.is_scaled.coefficients unknown)) h)

pub live_derived : (width : ℕ) (rows : List Inequality) (old : Elimination) (row : Inequality) (s : StandsIn old.live.items row) → IsUnderWay width rows old → IsDerived width rows old.unknowns.items s.made
live_derived width rows old row s u = All-contains (IsDerived width rows old.unknowns.items) old.live.items s.made u.live s.is_live

-- the constraints of a stage, partitioned by an unknown
pub stands_above : (width : ℕ) (rows : List Inequality) (old : Elimination) (unknown : ℕ) (uppers lowers others : List Derived) → IsUnderWay width rows old → AreParted unknown old.live.items uppers lowers others → (row : Inequality) → StandsIn old.live.items row → pos 0 <ℤ coefficient unknown row → StandsIn uppers row
stands_above width rows old unknown uppers lowers others u parted row s above = record {
  made = s.made;
  is_live = parted.upper s.made s.is_live (total_above width rows old.unknowns.items unknown s.made (live_derived width rows old row s u) (subst (λ (r : Inequality). pos 0 <ℤ coefficient unknown r) (sym s.same) above));
  same = s.same;
}

pub stands_below : (width : ℕ) (rows : List Inequality) (old : Elimination) (unknown : ℕ) (uppers lowers others : List Derived) → IsUnderWay width rows old → AreParted unknown old.live.items uppers lowers others → (row : Inequality) → StandsIn old.live.items row → coefficient unknown row <ℤ pos 0 → StandsIn lowers row
stands_below width rows old unknown uppers lowers others u parted row s below = record {
  made = s.made;
  is_live = parted.lower s.made s.is_live (total_below width rows old.unknowns.items unknown s.made (live_derived width rows old row s u) (subst (λ (r : Inequality). coefficient unknown r <ℤ pos 0) (sym s.same) below));
  same = s.same;
}

is_still_among : (width : ℕ) (rows : List Inequality) (old : Elimination) (unknown : ℕ) (uppers lowers others : List Derived) → IsUnderWay width rows old → AreParted unknown old.live.items uppers lowers others → (row : Inequality) → StandsIn old.live.items row → coefficient unknown row ≡ pos 0 → StandsIn others row
is_still_among width rows old unknown uppers lowers others u parted row s gone = record {
  made = s.made;
  is_live = parted.other s.made s.is_live (total_zero width rows old.unknowns.items unknown s.made (live_derived width rows old row s u) (ap (λ (r : Inequality). coefficient unknown r) s.same ∙ gone));
  same = s.same;
}

-- the sum of each constraint of a list and each of another is found
abbrev pub HaveSums : List Inequality → ℕ → List Derived → List Derived → Type 0
HaveSums found unknown uppers lowers = All (λ (upper : Derived). All (λ (lower : Derived). HasSum found unknown upper.row lower.row) lowers) uppers

not_left : (width : ℕ) (rows : List Inequality) (old : Elimination) (unknown : ℕ) → IsUnderWay width rows old → IsLeft old.live.items unknown → (k d : ℕ) → k < length old.unknowns.items → get_or old.unknowns.items k d ≢ unknown
not_left width rows old unknown u left k d l e =
    let derived = All-contains (IsDerived width rows old.unknowns.items) old.live.items left.made u.live left.is_live in
    left.stands (subst (λ (n : ℕ). coefficient n left.made.row ≡ pos 0) e (derived.without k d l))

-- the found constraints that the next stage keeps, and those that it adds
pub next_keeps : (old mid new : Elimination) → mid.found ≡ old.found → IsExtended mid new → (row : Inequality) → Contains old.found row → Contains new.found row
next_keeps old mid new found g row h = g.found row (subst (λ (rs : List Inequality). Contains rs row) (sym found) h)

pub next_fresh : (unknown : ℕ) (old mid new : Elimination) → mid.found ≡ old.found → mid.unknowns.items ≡ old.unknowns.items ++ unknown ∷ [] → IsExtended mid new → (row : Inequality) → Contains new.found row → Contains old.found row ⊎ IsWithout (old.unknowns.items ++ unknown ∷ []) row
next_fresh unknown old mid new found unknowns g row h = elim (g.fresh row h) [
  | inl m ↦ inl (subst (λ (rs : List Inequality). Contains rs row) found m)
  | inr f ↦ inr (subst (λ (ns : List ℕ). IsWithout ns row) (g.unknowns ∙ unknowns) f.without)
]

-- a constraint with the unknown was found before
pub next_old : (unknown : ℕ) (old mid new : Elimination) → mid.found ≡ old.found → mid.unknowns.items ≡ old.unknowns.items ++ unknown ∷ [] → IsExtended mid new → (row : Inequality) → Contains new.found row → coefficient unknown row ≢ pos 0 → Contains old.found row
next_old unknown old mid new found unknowns g row h n = elim (next_fresh unknown old mid new found unknowns g row h) [ inl o ↦ o | inr w ↦ absurd (n (without_last old.unknowns.items unknown row w)) ]

pub next_sums : (width : ℕ) (rows : List Inequality) (unknown : ℕ) (uppers lowers : List Derived) (old mid new : Elimination) → IsUnderWay width rows old → IsCaughtUp width rows old → AreParted unknown old.live.items uppers lowers mid.live.items → mid.found ≡ old.found → mid.unknowns.items ≡ old.unknowns.items ++ unknown ∷ [] → IsExtended mid new → HaveSums new.found unknown uppers lowers → HasSums new.found old.unknowns.items unknown
next_sums width rows unknown uppers lowers old mid new u c parted found unknowns g sums = record {
  sums = λ upper lower a b wa wb above below. pair upper lower (next_old unknown old mid new found unknowns g upper a (λ z. not_zero_above _ z above)) (next_old unknown old mid new found unknowns g lower b (λ z. not_zero_below _ z below)) wa wb above below;
}
  where
    pair : (upper lower : Inequality) → Contains old.found upper → Contains old.found lower → IsWithout old.unknowns.items upper → IsWithout old.unknowns.items lower → pos 0 <ℤ coefficient unknown upper → coefficient unknown lower <ℤ pos 0 → HasSum new.found unknown upper lower
    pair upper lower a b wa wb above below =
        let s = stands_above width rows old unknown uppers lowers mid.live.items u parted upper (c.keeps upper a wa) above in
        let t = stands_below width rows old unknown uppers lowers mid.live.items u parted lower (c.keeps lower b wb) below in
        let each = All-contains (λ (x : Derived). All (λ (y : Derived). HasSum new.found unknown x.row y.row) lowers) uppers s.made sums s.is_live in
        let sum = All-contains (λ (y : Derived). HasSum new.found unknown s.made.row y.row) lowers t.made each t.is_live in
        subst (λ (r : Inequality). HasSum new.found unknown upper r) t.same (subst (λ (r : Inequality). HasSum new.found unknown r t.made.row) s.same sum)

-- the next stage of an elimination, after the sums that cancel its unknown are added
pub caught_up_next : (width : ℕ) (rows : List Inequality) (unknown : ℕ) (uppers lowers : List Derived) (old mid new : Elimination) → IsUnderWay width rows old → IsCaughtUp width rows old → unknown < width → IsLeft old.live.items unknown → AreParted unknown old.live.items uppers lowers mid.live.items → mid.found ≡ old.found → mid.unknowns.items ≡ old.unknowns.items ++ unknown ∷ [] → IsExtended mid new → HaveSums new.found unknown uppers lowers → IsCaughtUp width rows new
caught_up_next width rows unknown uppers lowers old mid new u c below left parted found unknowns g sums = record {
  begins = λ k d l. next_keeps old mid new found g (padded width (get_or rows k d)) (c.begins k d l);
  keeps = keeps_extended mid new g (λ row h w. let w' = subst (λ (us : List ℕ). IsWithout us row) unknowns w in is_still_among width rows old unknown uppers lowers mid.live.items u parted row (c.keeps row (subst (λ (rs : List Inequality). Contains rs row) found h) (without_others us unknown row w')) (without_last us unknown row w'));
  closed = subst (λ (us : List ℕ). IsClosed new.found us) (sym same) (next us unknown (closed_stays old.found new.found (next_keeps old mid new found g) us (λ row h. elim (next_fresh unknown old mid new found unknowns g row h) [ inl o ↦ inl o | inr w ↦ inr (without_others us unknown row w) ]) c.closed) (next_sums width rows unknown uppers lowers old mid new u c parted found unknowns g sums));
  below = subst (λ (us : List ℕ). All (λ u. u < width) us) (sym same) (All-push (λ (u : ℕ). u < width) us unknown c.below below);
  different = subst (λ (us : List ℕ). AllPairs (λ a b. a ≢ b) us) (sym same) (all_pairs_push (λ (a b : ℕ). a ≢ b) us unknown c.different (not_left width rows old unknown u left));
}
  where
    us : List ℕ
    us = old.unknowns.items

    same : new.unknowns.items ≡ old.unknowns.items ++ unknown ∷ []
    same = g.unknowns ∙ unknowns

-- the first stage, with all given constraints
pub caught_up_first : (width : ℕ) (rows : List Inequality) (new : Elimination) → new.unknowns.items ≡ [] → KeepsRows new → ((k : ℕ) (d : Inequality) → k < length rows → Contains new.found (padded width (get_or rows k d))) → IsCaughtUp width rows new
caught_up_first width rows new e keeps begins = record {
  begins = λ k d l. begins k d l;
  keeps = keeps;
  closed = subst (λ (us : List ℕ). IsClosed new.found us) (sym e) none;
  below = subst (λ (us : List ℕ). All (λ u. u < width) us) (sym e) (All-nil (λ (u : ℕ). u < width));
  different = subst (λ (us : List ℕ). AllPairs (λ a b. a ≢ b) us) (sym e) (λ i j d l m. absurd (omega (arith, m)));
}

-- different unknowns are at most as many as there are unknowns
pub unknowns_within : (width : ℕ) (rows : List Inequality) (elimination : Elimination) → IsCaughtUp width rows elimination → length elimination.unknowns.items ≤ width
unknowns_within width rows elimination c =
    let us = elimination.unknowns.items in
    length-le_from_distinct_below us width (IsDistinct-from_AllPairs Decides-eqb us c.different) (λ q h. All-contains (λ (u : ℕ). u < width) us q c.below (Contains-from_any (λ x y e. eqb-true x y e) q us h))

-- where no unknown is left in the current stage, none is left in a constraint without the eliminated ones
pub none_left : (width : ℕ) (rows : List Inequality) (elimination : Elimination) → IsUnderWay width rows elimination → IsCaughtUp width rows elimination → NoneIsLeft width elimination.live.items → (row : Inequality) → Contains elimination.found row → IsWithout elimination.unknowns.items row → (n : ℕ) → coefficient n row ≡ pos 0
none_left width rows elimination u c left row h w n = elim (below_or_past n width) as (λ _. coefficient n row ≡ pos 0) [
  | inl l ↦ let s = c.keeps row h w in ap (λ (r : Inequality). coefficient n r) (sym s.same) ∙ All-contains (λ (made : Derived). coefficient n made.row ≡ pos 0) elimination.live.items s.made (left n l) s.is_live
  | inr l ↦ get_or-past row.coefficients n (pos 0) (let w = All-contains (λ (r : Inequality). length r.coefficients ≡ width) elimination.found row u.are_found.same_width h in omega (arith, w, l))
]

-- the elimination with all sums
pub eliminated : (width : ℕ) (rows : List Inequality) (elimination : Elimination) → IsUnderWay width rows elimination → IsCaughtUp width rows elimination → IsElimination width rows elimination.unknowns.items elimination.unknowns.items elimination.found
eliminated width rows elimination u c = record {
  within = u.within;
  of_stages = u.are_found.of_stages;
  different = u.are_found.different;
  begins = c.begins;
  closed = c.closed;
  below_limit = u.below_limit;
}

Contains-cons_cases : {A : Type 0} (y : A) (ys : List A) (x : A) → Contains (y ∷ ys) x → (y ≡ x) ⊎ Contains ys x
Contains-cons_cases y ys x (zero, l, e) = inl e
Contains-cons_cases y ys x (suc k, l, e) = inr (k, omega (arith, l), e)

-- a list from which one more constraint is removed, and added to another list or not
pub moved : (rest more old new : List Derived) (made x : Derived) → rest ≡ made ∷ more → new ≡ old ++ made ∷ [] → Contains rest x ⊎ Contains old x → Contains more x ⊎ Contains new x
moved rest more old new made x e f h = elim h [
  | inl r ↦ elim (Contains-cons_cases made more x (subst (λ (ds : List Derived). Contains ds x) e r)) [
    | inl same ↦ inr (subst (λ (ds : List Derived). Contains ds x) (sym f) (subst (λ (d : Derived). Contains (old ++ made ∷ []) d) same (Contains-push old made)))
    | inr m ↦ inl m
  ]
  | inr o ↦ inr (subst (λ (ds : List Derived). Contains ds x) (sym f) (Contains-append_left old (made ∷ []) x o))
]

pub not_moved : (rest more old : List Derived) (made x : Derived) → rest ≡ made ∷ more → (made ≡ x → ⊥) → Contains rest x ⊎ Contains old x → Contains more x ⊎ Contains old x
not_moved rest more old made x e n h = elim h [
  | inl r ↦ elim (Contains-cons_cases made more x (subst (λ (ds : List Derived). Contains ds x) e r)) [
    | inl same ↦ absurd (n same)
    | inr m ↦ inl m
  ]
  | inr o ↦ inr o
]

pub all_moved : (rest old : List Derived) (x : Derived) → length rest ≡ 0 → Contains rest x ⊎ Contains old x → Contains old x
all_moved rest old x e h = elim h [ inl r ↦ absurd (let l = r.1 in omega (arith, l, e)) | inr o ↦ o ]

-- constraints from a list, with one more of them
pub from_with : (all old new : List Derived) (made : Derived) → new ≡ old ++ made ∷ [] → ((x : Derived) → Contains old x → Contains all x) → Contains all made → (x : Derived) → Contains new x → Contains all x
from_with all old new made e f h x g = elim (Contains-push_cases old made x (subst (λ (ds : List Derived). Contains ds x) e g)) [ inl o ↦ f x o | inr same ↦ subst (λ (d : Derived). Contains all d) same h ]

pub first_from : (all rest more : List Derived) (made : Derived) → rest ≡ made ∷ more → ((x : Derived) → Contains rest x → Contains all x) → Contains all made
first_from all rest more made e f = f made (subst (λ (ds : List Derived). Contains ds made) (sym e) (0, omega arith, refl))

pub rest_from : (all rest more : List Derived) (made : Derived) → rest ≡ made ∷ more → ((x : Derived) → Contains rest x → Contains all x) → (x : Derived) → Contains more x → Contains all x
rest_from all rest more made e f x h = f x (subst (λ (ds : List Derived). Contains ds x) (sym e) (suc h.0, (let l = h.1 in omega (arith, l)), h.2))

-- the stage that is eliminated, before its sums are added
pub stage_left : (width : ℕ) (rows : List Inequality) (unknown : ℕ) (stage : Stage) (old mid : Elimination) → IsUnderWay width rows old → IsCaughtUp width rows old → IsUnderWay width rows mid → IsStage width rows old.unknowns.items stage → stage.unknown ≡ unknown → AreParted unknown old.live.items stage.upper.items stage.lower.items mid.live.items → mid.found ≡ old.found → mid.unknowns.items ≡ old.unknowns.items ++ unknown ∷ [] → IsStageBefore width rows mid.found mid.unknowns.items stage
stage_left width rows unknown stage old mid u c v is_stage same parted found unknowns = record {
  before = old.unknowns.items;
  is_last = ap (λ (n : ℕ). old.unknowns.items ++ n ∷ []) same ∙ sym unknowns;
  is_stage = is_stage;
  elimination = record {
    within = v.within;
    of_stages = v.are_found.of_stages;
    different = v.are_found.different;
    begins = subst (λ (rs : List Inequality). All (λ row. Contains rs (padded width row)) rows) (sym found) c.begins;
    closed = subst (λ (rs : List Inequality). IsClosed rs old.unknowns.items) (sym found) c.closed;
    below_limit = v.below_limit;
  };
  upper_found = each stage.upper.items parted.upper_from;
  lower_found = each stage.lower.items parted.lower_from;
}
  where
    each : (part : List Derived) → ((made : Derived) → Contains part made → Contains old.live.items made) → All (λ (made : Derived). Contains mid.found made.row) part
    each part from k d l = subst (λ (rs : List Inequality). Contains rs (get_or part k d).row) (sym found) (All-contains (λ (m : Derived). Contains old.found m.row) old.live.items (get_or part k d) u.live_found (from (get_or part k d) (Contains-get_or part k d l)))

-- the same after some of the sums
pub stage_extended : (width : ℕ) (rows : List Inequality) (stage : Stage) (old new : Elimination) → IsUnderWay width rows new → IsExtended old new → IsStageBefore width rows old.found old.unknowns.items stage → IsStageBefore width rows new.found new.unknowns.items stage
stage_extended width rows stage old new v g b = record {
  before = b.before;
  is_last = b.is_last ∙ sym g.unknowns;
  is_stage = b.is_stage;
  elimination = record {
    within = v.within;
    of_stages = v.are_found.of_stages;
    different = v.are_found.different;
    begins = λ k d l. g.found (padded width (get_or rows k d)) (b.elimination.begins k d l);
    closed = closed_stays old.found new.found g.found b.before (λ row h. elim (g.fresh row h) [ inl o ↦ inl o | inr f ↦ inr (without_others b.before stage.unknown row (subst (λ (us : List ℕ). IsWithout us row) (g.unknowns ∙ sym b.is_last) f.without)) ]) b.elimination.closed;
    below_limit = v.below_limit;
  };
  upper_found = λ k d l. g.found (get_or stage.upper.items k d).row (b.upper_found k d l);
  lower_found = λ k d l. g.found (get_or stage.lower.items k d).row (b.lower_found k d l);
}

-- two constraints of the stage
pub pair_of_stage : (width : ℕ) (rows found : List Inequality) (unknowns : List ℕ) (stage : Stage) (upper lower : Derived) → IsStageBefore width rows found unknowns stage → Contains stage.upper.items upper → Contains stage.lower.items lower → AreBefore width rows found unknowns stage.unknown upper lower
pair_of_stage width rows found unknowns stage upper lower b u l = record {
  before = b.before;
  is_last = b.is_last;
  upper_of_stage = All-contains (IsDerived width rows b.before) stage.upper.items upper b.is_stage.upper u;
  lower_of_stage = All-contains (IsDerived width rows b.before) stage.lower.items lower b.is_stage.lower l;
  above = All-contains (λ (made : Derived). pos 0 <ℤ coefficient stage.unknown made.total) stage.upper.items upper b.is_stage.above u;
  below = All-contains (λ (made : Derived). coefficient stage.unknown made.total <ℤ pos 0) stage.lower.items lower b.is_stage.below l;
  elimination = b.elimination;
  upper_found = All-contains (λ (made : Derived). Contains found made.row) stage.upper.items upper b.upper_found u;
  lower_found = All-contains (λ (made : Derived). Contains found made.row) stage.lower.items lower b.lower_found l;
}

-- the first given constraints of an elimination
pub begun : (width : ℕ) (rows : List Inequality) (count : ℕ) (elimination : Elimination) → IsUnderWay width rows elimination → elimination.unknowns.items ≡ [] → ((k : ℕ) (d : Inequality) → k < count → Contains elimination.found (padded width (get_or rows k d))) → IsBegun rows count
begun width rows count elimination u e begins = record {
  width = width;
  found = elimination.found;
  of_stages = subst (λ (us : List ℕ). All (IsFound width rows us) elimination.found) e u.are_found.of_stages;
  different = u.are_found.different;
  begins = begins;
  below_limit = u.below_limit;
}
