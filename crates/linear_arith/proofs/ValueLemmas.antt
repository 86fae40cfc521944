-- Values for the unknowns of all stages, the last stage first.
use Rattle.std.proofs.Common.{◌≡◌, ◌≢◌, ℕ, zero, suc, ◌+◌, ◌<◌, List, [], ◌∷◌, ◌++◌, length, get_or, take, pos, ◌<ℤ◌, refl, sym, ap, ◌∙◌, subst, arith, ◌⊎◌, inl, inr, below_more}
use Rattle.std.specs.Prelude.{All, Contains}
use Rattle.std.proofs.lemmas.Bool.Decides.{eqb_tells}
use Rattle.std.proofs.lemmas.List.{get_or-map, get_or-take, length-map, length-take-le, map_more, take_all}
use Rattle.std.proofs.lemmas.List.Elements.{All-nil, All-push, All-contains, Contains-get_or, Contains-push, Contains-push_cases, Contains-append_left}
use Rattle.linear_arith.specs.Inequality.{Inequality, coefficient, padded}
use Rattle.linear_arith.specs.Answer.{IsSolution}
use Rattle.linear_arith.specs.Choice.{AreCompatible, MeetsStage}
use Rattle.linear_arith.specs.Stages.{IsSound, IsOfStages, IsFittingStage, IsWhole, unknowns_of, HasAllStages}
use Rattle.linear_arith.specs.Values.{HasValue, IsChosen, AreValues, IsChoosing, AreAllChosen}
use Rattle.linear_arith.specs.Values.AreValues.{begun, idle, next}
use Rattle.linear_arith.specs.declared.elimination.Derived.{Derived}
use Rattle.linear_arith.specs.Substitution.{LinearForm, IsTrueForm, put_in_all, ArePositive}
use Rattle.linear_arith.specs.declared.elimination.Stage.{Stage}
use Rattle.linear_arith.specs.declared.rows.Fraction.{Fraction}
use Rattle.linear_arith.proofs.ChoiceLemmas.{AreChosen, met_by_all, no_value_yet, stage_compatible, chosen_next}
use Rattle.linear_arith.proofs.GivenLemmas.{padded_form}

-- an unknown is that of a stage, or of none
one_or_none : (stages : List Stage) (u : ℕ) → All (λ (stage : Stage). stage.unknown ≢ u) stages ⊎ Contains (unknowns_of stages) u
one_or_none [] u = inl (All-nil (λ (stage : Stage). stage.unknown ≢ u))
one_or_none (s ∷ ss) u = elim (eqb_tells s.unknown u) [
  | inl e ↦ inr (0, omega arith, e.1)
  | inr n ↦ elim (one_or_none ss u) [
    | inr h ↦ inr (suc h.0, (let l = h.1 in omega (arith, l)), h.2)
    | inl all ↦ inl (each n.1 all)
  ]
]
  where
    each : s.unknown ≢ u → All (λ (stage : Stage). stage.unknown ≢ u) ss → All (λ (stage : Stage). stage.unknown ≢ u) (s ∷ ss)
    each n all zero d l = n
    each n all (suc k) d l = all k d (omega (arith, l))

contains_none : (stages : List Stage) (u : ℕ) → All (λ (stage : Stage). stage.unknown ≢ u) stages → Contains (unknowns_of stages) u → ⊥
contains_none [] u n (k, l, e) = absurd (omega (arith, l))
contains_none (s ∷ ss) u n (zero, l, e) = n 0 s (omega arith) e
contains_none (s ∷ ss) u n (suc k, l, e) = contains_none ss u (λ i d m. n (suc i) d (omega (arith, m))) (k, omega (arith, l), e)

-- values for the first unknowns that no stage eliminates
pub record AreBegun (stages : List Stage) (count : ℕ) (values : List Fraction) : Type 0 where
  pub positive : ArePositive values
  pub covered : (u : ℕ) → u < count → Contains (unknowns_of stages) u ⊎ HasValue values u
  pub others : (value : Fraction) → Contains values value → Contains (unknowns_of stages) value.unknown → ⊥
  pub below : All (λ (value : Fraction). value.unknown < count) values
  pub are_values : (found : List Inequality) → AreValues found (unknowns_of stages) (unknowns_of stages) values

pub none_begun : (stages : List Stage) (values : List Fraction) → values ≡ [] → AreBegun stages 0 values
none_begun stages values e = subst (λ (vs : List Fraction). AreBegun stages 0 vs) (sym e) (record {
  positive = All-nil (λ (v : Fraction). pos 0 <ℤ v.denominator);
  covered = λ u l. absurd (omega (arith, l));
  others = λ v h. absurd (let l = h.1 in omega (arith, l));
  below = All-nil (λ (v : Fraction). v.unknown < 0);
  are_values = λ found. begun;
})

pub one_begun : (stages : List Stage) (count : ℕ) (values : List Fraction) (value : Fraction) → AreBegun stages count values → value.unknown ≡ count → value.numerator ≡ pos 0 → value.denominator ≡ pos 1 → pos 0 <ℤ value.denominator → All (λ (stage : Stage). stage.unknown ≢ count) stages → AreBegun stages (count + 1) (values ++ value ∷ [])
one_begun stages count values value b same none one p kept = record {
  positive = All-push (λ (v : Fraction). pos 0 <ℤ v.denominator) values value b.positive p;
  covered = λ u l. below_more (λ (u : ℕ). Contains (unknowns_of stages) u ⊎ HasValue (values ++ value ∷ []) u) count (λ u l. elim (b.covered u l) [
    | inl h ↦ inl h
    | inr v ↦ inr (record { value = v.value; is_in = Contains-append_left values (value ∷ []) v.value v.is_in; same = v.same })
  ]) (inr (record { value = value; is_in = Contains-push values value; same = same })) u l;
  others = λ v h in_them. elim (Contains-push_cases values value v h) [
    | inl o ↦ b.others v o in_them
    | inr e ↦ contains_none stages count kept (subst (λ (u : ℕ). Contains (unknowns_of stages) u) (ap (λ (f : Fraction). f.unknown) (sym e) ∙ same) in_them)
  ];
  below = All-push (λ (v : Fraction). v.unknown < count + 1) values value (λ k d l. (let h = b.below k d l in omega (arith, h))) (omega (arith, same));
  are_values = λ found. idle (unknowns_of stages) values value (b.are_values found) (λ k d l e. (let h = b.below k d l in omega (arith, h, e, same))) (λ h. contains_none stages count kept (subst (λ (u : ℕ). Contains (unknowns_of stages) u) same h)) none one;
}

pub skip_begun : (stages : List Stage) (count : ℕ) (values : List Fraction) → AreBegun stages count values → (All (λ (stage : Stage). stage.unknown ≢ count) stages → ⊥) → AreBegun stages (count + 1) values
skip_begun stages count values b gone = record {
  positive = b.positive;
  covered = λ u l. below_more (λ (u : ℕ). Contains (unknowns_of stages) u ⊎ HasValue values u) count b.covered (elim (one_or_none stages count) [ inr h ↦ inl h | inl all ↦ absurd (gone all) ]) u l;
  others = b.others;
  below = λ k d l. (let h = b.below k d l in omega (arith, h));
  are_values = b.are_values;
}

pub chosen_first : (width : ℕ) (rows : List Inequality) (stages : List Stage) (values : List Fraction) (all : HasAllStages width rows stages) → AreBegun stages width values → AreChosen width all.found (unknowns_of (take (length stages) stages)) values
chosen_first width rows stages values all b = subst (λ (ss : List Stage). AreChosen width all.found (unknowns_of ss) values) (sym (take_all (length stages) stages (omega arith))) (record {
  positive = b.positive;
  met = λ row h w. met_by_all row values b.positive (All-contains IsSound all.found row all.sound h) (all.no_unknown_left row h w);
  covered = b.covered;
  others = b.others;
})

pub values_first : (width : ℕ) (rows : List Inequality) (stages : List Stage) (values : List Fraction) (all : HasAllStages width rows stages) → AreBegun stages width values → AreValues all.found (unknowns_of stages) (unknowns_of (take (length stages) stages)) values
values_first width rows stages values all b = subst (λ (ss : List Stage). AreValues all.found (unknowns_of stages) (unknowns_of ss) values) (sym (take_all (length stages) stages (omega arith))) (b.are_values all.found)

with_next : (stages : List Stage) (i : ℕ) (d : Stage) → i < length stages → unknowns_of (take (i + 1) stages) ≡ unknowns_of (take i stages) ++ (get_or stages i d).unknown ∷ []
with_next stages i d l = map_more (λ (stage : Stage). stage.unknown) stages i d l

not_before : (width : ℕ) (rows : List Inequality) (stages : List Stage) (i : ℕ) (d : Stage) → HasAllStages width rows stages → i < length stages → Contains (unknowns_of (take i stages)) (get_or stages i d).unknown → ⊥
not_before width rows stages i d all l h =
    let f = λ (stage : Stage). stage.unknown in
    let u = (get_or stages i d).unknown in
    let len = length-map stages f in
    let some = length-map (take i stages) f in
    let short = length-take-le i stages (omega (arith, l)) in
    let m = h.1 in
    let j = h.0 in
    let before : j < i = omega (arith, some, short, m) in
    let at_j : get_or (unknowns_of stages) j u ≡ (get_or stages j d).unknown = get_or-map f stages j d u (omega (arith, before, l)) in
    let at_i : get_or (unknowns_of stages) i u ≡ u = get_or-map f stages i d u l in
    let there : get_or (unknowns_of (take i stages)) j u ≡ (get_or stages j d).unknown = get_or-map f (take i stages) j d u (omega (arith, before, short)) ∙ ap f (get_or-take i stages j d before) in
    all.different j i u before (omega (arith, len, l)) (at_j ∙ sym there ∙ h.2 ∙ sym at_i)

pub compatible_back : (width : ℕ) (rows : List Inequality) (stages : List Stage) (values : List Fraction) (i : ℕ) (d : Stage) (all : HasAllStages width rows stages) → i < length stages → AreChosen width all.found (unknowns_of (take (i + 1) stages)) values → AreCompatible (get_or stages i d) values
compatible_back width rows stages values i d all l c = stage_compatible width all.found (unknowns_of (take i stages)) (get_or stages i d) values (all.whole i d l) (subst (λ (us : List ℕ). AreChosen width all.found us values) (with_next stages i d l) c)

pub chosen_back : (width : ℕ) (rows : List Inequality) (stages : List Stage) (values : List Fraction) (value : Fraction) (i : ℕ) (d : Stage) (all : HasAllStages width rows stages) → i < length stages → AreChosen width all.found (unknowns_of (take (i + 1) stages)) values → value.unknown ≡ (get_or stages i d).unknown → pos 0 <ℤ value.denominator → MeetsStage (get_or stages i d) values value → AreChosen width all.found (unknowns_of (take i stages)) (values ++ value ∷ [])
chosen_back width rows stages values value i d all l c same p meets = chosen_next width all.found (unknowns_of (take i stages)) (get_or stages i d) values value all.same_width (all.whole i d l) (subst (λ (us : List ℕ). AreChosen width all.found us values) (with_next stages i d l) c) same p meets (not_before width rows stages i d all l)

pub solved : (width : ℕ) (rows : List Inequality) (stages : List Stage) (values : List Fraction) (all : HasAllStages width rows stages) → AreChosen width all.found (unknowns_of (take 0 stages)) values → IsSolution rows values
solved width rows stages values all c = record {
  positive = c.positive;
  met = λ k d l.
      let row = get_or rows k d in
      subst (λ (f : LinearForm). IsTrueForm (put_in_all f values)) (padded_form width row (all.within k d l)) (c.met (padded width row) (all.begins k d l) (All-nil (λ (u : ℕ). coefficient u (padded width row) ≡ pos 0)));
}

-- one more value, of a stage's unknown, chosen between its constraints
pub values_back : (width : ℕ) (rows : List Inequality) (stages : List Stage) (values : List Fraction) (value : Fraction) (i : ℕ) (d : Stage) (all : HasAllStages width rows stages) → i < length stages → AreChosen width all.found (unknowns_of (take (i + 1) stages)) values → AreValues all.found (unknowns_of stages) (unknowns_of (take (i + 1) stages)) values → value.unknown ≡ (get_or stages i d).unknown → IsChosen all.found (unknowns_of (take i stages)) values value → AreValues all.found (unknowns_of stages) (unknowns_of (take i stages)) (values ++ value ∷ [])
values_back width rows stages values value i d all l c v same chosen =
    let us = unknowns_of (take i stages) in
    let with = with_next stages i d l ∙ ap (λ (n : ℕ). us ++ n ∷ []) (sym same) in
    next us values value (subst (λ (ns : List ℕ). AreValues all.found (unknowns_of stages) ns values) with v) (no_value_yet width all.found us value.unknown values (subst (λ (ns : List ℕ). AreChosen width all.found ns values) with c)) chosen

-- the values so far
abbrev pub choosing_at : (width : ℕ) (rows : List Inequality) (stages : List Stage) (values : List Fraction) (before : List ℕ) (all : HasAllStages width rows stages) → AreValues all.found (unknowns_of stages) before values → IsChoosing rows values
choosing_at width rows stages values before all v = record {
  complete = record { width = width; unknowns = unknowns_of stages; found = all.found; elimination = all.elimination; no_unknown_left = all.no_unknown_left };
  different = all.different;
  before = before;
  are_values = v;
}

pub all_chosen : (width : ℕ) (rows : List Inequality) (stages : List Stage) (values : List Fraction) (all : HasAllStages width rows stages) → AreChosen width all.found (unknowns_of (take 0 stages)) values → AreValues all.found (unknowns_of stages) (unknowns_of (take 0 stages)) values → AreAllChosen rows values
all_chosen width rows stages values all c v = record {
  choosing = choosing_at width rows stages values [] all v;
  none_before = refl;
  covered = λ u l. elim (c.covered u l) [ inl h ↦ absurd (let b = h.1 in omega (arith, b)) | inr h ↦ h ];
}

-- the constraints of a stage fit, and are found
pub stage_fits : (width : ℕ) (rows : List Inequality) (stage : Stage) → IsOfStages width rows stage → IsFittingStage stage
stage_fits width rows stage s = record { upper = λ k d l. (s.is_stage.upper k d l).fits; lower = λ k d l. (s.is_stage.lower k d l).fits }

pub upper_found : (found : List Inequality) (before : List ℕ) (stage : Stage) → IsWhole found before stage → All (λ (made : Derived). Contains found made.row) stage.upper.items
upper_found found before stage w k d l = w.is_found (get_or stage.upper.items k d).row (inl (record { made = get_or stage.upper.items k d; is_live = Contains-get_or stage.upper.items k d l; same = refl }))

pub lower_found : (found : List Inequality) (before : List ℕ) (stage : Stage) → IsWhole found before stage → All (λ (made : Derived). Contains found made.row) stage.lower.items
lower_found found before stage w k d l = w.is_found (get_or stage.lower.items k d).row (inr (record { made = get_or stage.lower.items k d; is_live = Contains-get_or stage.lower.items k d l; same = refl }))
