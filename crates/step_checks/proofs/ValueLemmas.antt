-- Values after an elimination, read one after another: the earlier choices determine which may come next.
use Rattle.std.proofs.Common.{◌≡◌, ◌≢◌, ℕ, zero, suc, ◌+◌, ◌<◌, ◌≤◌, Bool, List, [], ◌∷◌, ◌++◌, length, take, get_or, pos, ℤ, ◌<ℤ◌, refl, sym, ap, ◌∙◌, subst, arith, inl, inr}
use Rattle.std.specs.Prelude.{Contains}
use Rattle.std.specs.Bool.{Decides}
use Rattle.std.specs.List.{AllPairs}
use Rattle.std.proofs.lemmas.Int.{ints}
use Rattle.std.proofs.lemmas.List.{same_from_push, length_push, length-take-le, take_all, take_more, take-append-le, get_or-take}
use Rattle.std.proofs.lemmas.List.Elements.{All-nil, All-push, Contains-get_or, Contains-push, Contains-append_left}
use Rattle.std.proofs.lemmas.List.Quantifiers.{all_pairs_push}
use Rattle.linear_arith.specs.Inequality.{Inequality}
use Rattle.linear_arith.specs.declared.rows.Fraction.{Fraction}
use Rattle.linear_arith.proofs.ListLemmas.{below_or_past, get_or-any_default}
use Rattle.linear_arith.specs.Substitution.{ArePositive}
use Rattle.linear_arith.specs.Values.{HasNoValue, IsChosen, AreValues}
use Rattle.linear_arith.specs.Values.IsChosen.{whole, bound}
use Rattle.linear_arith.specs.Values.AreValues.{begun, idle, next}

one_positive : (z : ℤ) → z ≡ pos 1 → pos 0 <ℤ z
one_positive z e = subst (λ (w : ℤ). pos 0 <ℤ w) (sym e) (omega (arith, ints))

chosen_positive : (found : List Inequality) (before : List ℕ) (values : List Fraction) (value : Fraction) → IsChosen found before values value → pos 0 <ℤ value.denominator
chosen_positive found before values value (whole one met near) = one_positive value.denominator one
chosen_positive found before values value (bound none positive lowest met rest is same) = positive

pub positive_of : (found : List Inequality) (unknowns before : List ℕ) (values : List Fraction) → AreValues found unknowns before values → ArePositive values
positive_of found unknowns _ _ begun = All-nil (λ (v : Fraction). pos 0 <ℤ v.denominator)
positive_of found unknowns _ _ (idle before values value h n absent nothing one) = All-push (λ (v : Fraction). pos 0 <ℤ v.denominator) values value (positive_of found unknowns before values h) (one_positive value.denominator one)
positive_of found unknowns _ _ (next before values value h n chosen) = All-push (λ (v : Fraction). pos 0 <ℤ v.denominator) values value (positive_of found unknowns (before ++ value.unknown ∷ []) values h) (chosen_positive found before values value chosen)

abbrev pub HaveDifferentUnknowns : List Fraction → Type 0
HaveDifferentUnknowns values = AllPairs (λ first second. first.unknown ≢ second.unknown) values

different_more : (values : List Fraction) (value : Fraction) → HaveDifferentUnknowns values → HasNoValue values value.unknown → HaveDifferentUnknowns (values ++ value ∷ [])
different_more values value d n = all_pairs_push (λ (a b : Fraction). a.unknown ≢ b.unknown) values value d n

pub different_of : (found : List Inequality) (unknowns before : List ℕ) (values : List Fraction) → AreValues found unknowns before values → HaveDifferentUnknowns values
different_of found unknowns _ _ begun = λ i j d l m. absurd (omega (arith, m))
different_of found unknowns _ _ (idle before values value h n absent nothing one) = different_more values value (different_of found unknowns before values h) n
different_of found unknowns _ _ (next before values value h n chosen) = different_more values value (different_of found unknowns (before ++ value.unknown ∷ []) values h) n

-- the unknowns still to be chosen are among the eliminated ones
still_among : (found : List Inequality) (unknowns before : List ℕ) (values : List Fraction) → AreValues found unknowns before values → (u : ℕ) → Contains before u → Contains unknowns u
still_among found unknowns _ _ begun u c = c
still_among found unknowns _ _ (idle before values value h n absent nothing one) u c = still_among found unknowns before values h u c
still_among found unknowns _ _ (next before values value h n chosen) u c = still_among found unknowns (before ++ value.unknown ∷ []) values h u (Contains-append_left before (value.unknown ∷ []) u c)

-- how the last value was chosen
pub data IsLastValue (found : List Inequality) (unknowns before : List ℕ) (values : List Fraction) (value : Fraction) : Type 0 where
  idles : AreValues found unknowns before values → (Contains unknowns value.unknown → ⊥) → value.numerator ≡ pos 0 → value.denominator ≡ pos 1 → IsLastValue found unknowns before values value
  follows : AreValues found unknowns (before ++ value.unknown ∷ []) values → IsChosen found before values value → IsLastValue found unknowns before values value

not_empty : (values : List Fraction) (value : Fraction) → [] ≡ values ++ value ∷ [] → ⊥
not_empty values value e = let l = ap length e ∙ length_push values value in absurd (omega (arith, l))

last_in : (found : List Inequality) (unknowns before : List ℕ) (all values : List Fraction) (value : Fraction) → AreValues found unknowns before all → all ≡ values ++ value ∷ [] → IsLastValue found unknowns before values value
last_in found unknowns _ _ values value begun e = absurd (not_empty values value e)
last_in found unknowns _ _ values value (idle before vs v h n absent nothing one) e =
    let s = same_from_push vs values v value e in
    subst (λ (xs : List Fraction). IsLastValue found unknowns before xs value) s.0 (subst (λ (x : Fraction). IsLastValue found unknowns before vs x) s.1 (idles h absent nothing one))
last_in found unknowns _ _ values value (next before vs v h n chosen) e =
    let s = same_from_push vs values v value e in
    subst (λ (xs : List Fraction). IsLastValue found unknowns before xs value) s.0 (subst (λ (x : Fraction). IsLastValue found unknowns before vs x) s.1 (follows h chosen))

pub last_value : (found : List Inequality) (unknowns before : List ℕ) (values : List Fraction) (value : Fraction) → AreValues found unknowns before (values ++ value ∷ []) → IsLastValue found unknowns before values value
last_value found unknowns before values value h = last_in found unknowns before (values ++ value ∷ []) values value h refl

none_chosen : (found : List Inequality) (unknowns before : List ℕ) (all : List Fraction) → AreValues found unknowns before all → all ≡ [] → unknowns ≡ before
none_chosen found unknowns _ _ begun e = refl
none_chosen found unknowns _ _ (idle before vs v h n absent nothing one) e = absurd (not_empty vs v (sym e))
none_chosen found unknowns _ _ (next before vs v h n chosen) e = absurd (not_empty vs v (sym e))

-- the values determine which unknowns are still to be chosen
pub one_before : (found : List Inequality) (unknowns first second : List ℕ) (values : List Fraction) → AreValues found unknowns first values → AreValues found unknowns second values → first ≡ second
one_before found unknowns _ second _ begun k = none_chosen found unknowns second [] k refl
one_before found unknowns _ second _ (idle before vs v h n absent nothing one) k = elim (last_value found unknowns second vs v k) [
  | idles r other z o ↦ one_before found unknowns before second vs h r
  | follows r chosen ↦ absurd (absent (still_among found unknowns (second ++ v.unknown ∷ []) vs r v.unknown (Contains-push second v.unknown)))
]
one_before found unknowns _ second _ (next before vs v h n chosen) k = elim (last_value found unknowns second vs v k) [
  | idles r absent z o ↦ absurd (absent (still_among found unknowns (before ++ v.unknown ∷ []) vs h v.unknown (Contains-push before v.unknown)))
  | follows r other ↦ (same_from_push before second v.unknown v.unknown (one_before found unknowns (before ++ v.unknown ∷ []) (second ++ v.unknown ∷ []) vs h r)).0
]

-- the first ones of the values are so chosen, too
pub record AreSoFar (found : List Inequality) (unknowns : List ℕ) (values : List Fraction) : Type 0 where
  pub before : List ℕ
  pub are_values : AreValues found unknowns before values

on_the_way : (found : List Inequality) (unknowns before : List ℕ) (values : List Fraction) (value : Fraction) (k : ℕ) → k ≤ length (values ++ value ∷ []) → AreValues found unknowns before (values ++ value ∷ []) → (k ≤ length values → AreSoFar found unknowns (take k values)) → AreSoFar found unknowns (take k (values ++ value ∷ []))
on_the_way found unknowns before values value k l h earlier = elim (below_or_past (length values) k) [
  | inl past ↦ record { before = before; are_values = (let len = length_push values value in subst (λ (vs : List Fraction). AreValues found unknowns before vs) (sym (take_all k (values ++ value ∷ []) (omega (arith, past, len)))) h) }
  | inr within ↦ subst (λ (vs : List Fraction). AreSoFar found unknowns vs) (sym (take-append-le k values (value ∷ []) within)) (earlier within)
]

until : (found : List Inequality) (unknowns before : List ℕ) (values : List Fraction) (k : ℕ) → k ≤ length values → AreValues found unknowns before values → AreSoFar found unknowns (take k values)
until found unknowns _ _ zero l begun = record { before = unknowns; are_values = begun }
until found unknowns _ _ (suc k) l begun = absurd (omega (arith, l))
until found unknowns _ _ k l (idle before vs v h n absent nothing one) = on_the_way found unknowns before vs v k l (idle before vs v h n absent nothing one) (λ m. until found unknowns before vs k m h)
until found unknowns _ _ k l (next before vs v h n chosen) = on_the_way found unknowns before vs v k l (next before vs v h n chosen) (λ m. until found unknowns (before ++ v.unknown ∷ []) vs k m h)

-- the first `count` values are chosen, and the first `left` unknowns are still to be chosen
pub record IsChoosing (found : List Inequality) (unknowns : List ℕ) (values : List Fraction) (count left : ℕ) : Type 0 where
  pub within : left ≤ length unknowns
  pub are_values : AreValues found unknowns (take left unknowns) (take count values)

-- the value may come next
pub data IsStep (found : List Inequality) (unknowns : List ℕ) (left : ℕ) (values : List Fraction) (value : Fraction) : Type 0 where
  rests : (Contains unknowns value.unknown → ⊥) → value.numerator ≡ pos 0 → value.denominator ≡ pos 1 → IsStep found unknowns left values value
  steps : (less : ℕ) → less + 1 ≡ left → get_or unknowns less 0 ≡ value.unknown → IsChosen found (take less unknowns) values value → IsStep found unknowns left values value

pub none_present : (found : List Inequality) (unknowns : List ℕ) (values : List Fraction) (left : ℕ) → left ≡ length unknowns → IsChoosing found unknowns values 0 left
none_present found unknowns values left e = record {
  within = omega (arith, e);
  are_values = subst (λ (us : List ℕ). AreValues found unknowns us []) (sym (take_all left unknowns (omega (arith, e)))) begun;
}

abbrev blank : Fraction
blank = record { unknown = 0; numerator = pos 0; denominator = pos 0 }

with_last : (unknowns : List ℕ) (less left : ℕ) → less + 1 ≡ left → left ≤ length unknowns → take left unknowns ≡ take less unknowns ++ get_or unknowns less 0 ∷ []
with_last unknowns less left e l = subst (λ (n : ℕ). take n unknowns ≡ take less unknowns ++ get_or unknowns less 0 ∷ []) e (take_more unknowns less 0 (omega (arith, e, l)))

-- the same if the values are right
steps_from : (found : List Inequality) (unknowns before : List ℕ) (left : ℕ) (values : List Fraction) (value : Fraction) → left ≤ length unknowns → take left unknowns ≡ before ++ value.unknown ∷ [] → IsChosen found before values value → IsStep found unknowns left values value
steps_from found unknowns before zero values value l e chosen = let n = ap length e ∙ length_push before value.unknown in absurd (omega (arith, n))
steps_from found unknowns before (suc less) values value l e chosen =
    let is : less + 1 ≡ suc less = omega arith in
    let s = same_from_push (take less unknowns) before (get_or unknowns less 0) value.unknown (sym (with_last unknowns less (suc less) is l) ∙ e) in
    steps less is s.1 (subst (λ (us : List ℕ). IsChosen found us values value) (sym s.0) chosen)

pub step_of : (found : List Inequality) (unknowns before : List ℕ) (values : List Fraction) (i left : ℕ) (value : Fraction) → i < length values → value ≡ get_or values i value → IsChoosing found unknowns values i left → AreValues found unknowns before values → IsStep found unknowns left (take i values) value
step_of found unknowns before values i left value l is s all =
    let vs = take i values in
    let at = until found unknowns before values (i + 1) (omega (arith, l)) all in
    let more : take (i + 1) values ≡ vs ++ value ∷ [] = take_more values i value l ∙ ap (λ (v : Fraction). vs ++ v ∷ []) (sym is) in
    let read : AreValues found unknowns at.before (vs ++ value ∷ []) = subst (λ (xs : List Fraction). AreValues found unknowns at.before xs) more at.are_values in
    elim (last_value found unknowns at.before vs value read) [
      | idles r absent nothing one ↦ rests absent nothing one
      | follows r chosen ↦ steps_from found unknowns at.before left vs value s.within (one_before found unknowns (take left unknowns) (at.before ++ value.unknown ∷ []) vs s.are_values r) chosen
    ]

-- one more value
no_value : (values : List Fraction) (i : ℕ) (value : Fraction) → i < length values → value ≡ get_or values i value → HaveDifferentUnknowns values → HasNoValue (take i values) value.unknown
no_value values i value l is d k e m same =
    let short = length-take-le i values (omega (arith, l)) in
    let before : k < i = omega (arith, m, short) in
    d k i e before l (ap (λ (v : Fraction). v.unknown) (sym (get_or-take i values k e before)) ∙ same ∙ ap (λ (v : Fraction). v.unknown) (is ∙ get_or-any_default values i value e l))

pub stands_idle : (found : List Inequality) (unknowns : List ℕ) (values : List Fraction) (i left : ℕ) (value : Fraction) → i < length values → value ≡ get_or values i value → HaveDifferentUnknowns values → (Contains unknowns value.unknown → ⊥) → value.numerator ≡ pos 0 → value.denominator ≡ pos 1 → IsChoosing found unknowns values i left → IsChoosing found unknowns values (i + 1) left
stands_idle found unknowns values i left value l is d absent nothing one s =
    let vs = take i values in
    let more : take (i + 1) values ≡ vs ++ value ∷ [] = take_more values i value l ∙ ap (λ (v : Fraction). vs ++ v ∷ []) (sym is) in
    record {
      within = s.within;
      are_values = subst (λ (xs : List Fraction). AreValues found unknowns (take left unknowns) xs) (sym more) (idle (take left unknowns) vs value s.are_values (no_value values i value l is d) absent nothing one);
    }

pub stands_next : (found : List Inequality) (unknowns : List ℕ) (values : List Fraction) (i less left : ℕ) (value : Fraction) → i < length values → value ≡ get_or values i value → HaveDifferentUnknowns values → less + 1 ≡ left → get_or unknowns less 0 ≡ value.unknown → IsChosen found (take less unknowns) (take i values) value → IsChoosing found unknowns values i left → IsChoosing found unknowns values (i + 1) less
stands_next found unknowns values i less left value l is d e same chosen s =
    let vs = take i values in
    let us = take less unknowns in
    let more : take (i + 1) values ≡ vs ++ value ∷ [] = take_more values i value l ∙ ap (λ (v : Fraction). vs ++ v ∷ []) (sym is) in
    let parts : take left unknowns ≡ us ++ value.unknown ∷ [] = with_last unknowns less left e s.within ∙ ap (λ (n : ℕ). us ++ n ∷ []) same in
    let m = s.within in
    record {
      within = omega (arith, e, m);
      are_values = subst (λ (xs : List Fraction). AreValues found unknowns us xs) (sym more) (next us vs value (subst (λ (ns : List ℕ). AreValues found unknowns ns vs) parts s.are_values) (no_value values i value l is d) chosen);
    }

-- at the end no unknown is still to be chosen
pub present_ends : (found : List Inequality) (unknowns : List ℕ) (values : List Fraction) (i left : ℕ) (b : Bool) → length values ≤ i → Decides b (left ≡ 0) → IsChoosing found unknowns values i left → Decides b (AreValues found unknowns [] values)
present_ends found unknowns values i left b l d s =
    let whole : AreValues found unknowns (take left unknowns) values = subst (λ (xs : List Fraction). AreValues found unknowns (take left unknowns) xs) (take_all i values l) s.are_values in (
      λ t. subst (λ (n : ℕ). AreValues found unknowns (take n unknowns) values) (d.0 t) whole,
      λ h. d.1 (let len = length-take-le left unknowns s.within in let n = ap length (one_before found unknowns (take left unknowns) [] values whole h) in omega (arith, len, n)),
    )

-- what refutes the next value
pub not_chosen : (found : List Inequality) (unknowns : List ℕ) (left less : ℕ) (values : List Fraction) (value : Fraction) → less + 1 ≡ left → left ≤ length unknowns → get_or unknowns less 0 ≡ value.unknown → (IsChosen found (take less unknowns) values value → ⊥) → IsStep found unknowns left values value → ⊥
not_chosen found unknowns left less values value e l same refuses (rests absent nothing one) = absent (subst (λ (u : ℕ). Contains unknowns u) same (Contains-get_or unknowns less 0 (omega (arith, e, l))))
not_chosen found unknowns left less values value e l same refuses (steps other f at chosen) = refuses (subst (λ (n : ℕ). IsChosen found (take n unknowns) values value) (let g : other ≡ less = omega (arith, e, f) in g) chosen)

pub not_idle : (found : List Inequality) (unknowns : List ℕ) (left : ℕ) (values : List Fraction) (value : Fraction) → ((less : ℕ) → less + 1 ≡ left → get_or unknowns less 0 ≡ value.unknown → ⊥) → ((Contains unknowns value.unknown → ⊥) → value.numerator ≡ pos 0 → value.denominator ≡ pos 1 → ⊥) → IsStep found unknowns left values value → ⊥
not_idle found unknowns left values value not_last refuses (rests absent nothing one) = refuses absent nothing one
not_idle found unknowns left values value not_last refuses (steps less e same chosen) = not_last less e same

pub at_position : (values : List Fraction) (i : ℕ) (d : Fraction) → i < length values → get_or values i d ≡ get_or values i (get_or values i d)
at_position values i d l = get_or-any_default values i d (get_or values i d) l
