-- Numbers of the types of type variables.
use Rattle.std.proofs.Common.{◌≡◌, ℕ, zero, suc, ◌+◌, ◌-◌, ◌<◌, ◌≤◌, List, [], ◌∷◌, ◌++◌, length, length-append, map, take, get_or, refl, sym, ap, subst, ◌∙◌, inl, inr, arith, Option, Some, None, get_or-set_other, get_or-set_same}
use Rattle.std.specs.Prelude.{slice_index}
use Rattle.std.proofs.lemmas.Bool.Decides.{eqb_tells}
use Rattle.std.proofs.lemmas.List.{get_or_default, get_or_push, get_or_append_left, get_or-take, length-take}
use Rattle.std.proofs.Math.ListN.{set, length-set}
use Rattle.base.specs.TypeData.{TypeData}
use Rattle.base.specs.TypeData.{types_of}
use Rattle.typing_rules.specs.Sorts.{made}
use Rattle.typing_rules.specs.declared.sort.Wrap.{Wrap}
use Rattle.unification.specs.declared.type_variables.slots.Wrap.{Wrap as VariableWrap}
use Rattle.unification.specs.declared.type_variables.slots.Group.{Group}
use Rattle.unification.specs.Slots.{Typing, wrapped, grouped, list_at, Meets, Fits, TermFits, TermWithin, SlotFits, slot_at}
use Rattle.unification.specs.Ranks.{EachIn, EachLed}
use Rattle.unification.specs.Agree.{IsForced}
use Rattle.unification.specs.declared.type_variables.slots.Sort.{Sort}
use Rattle.unification.specs.declared.type_variables.slots.Term.{Term}
use Rattle.unification.specs.declared.type_variables.slots.Term.TheVariants.{Variable, Closed, Made, Grouped}
use Rattle.unification.specs.declared.type_variables.slots.Slot.{Slot}
use Rattle.unification.specs.declared.type_variables.slots.Slot.TheVariants.{Open, Bound}
use Rattle.unification.proofs.Asking.{wrapped_same, grouped_same}
use Rattle.unification.proofs.Becoming.{bound_says}
use Rattle.unification.proofs.Refill.{distinguished}
use Rattle.typing_rules.specs.declared.type_pool.PoolType.{PoolType}
use Rattle.typing_rules.specs.Pools.{type_at, types}
use Rattle.unification.specs.Ranked.{rank_at, HasLower, IsRanking}
use Rattle.unification.proofs.Ranking.{each_led}
use Rattle.unification.specs.Numbers.{Keeps, number_at, AreParts, IsInPool, IsTypeAt, SomeIn, TermSays, NumberSays, IsBefore, IsOrder, AreNumbers, TableSays}
use Rattle.unification.proofs.Refilling.{small, wide, small_is, wide_is, widths_differ}

-- ---- consecutive variables

pub parts_none : (numbers : List (Option ℕ)) (first : ℕ) → AreParts numbers first 0 []
parts_none numbers first = record {
  same_length = refl;
  each = λ i lt. absurd (omega (arith, lt));
}

-- one more variable
pub parts_push : (numbers : List (Option ℕ)) (first i n : ℕ) (parts more : List ℕ) → AreParts numbers first i parts → number_at numbers (first + i) ≡ Some n → more ≡ parts ++ n ∷ [] → AreParts numbers first (i + 1) more
parts_push numbers first i n parts more are at e = subst (λ (ps : List ℕ). AreParts numbers first (i + 1) ps) (sym e) (record {
  same_length = length-append parts (n ∷ []) ∙ ap (λ (m : ℕ). m + 1) are.same_length;
  each = λ j lt. elim (eqb_tells j i) [
    | inl same ↦ ap (λ (k : ℕ). number_at numbers (first + k)) same.1 ∙ at ∙ ap Some (sym (get_or_push parts n 0 j (are.same_length ∙ sym same.1)))
    | inr ne ↦ (let less : j < i = omega (arith, lt, ne.1) in
        are.each j less ∙ ap Some (sym (get_or_append_left parts (n ∷ []) 0 j (subst (λ (m : ℕ). j < m) (sym are.same_length) less))))
  ];
})

pub parts_below : (numbers : List (Option ℕ)) (pool : List PoolType) (first count : ℕ) (parts : List ℕ) → AreParts numbers first count parts →
    ((q : ℕ) → first ≤ q → q < first + count → IsInPool pool (number_at numbers q)) → (k d : ℕ) → k < length parts → get_or parts k d < length pool
parts_below numbers pool first count parts are h k d lt =
    let inside : k < count = subst (λ (m : ℕ). k < m) are.same_length lt in
    let there : slice_index parts k < length pool = subst (λ (o : Option ℕ). IsInPool pool o) (are.each k inside) (h (first + k) (omega arith) (omega (arith, inside))) in
    subst (λ (x : ℕ). x < length pool) (sym (get_or_default parts k d 0 lt)) there

types_at : (t : Typing) (f : ℕ → TypeData) (first : ℕ) (parts : List ℕ) → ((i : ℕ) → i < length parts → t (first + i) ≡ f (slice_index parts i)) → list_at t first (length parts) ≡ map f parts
types_at t f first [] h = refl
types_at t f first (n ∷ parts) h =
    let here : t first ≡ f n = ap t (let e : first ≡ first + 0 = omega arith in e) ∙ h 0 (omega arith) in
    let rest : list_at t (first + 1) (length parts) ≡ map f parts =
    types_at t f (first + 1) parts (λ i lt. ap t (let e : (first + 1) + i ≡ first + suc i = omega arith in e) ∙ h (suc i) (omega (arith, lt))) in
    λ j. here j ∷ rest j

-- ---- one variable

fits_within : (n p : ℕ) (x : Term) → p < n → TermFits n p x → TermWithin n x
fits_within n p (Variable q) lt h = omega (arith, lt, h)
fits_within n p (Closed of) lt h = tt
fits_within n p (Made w q) lt h = h
fits_within n p (Grouped g first count) lt h = h

pub term_within : (slots : List Slot) (p : ℕ) (x : Term) (n : ℕ) → Fits slots → p < length slots → n ≡ length slots → slot_at slots p ≡ Bound x → TermWithin n x
term_within slots p x n fits lt e is = subst (λ (k : ℕ). TermWithin k x) (sym e)
    (fits_within (length slots) p x lt (let h : TermFits (length slots) p x = subst (λ (y : Slot). SlotFits (length slots) p y) is (fits.each p lt) in h))

in_pool : (slots : List Slot) (pool : List PoolType) (q : ℕ) (o : Option ℕ) → NumberSays slots pool q o → IsInPool pool o
in_pool slots pool q None h = tt
in_pool slots pool q (Some n) h = h.within

pub parts_in_pool : (slots : List Slot) (pool : List PoolType) (numbers : List (Option ℕ)) (p : ℕ) (x : Term) → slot_at slots p ≡ Bound x →
    EachLed (λ q. NumberSays slots pool q (number_at numbers q)) (slot_at slots p) → EachIn (λ q. IsInPool pool (number_at numbers q)) x
parts_in_pool slots pool numbers p x e h =
    each_led (λ q. NumberSays slots pool q (number_at numbers q)) (λ q. IsInPool pool (number_at numbers q)) (Bound x) (λ q is. in_pool slots pool q (number_at numbers q) is)
    (subst (λ (y : Slot). EachLed (λ q. NumberSays slots pool q (number_at numbers q)) y) e h)

type_at_number : (slots : List Slot) (pool : List PoolType) (q : ℕ) (o : Option ℕ) → NumberSays slots pool q o → (t : Typing) → Meets slots t → IsTypeAt pool (t q) o
type_at_number slots pool q None h t m = tt
type_at_number slots pool q (Some n) h t m = h.is t m

parts_have : (slots : List Slot) (pool : List PoolType) (numbers : List (Option ℕ)) (x : Term) → EachIn (λ q. NumberSays slots pool q (number_at numbers q)) x →
    (t : Typing) → Meets slots t → EachIn (λ q. IsTypeAt pool (t q) (number_at numbers q)) x
parts_have slots pool numbers x h t m =
    each_led (λ q. NumberSays slots pool q (number_at numbers q)) (λ q. IsTypeAt pool (t q) (number_at numbers q)) (Bound x) (λ q is. type_at_number slots pool q (number_at numbers q) is t m) h

-- ---- equal types have equal parts

cons_same : (a b : TypeData) (as_ bs : List TypeData) → a ∷ as_ ≡ b ∷ bs → (a ≡ b) × (as_ ≡ bs)
cons_same a b as_ bs e = (cc, cc)

list_same : (t u : Typing) (first count : ℕ) → list_at t first count ≡ list_at u first count → (q : ℕ) → first ≤ q → q < first + count → t q ≡ u q
list_same t u first zero e q a b = absurd (omega (arith, a, b))
list_same t u first (suc count) e q a b =
    let both = cons_same (t first) (u first) (list_at t (first + 1) count) (list_at u (first + 1) count) e in
    elim (eqb_tells q first) [
      | inl same ↦ ap t same.1 ∙ both.0 ∙ ap u (sym same.1)
      | inr ne ↦ list_same t u (first + 1) count both.1 q (omega (arith, a, ne.1)) (omega (arith, b))
    ]

some_each : (P Q : ℕ → Type 0) (x : Term) → SomeIn P x → EachIn Q x → (q : ℕ) × (P q × Q q)
some_each P Q (Variable q) h g = (q, (h, g))
some_each P Q (Closed of) h g = absurd h
some_each P Q (Made w q) h g = (q, (h, g))
some_each P Q (Grouped c first count) h g = (h.0, (h.1.2, g h.0 h.1.0 h.1.1))

both_in : (P Q : ℕ → Type 0) (x : Term) → EachIn P x → EachIn Q x → EachIn (λ q. P q × Q q) x
both_in P Q (Variable q) h g = (h, g)
both_in P Q (Closed of) h g = tt
both_in P Q (Made w q) h g = (h, g)
both_in P Q (Grouped c first count) h g = λ q a b. (h q a b, g q a b)

forced_in : (slots : List Slot) (p : ℕ) (x : Term) → p < length slots → slot_at slots p ≡ Bound x → IsForced (Meets slots) p → EachIn (λ q. IsForced (Meets slots) q) x
forced_in slots p (Variable q) lt e f = λ t u mt mu. sym (bound_says slots p (Variable q) t lt e mt) ∙ f t u mt mu ∙ bound_says slots p (Variable q) u lt e mu
forced_in slots p (Closed of) lt e f = tt
forced_in slots p (Made w q) lt e f = λ t u mt mu. wrapped_same w (t q) (u q) (sym (bound_says slots p (Made w q) t lt e mt) ∙ f t u mt mu ∙ bound_says slots p (Made w q) u lt e mu)
forced_in slots p (Grouped g first count) lt e f = λ q a b t u mt mu.
    list_same t u first count (grouped_same g (list_at t first count) (list_at u first count)
    (sym (bound_says slots p (Grouped g first count) t lt e mt) ∙ f t u mt mu ∙ bound_says slots p (Grouped g first count) u lt e mu)) q a b

-- a variable that refers to one that is not forced is not forced
none_led : (slots : List Slot) (pool : List PoolType) (numbers : List (Option ℕ)) (p : ℕ) (x : Term) → p < length slots → slot_at slots p ≡ Bound x →
    EachIn (λ q. NumberSays slots pool q (number_at numbers q)) x → SomeIn (λ q. number_at numbers q ≡ None) x → (t : Typing) → Meets slots t → IsForced (Meets slots) p → ⊥
none_led slots pool numbers p x lt e says some t m forced =
    let s = some_each (λ q. number_at numbers q ≡ None) (λ q. NumberSays slots pool q (number_at numbers q) × IsForced (Meets slots) q) x some
    (both_in (λ q. NumberSays slots pool q (number_at numbers q)) (λ q. IsForced (Meets slots) q) x says (forced_in slots p x lt e forced)) in
    let none : NumberSays slots pool s.0 None = subst (λ (o : Option ℕ). NumberSays slots pool s.0 o) s.1.0 s.1.1.0 in
    none t m s.1.1.1

pub variable_says : (slots : List Slot) (old new : List PoolType) (numbers : List (Option ℕ)) (p : ℕ) (x : Term) (found : Option ℕ) → p < length slots → slot_at slots p ≡ Bound x →
    EachLed (λ q. NumberSays slots old q (number_at numbers q)) (slot_at slots p) → TermSays old new numbers x found → NumberSays slots new p found
variable_says slots old new numbers p x None lt e h says = λ t m forced.
    none_led slots old numbers p x lt e (subst (λ (y : Slot). EachLed (λ q. NumberSays slots old q (number_at numbers q)) y) e h) says t m forced
variable_says slots old new numbers p x (Some n) lt e h says = record {
  within = says.0;
  is = λ t m. bound_says slots p x t lt e m ∙ says.1 t (parts_have slots old numbers x (subst (λ (y : Slot). EachLed (λ q. NumberSays slots old q (number_at numbers q)) y) e h) t m);
}

-- an open variable is not forced
pub open_says_none : (slots : List Slot) (pool : List PoolType) (p : ℕ) (s : Sort) → Fits slots → slot_at slots p ≡ Open s → NumberSays slots pool p None
open_says_none slots pool p s fits e = λ t m forced. distinguished (λ a. a) small wide small_is wide_is slots p p s fits e (λ v w. refl) widths_differ t m forced

-- ---- one term

pub variable_term : (old : List PoolType) (numbers : List (Option ℕ)) (q : ℕ) (found : Option ℕ) → IsInPool old (number_at numbers q) → found ≡ number_at numbers q → TermSays old old numbers (Variable q) found
variable_term old numbers q None h e = sym e
variable_term old numbers q (Some n) h e = (
  subst (λ (o : Option ℕ). IsInPool old o) (sym e) h,
  λ t is. subst (λ (o : Option ℕ). IsTypeAt old (t q) o) (sym e) is,
)

pub wrapped_term : (numbers : List (Option ℕ)) (old new : List PoolType) (of : Wrap) (wrap : VariableWrap) (p m n : ℕ) → ((t : TypeData) → made of t ≡ wrapped wrap t) → number_at numbers p ≡ Some m →
    n < length new → type_at (types new) n ≡ made of (type_at (types old) m) → TermSays old new numbers (Made wrap p) (Some n)
wrapped_term numbers old new of wrap p m n same at within is = (
  within,
  λ t h. ap (wrapped wrap) (let e : t p ≡ type_at (types old) m = subst (λ (o : Option ℕ). IsTypeAt old (t p) o) at h in e) ∙ sym (same (type_at (types old) m)) ∙ sym is,
)

pub grouped_term : (numbers : List (Option ℕ)) (old new : List PoolType) (group : Group) (first count : ℕ) (parts : List ℕ) (n : ℕ) → AreParts numbers first count parts →
    n < length new → type_at (types new) n ≡ grouped group (types_of (map (type_at (types old)) parts)) → TermSays old new numbers (Grouped group first count) (Some n)
grouped_term numbers old new group first count parts n are within is = (
  within,
  λ t h. ap (λ (m : ℕ). grouped group (types_of (list_at t first m))) (sym are.same_length)
      ∙ ap (λ (ts : List TypeData). grouped group (types_of ts)) (types_at t (type_at (types old)) first parts (λ i lt.
      let inside : i < count = subst (λ (m : ℕ). i < m) are.same_length lt in
      let e : t (first + i) ≡ type_at (types old) (slice_index parts i) = subst (λ (o : Option ℕ). IsTypeAt old (t (first + i)) o) (are.each i inside) (h (first + i) (omega arith) (omega (arith, inside))) in e))
      ∙ sym is,
)

-- ---- all variables

pub is_order : (slots : List Slot) (ranks order : List ℕ) → IsRanking slots ranks order → IsOrder slots order
is_order slots ranks order is = record {
  within = λ k lt. (is.ranked.listed k lt).0;
  behind = λ k lt.
      let p : ℕ = slice_index order k in
      let at = is.ranked.listed k lt in
      each_led (HasLower ranks (rank_at ranks p)) (IsBefore order k) (slot_at slots p)
      (λ q h. let j : ℕ = rank_at ranks q - 1 in
      let e : rank_at ranks q ≡ j + 1 = (let a = h.1 in omega (arith, a)) in
      (j, ((let a = h.2 in let b = at.1 in omega (arith, e, a, b)), is.ranked.placed q j (subst (λ (n : ℕ). q < n) is.ranked.same_length h.0) e)))
      (is.ranked.each p at.0 (let b = at.1 in omega (arith, b)));
  all = λ p lt.
      let j : ℕ = rank_at ranks p - 1 in
      let pos = is.all p lt in
      let e : rank_at ranks p ≡ j + 1 = omega (arith, pos) in
      (j, ((let m = is.ranked.most p lt in omega (arith, e, m)), is.ranked.placed p j lt e));
}

pub order_parts : (slots : List Slot) (pool : List PoolType) (order : List ℕ) (numbers : List (Option ℕ)) (k : ℕ) → IsOrder slots order → AreNumbers slots pool order numbers k → k < length order →
    EachLed (λ q. NumberSays slots pool q (number_at numbers q)) (slot_at slots (slice_index order k))
order_parts slots pool order numbers k is are lt =
    each_led (IsBefore order k) (λ q. NumberSays slots pool q (number_at numbers q)) (slot_at slots (slice_index order k))
    (λ q h. subst (λ (x : ℕ). NumberSays slots pool x (number_at numbers x)) h.1.1 (are.each h.0 h.1.0)) (is.behind k lt)

pub no_numbers : (slots : List Slot) (pool : List PoolType) (order : List ℕ) (numbers : List (Option ℕ)) → length numbers ≡ length slots → AreNumbers slots pool order numbers 0
no_numbers slots pool order numbers e = record {
  same_length = e;
  each = λ k lt. absurd (omega (arith, lt));
}

still : {old new : List PoolType} (slots : List Slot) (p : ℕ) (o : Option ℕ) → Keeps old new → NumberSays slots old p o → NumberSays slots new p o
still slots p None k h = h
still slots p (Some n) k h = record {
  within = (let a = h.within in let b = k.longer in omega (arith, a, b));
  is = λ t m. h.is t m ∙ sym (k.same n h.within);
}

pub number_more : (slots : List Slot) (old new : List PoolType) (order : List ℕ) (numbers : List (Option ℕ)) (top : ℕ) (found : Option ℕ) → IsOrder slots order → AreNumbers slots old order numbers top →
    Keeps old new → top < length order → NumberSays slots new (slice_index order top) found → AreNumbers slots new order (set numbers (slice_index order top) found) (top + 1)
number_more slots old new order numbers top found is are k lt h =
    let at : ℕ = slice_index order top in
    let inside : at < length numbers = subst (λ (m : ℕ). at < m) (sym are.same_length) (is.within top lt) in
    let here : number_at (set numbers at found) at ≡ found = get_or-set_same numbers at found None inside in
    let right : NumberSays slots new at (number_at (set numbers at found) at) = subst (λ (o : Option ℕ). NumberSays slots new at o) (sym here) h in
    record {
      same_length = length-set numbers at found ∙ are.same_length;
      each = λ j lj. elim (eqb_tells (slice_index order j) at) [
        | inl e ↦ subst (λ (q : ℕ). NumberSays slots new q (number_at (set numbers at found) q)) (sym e.1) right
        | inr e ↦ subst (λ (o : Option ℕ). NumberSays slots new (slice_index order j) o) (sym (get_or-set_other numbers at (slice_index order j) found None e.1))
            (still slots (slice_index order j) (number_at numbers (slice_index order j)) k (are.each j (elim (eqb_tells j top) [
              | inl same ↦ absurd (e.1 (ap (slice_index order) same.1))
              | inr other ↦ omega (arith, lj, other.1)
            ])))
      ];
    }

-- the first so many variables
pub table_says : (slots : List Slot) (pool : List PoolType) (order : List ℕ) (numbers found : List (Option ℕ)) (variables : ℕ) → IsOrder slots order → AreNumbers slots pool order numbers (length order) →
    variables ≤ length slots → found ≡ take variables numbers → TableSays slots variables pool found
table_says slots pool order numbers found variables is are le e = subst (λ (ns : List (Option ℕ)). TableSays slots variables pool ns) (sym e) (record {
  same_length = (let a = length-take variables numbers in let b = are.same_length in omega (arith, a, b, le));
  each = λ p lt.
      let h = is.all p (omega (arith, lt, le)) in
      let says : NumberSays slots pool p (number_at numbers p) = subst (λ (x : ℕ). NumberSays slots pool x (number_at numbers x)) h.1.1 (are.each h.0 h.1.0) in
      subst (λ (o : Option ℕ). NumberSays slots pool p o) (sym (get_or-take variables numbers p None lt)) says;
})
