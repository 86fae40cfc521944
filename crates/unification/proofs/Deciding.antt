-- The results, from what the slots know.
use Rattle.std.proofs.Common.{◌≡◌, ℕ, zero, suc, ◌<◌, false, List, [], ◌∷◌, ◌+◌, length, map, All, get_or, refl, sym, ap, subst, ◌∙◌, inl, inr, arith, Option, Some, None}
use Rattle.std.specs.Prelude.{slice_index, Contains}
use Rattle.std.proofs.lemmas.List.{get_or_default}
use Rattle.base.specs.TypeData.{TypeData, IntType}
use Rattle.base.specs.declared.types.Width.{Width}
use Rattle.unification.specs.Slots.{Typing, Meets, Fits, IsRoot, slot_at}
use Rattle.unification.specs.Ranks.{IsRank, refill_by}
use Rattle.unification.specs.Knows.{Knows}
use Rattle.unification.specs.declared.type_variables.slots.Sort.TheVariants.{Any, Single, Value, Integer}
use Rattle.unification.specs.declared.type_variables.slots.Term.TheVariants.{Variable, Closed, Made, Grouped}
use Rattle.unification.specs.declared.type_variables.slots.Slot.{Slot}
use Rattle.unification.specs.declared.type_variables.slots.Slot.TheVariants.{Open, Bound}
use Rattle.unification.proofs.Becoming.{bound_says}
use Rattle.unification.proofs.Refill.{refill_by-open}
use Rattle.unification.specs.Ranked.{rank_at, IsRanking}
use Rattle.typing_rules.specs.Sorts.{is_integer}
use Rattle.typing_rules.specs.Rules.{HasOpenHead}
use Rattle.typing_rules.specs.Settings.{u64_type, unit_type}
use Rattle.typing_rules.specs.Answers.{System, Typings, IsSettledTyping, HasType, IsTyped, IsAmbiguous, IsUntypable}
use Rattle.typing_rules.specs.declared.type_pool.PoolType.{PoolType}
use Rattle.typing_rules.specs.Pools.{type_at, types}
use Rattle.unification.specs.Roots.{IsRootOf, AreRoots}
use Rattle.unification.specs.Given.{IsGiven, GivesNoInteger, WidthOf, Gives, AnyVariable, IsDropped}
use Rattle.unification.specs.Numbers.{number_at, AreParts, PartsSay, NumberSays, TableSays}
use Rattle.unification.specs.Choices.{IsSound, DefaultsOf, WidthSays, VariableSays, AreTypes, TypesSay, ChoosesNothing, TypesAsKnown, ChoiceSays}
use Rattle.unification.specs.declared.solution.choice.Defaulted.{Defaulted}
use Rattle.unification.proofs.Giving.{given_value, given_not_open, gives_fits, gives_rank, gives_ranking, gives_roots}
use Rattle.unification.proofs.Refilling.{plain, plain_typing}
use Rattle.unification.proofs.Defaulting.{defaults_known, made_no_integer, grouped_no_integer}
use Rattle.unification.proofs.Settling.{settled_known}

pub untypable : (slots : List Slot) → ((t : Typing) → Meets slots t → ⊥) → (s : System) → Knows slots s.variables (Typings s) → IsUntypable s
untypable slots none s k t h = let u = k.to t h in none u.0 u.1.1

-- ---- default integer types

given_chosen : (slots given : List Slot) → Gives slots given Integer u64_type AnyVariable → (p : ℕ) → p < length given → slot_at given p ≡ Open Integer → ⊥
given_chosen slots given g p lt e =
    let inside : p < length slots = subst (λ (n : ℕ). p < n) g.same_length lt in
    elim (g.each p inside) [
      | inl same ↦ given_not_open u64_type Integer (slot_at given p) (g.given p inside tt (sym same ∙ e)) e
      | inr w ↦ given_not_open u64_type Integer (slot_at given p) w.1 e
    ]

pub first_defaults : (slots : List Slot) (d : Defaulted) → Fits slots → IsRanking slots d.ranking.ranks.items d.ranking.order.items → AreRoots slots d.roots.items (length slots) →
    Gives slots d.slots.items Integer u64_type AnyVariable → DefaultsOf slots d
first_defaults slots d fits is are g = record {
  sound = record {
    fits = gives_fits g fits;
    roots = gives_roots g refl d.roots.items are;
    ranking = gives_ranking g d.ranking.ranks.items d.ranking.order.items is;
    chosen = given_chosen slots d.slots.items g;
  };
  has = λ s of k. record {
    exists = (refill_by slots (λ p. plain) (rank_at d.ranking.ranks.items), k.from _ (plain_typing slots (rank_at d.ranking.ranks.items) is.is_rank));
    knows = defaults_known s slots d.slots.items d.roots.items (rank_at d.ranking.ranks.items) of k is.is_rank are g;
  };
}

-- ---- widths

width_is : (d : Defaulted) (p : ℕ) (w : Width) → IsSound d → p < length d.slots.items → IsGiven (IntType w) (slot_at d.slots.items (slice_index d.roots.items p)) → WidthSays d p (Some w)
width_is d p w sound lt given s has inside t h =
    let root = sound.roots.each p lt in
    let u = has.knows.to t h in
    sym (u.1.0 p inside) ∙ root.same u.0 u.1.1 ∙ given_value (IntType w) u.0 (slice_index d.roots.items p) (slot_at d.slots.items (slice_index d.roots.items p)) given (u.1.1.each (slice_index d.roots.items p) root.within)

plain_at : (slots : List Slot) (r : ℕ → ℕ) → IsRank slots r → (p q : ℕ) → IsRootOf slots p q → (x : Slot) → slot_at slots q ≡ x → IsRoot x → (x ≡ Open Integer → ⊥) → GivesNoInteger x →
    is_integer (refill_by slots (λ a. plain) r p) ≡ false
plain_at slots r rank p q is (Open Any) e root free h = ap is_integer (is.same _ (plain_typing slots r rank) ∙ refill_by-open slots (λ a. plain) r q Any e)
plain_at slots r rank p q is (Open Single) e root free h = ap is_integer (is.same _ (plain_typing slots r rank) ∙ refill_by-open slots (λ a. plain) r q Single e)
plain_at slots r rank p q is (Open Value) e root free h = ap is_integer (is.same _ (plain_typing slots r rank) ∙ refill_by-open slots (λ a. plain) r q Value e)
plain_at slots r rank p q is (Open Integer) e root free h = absurd (free refl)
plain_at slots r rank p q is (Bound (Variable y)) e root free h = absurd root
plain_at slots r rank p q is (Bound (Closed of)) e root free h =
    ap is_integer (is.same _ (plain_typing slots r rank) ∙ bound_says slots q (Closed of) _ is.within e (plain_typing slots r rank)) ∙ h
plain_at slots r rank p q is (Bound (Made w y)) e root free h =
    ap is_integer (is.same _ (plain_typing slots r rank) ∙ bound_says slots q (Made w y) _ is.within e (plain_typing slots r rank)) ∙ made_no_integer w _
plain_at slots r rank p q is (Bound (Grouped g first n)) e root free h =
    ap is_integer (is.same _ (plain_typing slots r rank) ∙ bound_says slots q (Grouped g first n) _ is.within e (plain_typing slots r rank)) ∙ grouped_no_integer g _

width_is_none : (d : Defaulted) (p : ℕ) → IsSound d → p < length d.slots.items → GivesNoInteger (slot_at d.slots.items (slice_index d.roots.items p)) → WidthSays d p None
width_is_none d p sound lt none s has inside =
    let root = sound.roots.each p lt in
    let r : ℕ → ℕ = rank_at d.ranking.ranks.items in (
      refill_by d.slots.items (λ a. plain) r,
      (
        has.knows.from _ (plain_typing d.slots.items r sound.ranking.is_rank),
        plain_at d.slots.items r sound.ranking.is_rank p (slice_index d.roots.items p) root (slot_at d.slots.items (slice_index d.roots.items p)) refl root.is_root (sound.chosen (slice_index d.roots.items p) root.within) none,
      ),
    )

-- ---- types of variables

variable_type : (s : System) (slots : List Slot) (pool : List PoolType) (r : ℕ → ℕ) → Knows slots s.variables (IsSettledTyping s) → IsRank slots r → (p : ℕ) → p < s.variables → (found : Option ℕ) →
    NumberSays slots pool p found → VariableSays s pool p found
variable_type s slots pool r k rank p lt None h = λ of has.
    h (refill_by slots (λ a. plain) r) (plain_typing slots r rank) (λ t u mt mu. has.each t (k.from t mt) ∙ sym (has.each u (k.from u mu)))
variable_type s slots pool r k rank p lt (Some n) h = (
  h.within,
  record {
    typing = refill_by slots (λ a. plain) r;
    settled = k.from _ (plain_typing slots r rank);
    each = λ t is. let u = k.to t is in sym (u.1.0 p lt) ∙ h.is u.0 u.1.1;
  },
)

types_settled : (s : System) (slots : List Slot) (variables : ℕ) (pool : List PoolType) (numbers : List (Option ℕ)) (r : ℕ → ℕ) → Knows slots s.variables (IsSettledTyping s) → IsRank slots r →
    TableSays slots variables pool numbers → s.variables ≡ variables → AreTypes s pool numbers
types_settled s slots variables pool numbers r k rank h count = record {
  settles = (refill_by slots (λ p. plain) r, k.from _ (plain_typing slots r rank));
  same_length = h.same_length ∙ sym count;
  each = λ p lt. variable_type s slots pool r k rank p lt (number_at numbers p) (h.each p (subst (λ (n : ℕ). p < n) count lt));
}

pub types_say : (d : Defaulted) (slots : List Slot) (dropped : List ℕ) (variables : ℕ) (pool : List PoolType) (numbers : List (Option ℕ)) → IsSound d →
    ((k : ℕ) → k < length dropped → slice_index dropped k < variables) → Gives d.slots.items slots Any unit_type (IsDropped d.roots.items dropped (length dropped)) →
    TableSays slots variables pool numbers → TypesSay d dropped variables pool numbers
types_say d slots dropped variables pool numbers sound within g h = λ s has same count.
    let r : ℕ → ℕ = rank_at d.ranking.ranks.items in
    types_settled s slots variables pool numbers r
    (settled_known s d.slots.items slots d.roots.items dropped r has.knows sound.ranking.is_rank sound.roots same (λ i li. subst (λ (n : ℕ). slice_index dropped i < n) (sym count) (within i li)) g)
    (gives_rank g r sound.ranking.is_rank) h count

-- ---- systems without defaults

no_default : (of : TypeData) (found : Option TypeData) → found ≡ None → found ≡ Some of → ⊥
no_default of found none some = cc

none_dropped : (p : ℕ) (dropped : List ℕ) → dropped ≡ [] → Contains dropped p → ⊥
none_dropped p dropped e c = let n = ap length e in let lt = c.1 in omega (arith, n, lt)

-- all typings are settled
settled_alone : (s : System) (t : Typing) → ChoosesNothing s → Typings s t → IsSettledTyping s t
settled_alone s t alone is = record {
  defaulted = record {
    typing = is;
    integers = λ of some p lt all free. absurd (no_default of s.open_integer alone.no_default some);
  };
  nothing = λ p has free u hu e. absurd (none_dropped p s.dropped alone.no_drop has);
}

pub types_alone : (slots : List Slot) (variables : ℕ) (pool : List PoolType) (numbers : List (Option ℕ)) (r : ℕ → ℕ) → IsRank slots r → TableSays slots variables pool numbers →
    TypesAsKnown slots variables pool numbers
types_alone slots variables pool numbers r rank h = λ s alone k count.
    let settled : Knows slots s.variables (IsSettledTyping s) = record {
      fits = k.fits;
      longer = k.longer;
      opens = k.opens;
      to = λ t is. k.to t is.defaulted.typing;
      from = λ t m. settled_alone s t alone (k.from t m);
    } in
    types_settled s slots variables pool numbers r settled rank h count

-- ---- the types of all variables

length-types : (f : ℕ → TypeData) (ns : List ℕ) → length (map f ns) ≡ length ns
length-types f [] = refl
length-types f (n ∷ ns) = ap suc (length-types f ns)

type_in : (f : ℕ → TypeData) (ns : List ℕ) (p : ℕ) (d : TypeData) → p < length ns → get_or (map f ns) p d ≡ f (slice_index ns p)
type_in f [] p d lt = absurd (omega (arith, lt))
type_in f (n ∷ ns) zero d lt = refl
type_in f (n ∷ ns) (suc p) d lt = type_in f ns p d (omega (arith, lt))

ambiguous : (s : System) (pool : List PoolType) (numbers : List (Option ℕ)) (p : ℕ) → AreTypes s pool numbers → p < s.variables → number_at numbers p ≡ None → IsAmbiguous s
ambiguous s pool numbers p are lt none =
    let t : Typing = are.settles.0 in
    let says : VariableSays s pool p None = subst (λ (o : Option ℕ). VariableSays s pool p o) none (are.each p lt) in
    record {
      exists = (t, are.settles.1.defaulted.typing);
      why = inr (p, lt, λ forced. says (t p) (record { typing = t; settled = are.settles.1; each = λ u is. forced u t is are.settles.1 }));
    }

typed : (s : System) (pool : List PoolType) (numbers : List (Option ℕ)) (found : List ℕ) → AreTypes s pool numbers → AreParts numbers 0 (length numbers) found → (HasOpenHead s.reading s.steps → ⊥) →
    IsTyped s (map (type_at (types pool)) found)
typed s pool numbers found are parts whole = record {
  whole = whole;
  exists = (are.settles.0, are.settles.1.defaulted.typing);
  same_length = length-types (type_at (types pool)) found ∙ parts.same_length ∙ are.same_length;
  each = λ p lt.
      let inside : p < length numbers = subst (λ (n : ℕ). p < n) (sym are.same_length) lt in
      let at : number_at numbers p ≡ Some (slice_index found p) = ap (number_at numbers) (let z : p ≡ 0 + p = omega arith in z) ∙ parts.each p inside in
      let says : VariableSays s pool p (Some (slice_index found p)) = subst (λ (o : Option ℕ). VariableSays s pool p o) at (are.each p lt) in
      subst (λ (of : TypeData). HasType s p of) (sym (type_in (type_at (types pool)) found p unit_type (subst (λ (n : ℕ). p < n) (sym parts.same_length) inside))) says.1;
}

in_pool : (s : System) (pool : List PoolType) (p n : ℕ) (found : Option ℕ) → found ≡ Some n → VariableSays s pool p found → n < length pool
in_pool s pool p n found e h = let says : VariableSays s pool p (Some n) = subst (λ (o : Option ℕ). VariableSays s pool p o) e h in says.0

all_in_pool : (s : System) (pool : List PoolType) (numbers : List (Option ℕ)) (found : List ℕ) → AreTypes s pool numbers → AreParts numbers 0 (length numbers) found → All (λ n. n < length pool) found
all_in_pool s pool numbers found are parts = λ k d lt.
    let inside : k < length numbers = subst (λ (n : ℕ). k < n) parts.same_length lt in
    let at : number_at numbers k ≡ Some (slice_index found k) = ap (number_at numbers) (let z : k ≡ 0 + k = omega arith in z) ∙ parts.each k inside in
    subst (λ (n : ℕ). n < length pool) (get_or_default found k 0 d lt)
    (in_pool s pool k (slice_index found k) (number_at numbers k) at (are.each k (subst (λ (n : ℕ). k < n) are.same_length inside)))

pub choice_says : (numbers : List (Option ℕ)) (found : Option (List ℕ)) → PartsSay numbers 0 (length numbers) found → ChoiceSays numbers found
choice_says numbers None h = λ s pool are. ambiguous s pool numbers h.0 are (let a = h.1.1 in let b = are.same_length in omega (arith, a, b)) h.1.2
choice_says numbers (Some found) h = λ s pool are. (all_in_pool s pool numbers found are h, typed s pool numbers found are h)

-- the width that the slot of the representative has
pub width_says : (d : Defaulted) (p : ℕ) (found : Option Width) → IsSound d → p < length d.slots.items → WidthOf (slot_at d.slots.items (slice_index d.roots.items p)) found → WidthSays d p found
width_says d p None sound lt h = width_is_none d p sound lt h
width_says d p (Some w) sound lt h = width_is d p w sound lt h
