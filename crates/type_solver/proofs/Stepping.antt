-- The constraints of a node become equations, which are then solved.
use Rattle.std.proofs.Common.{◌≡◌, ℕ, zero, suc, ◌+◌, ◌<◌, ◌≤◌, ◌++◌, List, [], ◌∷◌, length, take, drop, get_or, Bool, true, false, IsTrue, refl, sym, ap, subst, ◌∙◌, inl, inr, arith, add-one, drop-cons}
use Rattle.std.proofs.lemmas.List.{take_more, map-append}
use Rattle.std.proofs.Math.Seq.{take-length}
use Rattle.base.specs.TypeData.{TypeData, SharedType, MutableType}
use Rattle.typing_rules.specs.Sorts as R
use Rattle.typing_rules.specs.Constraint as D
use Rattle.typing_rules.specs.Rules.{TypeReading, EachHolds, EachSettled, IsSettled, HoldsAt}
use Rattle.unification.specs.Sorts.{is_of}
use Rattle.unification.specs.Slots.{Typing, value, Meets, Fits, TermWithin}
use Rattle.unification.specs.Grown.{SameTo, Grows}
use Rattle.unification.specs.declared.type_variables.slots.Term.{Term}
use Rattle.unification.specs.declared.type_variables.slots.Wrap.{Wrap}
use Rattle.unification.specs.declared.type_variables.slots.Wrap.TheVariants.{Vector, Shared, Mutable}
use Rattle.unification.specs.declared.type_variables.slots.Slot.{Slot}
use Rattle.unification.specs.declared.type_variables.heads.KindSeen.TheVariants.{Plain, To}
use Rattle.unification.proofs.Growing.{grown, grown_beside, grown_said, value_kept}
use Rattle.unification.proofs.Instancing.{term_more}
use Rattle.type_constraints.specs.Seen.{seen, seen_all}
use Rattle.type_constraints.specs.declared.constraint.Constraint.{Constraint}
use Rattle.type_solver.specs.Within.{FormWithin, VariablesWithin, ConstraintWithin, AllWithin}
use Rattle.type_solver.specs.Equations.{Keeps, KindSaid, Says, HeadOpen, Emits, Solved, EachSolved, EquationWithin, EquationsWithin, is_unsettled}
use Rattle.type_solver.specs.Steps.{AllSay, HeadsOpen, SettleSays, StepMade, StepSays, step_of}
use Rattle.type_solver.specs.declared.step.Step.{Step}
use Rattle.type_solver.specs.declared.step.Step.TheVariants.{Settled, Open, Clash}
use Rattle.type_solver.specs.declared.equation.Equation.{Equation}
use Rattle.type_solver.specs.declared.equation.Equation.TheVariants.{Always, Never, Unsettled as EquationOpen, Equal, Sorted, Lent}
use Rattle.type_solver.proofs.Emitting.{earlier, plain_kind, to_target, some_same, no_vector, shared_kind, mutable_kind}
use Rattle.type_solver.proofs.Moving.{Covers, inside, holds_moved, settled_moved, each_fewer, each_kept}

-- ---- lists

each_more : (w : TypeReading) (P : Typing → Type 0) (t : Typing) (ds : List D.Constraint) (d : D.Constraint) → EachHolds w P t ds → HoldsAt w P t d → EachHolds w P t (ds ++ d ∷ [])
each_more w P t [] d h g = (g, tt)
each_more w P t (x ∷ ds) d h g = (h.0, each_more w P t ds d h.1 g)

each_less : (w : TypeReading) (P : Typing → Type 0) (t : Typing) (ds : List D.Constraint) (d : D.Constraint) → EachHolds w P t (ds ++ d ∷ []) → EachHolds w P t ds × HoldsAt w P t d
each_less w P t [] d h = (tt, h.0)
each_less w P t (x ∷ ds) d h = let r = each_less w P t ds d h.1 in ((h.0, r.0), r.1)

settled_more : (P : Typing → Type 0) (ds : List D.Constraint) (d : D.Constraint) → EachSettled P ds → IsSettled P d → EachSettled P (ds ++ d ∷ [])
settled_more P [] d h g = (g, tt)
settled_more P (x ∷ ds) d h g = (h.0, settled_more P ds d h.1 g)

solved_more : (t : Typing) (es : List Equation) (e : Equation) → EachSolved t es → Solved t e → EachSolved t (es ++ e ∷ [])
solved_more t [] e h g = (g, tt)
solved_more t (x ∷ es) e h g = (h.0, solved_more t es e h.1 g)

solved_less : (t : Typing) (es : List Equation) (e : Equation) → EachSolved t (es ++ e ∷ []) → EachSolved t es × Solved t e
solved_less t [] e h = (tt, h.0)
solved_less t (x ∷ es) e h = let r = solved_less t es e h.1 in ((h.0, r.0), r.1)

equation_more : (n m : ℕ) (e : Equation) → n ≤ m → EquationWithin n e → EquationWithin m e
equation_more n m Always le h = tt
equation_more n m Never le h = tt
equation_more n m EquationOpen le h = tt
equation_more n m (Equal x y) le h = (term_more n m x le h.0, term_more n m y le h.1)
equation_more n m (Sorted sort p) le h = omega (arith, le, h)
equation_more n m (Lent x p) le h = (term_more n m x le h.0, (let lt = h.1 in omega (arith, le, lt)))

pub equations_more : (n m : ℕ) (es : List Equation) → n ≤ m → EquationsWithin n es → EquationsWithin m es
equations_more n m [] le h = tt
equations_more n m (e ∷ es) le h = (equation_more n m e le h.0, equations_more n m es le h.1)

within_push : (n : ℕ) (es : List Equation) (e : Equation) → EquationsWithin n es → EquationWithin n e → EquationsWithin n (es ++ e ∷ [])
within_push n [] e h g = (g, tt)
within_push n (x ∷ es) e h g = (h.0, within_push n es e h.1 g)

form_within : (n m : ℕ) (form : D.TypeForm) → n ≤ m → FormWithin n form → FormWithin m form
form_within n m (D.Written of) le h = tt
form_within n m (D.Declared of first count) le h = omega (arith, le, h)
form_within n m (D.Applied s first count) le h = omega (arith, le, h)

variables_within : (n m : ℕ) (parts : List ℕ) → n ≤ m → VariablesWithin n parts → VariablesWithin m parts
variables_within n m [] le h = tt
variables_within n m (p ∷ parts) le h = (let x = h.0 in omega (arith, le, x), variables_within n m parts le h.1)

pub constraint_more : (n m : ℕ) (d : D.Constraint) → n ≤ m → ConstraintWithin n d → ConstraintWithin m d
constraint_more n m (D.Same a b) le h = (let x = h.0 in omega (arith, le, x), let y = h.1 in omega (arith, le, y))
constraint_more n m (D.Has p form) le h = (let x = h.0 in omega (arith, le, x), form_within n m form le h.1)
constraint_more n m (D.MadeOf p k e) le h = (let x = h.0 in omega (arith, le, x), let y = h.1 in omega (arith, le, y))
constraint_more n m (D.TupleOf p parts) le h = (let x = h.0 in omega (arith, le, x), variables_within n m parts le h.1)
constraint_more n m (D.IsOf sort p) le h = omega (arith, le, h)
constraint_more n m (D.Alike a b) le h = (let x = h.0 in omega (arith, le, x), let y = h.1 in omega (arith, le, y))
constraint_more n m (D.Takes e form) le h = (let x = h.0 in omega (arith, le, x), form_within n m form le h.1)
constraint_more n m (D.Returns e form) le h = (let x = h.0 in omega (arith, le, x), h.1)
constraint_more n m (D.FieldOf p e name) le h = (let x = h.0 in omega (arith, le, x), let y = h.1 in omega (arith, le, y))
constraint_more n m (D.TargetOf p e) le h = (let x = h.0 in omega (arith, le, x), let y = h.1 in omega (arith, le, y))
constraint_more n m (D.Through e) le h = omega (arith, le, h)
constraint_more n m (D.Behind e) le h = omega (arith, le, h)
constraint_more n m D.Barred le h = tt

pub all_more : (n m : ℕ) (ds : List D.Constraint) → n ≤ m → AllWithin n ds → AllWithin m ds
all_more n m [] le h = tt
all_more n m (d ∷ ds) le h = (constraint_more n m d le h.0, all_more n m ds le h.1)

-- the constraint with the number i, seen
within_at : (n : ℕ) (ds : List Constraint) (i : ℕ) (d : Constraint) → i < length ds → d ≡ get_or ds i d → AllWithin n (seen_all ds) → ConstraintWithin n (seen d)
within_at n [] i d lt e h = absurd (omega (arith, lt))
within_at n (x ∷ ds) zero d lt e h = subst (λ (y : Constraint). ConstraintWithin n (seen y)) (sym e) h.0
within_at n (x ∷ ds) (suc i) d lt e h = within_at n ds i d (omega (arith, lt)) e h.1

settled_at : (P : Typing → Type 0) (ds : List Constraint) (i : ℕ) (d : Constraint) → i < length ds → d ≡ get_or ds i d → EachSettled P (seen_all ds) → IsSettled P (seen d)
settled_at P [] i d lt e h = absurd (omega (arith, lt))
settled_at P (x ∷ ds) zero d lt e h = subst (λ (y : Constraint). IsSettled P (seen y)) (sym e) h.0
settled_at P (x ∷ ds) (suc i) d lt e h = settled_at P ds i d (omega (arith, lt)) e h.1

seen_next : (ds : List Constraint) (i : ℕ) (d : Constraint) → i < length ds → d ≡ get_or ds i d → seen_all (take (i + 1) ds) ≡ seen_all (take i ds) ++ seen d ∷ []
seen_next ds i d lt e = ap seen_all (take_more ds i d lt) ∙ map-append seen (take i ds) (get_or ds i d ∷ []) ∙ ap (λ (y : Constraint). seen_all (take i ds) ++ seen y ∷ []) (sym e)

-- ---- equations of a node, one by one

says_settled : (w : TypeReading) (a b : List Slot) (d : D.Constraint) (e : Equation) → is_unsettled e ≡ false → Emits w a b d e → Says w a b d e
says_settled w a b d Always h s = s
says_settled w a b d Never h s = s
says_settled w a b d EquationOpen h s = cc
says_settled w a b d (Equal x y) h s = s
says_settled w a b d (Sorted sort p) h s = s
says_settled w a b d (Lent x p) h s = s

head_open : (w : TypeReading) (a b : List Slot) (d : D.Constraint) (e : Equation) → is_unsettled e ≡ true → Emits w a b d e → HeadOpen a d
head_open w a b d Always h s = cc
head_open w a b d Never h s = cc
head_open w a b d EquationOpen h s = s
head_open w a b d (Equal x y) h s = cc
head_open w a b d (Sorted sort p) h s = cc
head_open w a b d (Lent x p) h s = cc

covers_grown : (a b : List Slot) → Keeps a b → Covers (length a) (Meets b) (Meets a)
covers_grown a b g = record { cover = λ t m. let r = g.forth t m tt in (r.0, (r.1.0, r.1.1)) }

pub say_none : (w : TypeReading) (a b : List Slot) (es : List Equation) → es ≡ [] → AllSay w a b [] es
say_none w a b es e = subst (λ (x : List Equation). AllSay w a b [] x) (sym e) (record {
  to = λ t m h. tt;
  from = λ t m h. tt;
  settled = tt;
  within = tt;
})

say_more : (w : TypeReading) (a b c : List Slot) (ds : List D.Constraint) (d : D.Constraint) (es : List Equation) (e : Equation) → Keeps a b → Keeps b c → ConstraintWithin (length a) d →
    AllSay w a b ds es → Says w b c d e → AllSay w a c (ds ++ d ∷ []) (es ++ e ∷ [])
say_more w a b c ds d es e g h lt all one = record {
  to = λ t m holds. (let r = each_less w (Meets a) t ds d holds in
      solved_more t es e (all.to t (earlier b c h t m) r.0)
      (one.to t m (holds_moved w (length a) (Meets a) (Meets b) (inside (length a) (Meets a) (Meets b) (earlier a b g)) t d lt r.1)));
  from = λ t m solved. (let r = solved_less t es e solved in
      each_more w (Meets a) t ds d (all.from t (earlier b c h t m) r.0)
      (holds_moved w (length a) (Meets b) (Meets a) (covers_grown a b g) t d lt (one.from t m r.1)));
  settled = settled_more (Meets a) ds d all.settled (settled_moved (length a) (Meets b) (Meets a) (covers_grown a b g) d lt one.settled);
  within = within_push (length c) es e (equations_more (length b) (length c) es h.longer all.within) one.within;
}

pub say_next : (w : TypeReading) (a b c : List Slot) (ds : List Constraint) (i : ℕ) (d : Constraint) (es fs : List Equation) (e : Equation) → i < length ds → d ≡ get_or ds i d → AllWithin (length a) (seen_all ds) →
    Keeps a b → Keeps b c → AllSay w a b (seen_all (take i ds)) es → is_unsettled e ≡ false → Emits w b c (seen d) e → fs ≡ es ++ e ∷ [] → AllSay w a c (seen_all (take (i + 1) ds)) fs
say_next w a b c ds i d es fs e lt is within g h all settled emits pushed =
    subst (λ (x : List Equation). AllSay w a c (seen_all (take (i + 1) ds)) x) (sym pushed)
    (subst (λ (x : List D.Constraint). AllSay w a c x (es ++ e ∷ [])) (sym (seen_next ds i d lt is))
    (say_more w a b c (seen_all (take i ds)) (seen d) es e g h (within_at (length a) ds i d lt is within) all (says_settled w b c (seen d) e settled emits)))

pub open_at : (w : TypeReading) (a b c : List Slot) (ds : List Constraint) (i : ℕ) (d : Constraint) (e : Equation) → i < length ds → d ≡ get_or ds i d → Keeps a b → is_unsettled e ≡ true → Emits w b c (seen d) e →
    HeadsOpen a (seen_all ds)
open_at w a b c ds i d e lt is g unsettled emits = record {
  differ = λ t m settled. (let r = g.forth t m tt in
      (head_open w b c (seen d) e unsettled emits).differ r.0 r.1.1
      (settled_at (Meets b) ds i d lt is (each_fewer (Meets a) (Meets b) (earlier a b g) (seen_all ds) settled)));
}

-- ---- equations that are solved

solved_kept : (n : ℕ) (t u : Typing) (e : Equation) → EquationWithin n e → SameTo n t u → Solved t e → Solved u e
solved_kept n t u Always lt same h = tt
solved_kept n t u Never lt same h = h
solved_kept n t u EquationOpen lt same h = h
solved_kept n t u (Equal x y) lt same h = value_kept n t u x lt.0 same ∙ h ∙ sym (value_kept n t u y lt.1 same)
solved_kept n t u (Sorted sort p) lt same h = subst (λ (a : TypeData). IsTrue (is_of sort a)) (sym (same p lt)) h
solved_kept n t u (Lent x p) lt same h = elim h [
  | inl e ↦ inl (ap MutableType (value_kept n t u x lt.0 same) ∙ e ∙ sym (same p lt.1))
  | inr e ↦ inr (ap SharedType (value_kept n t u x lt.0 same) ∙ e ∙ sym (same p lt.1))
]

each_solved_kept : (n : ℕ) (t u : Typing) (es : List Equation) → EquationsWithin n es → SameTo n t u → EachSolved t es → EachSolved u es
each_solved_kept n t u [] lt same h = tt
each_solved_kept n t u (e ∷ es) lt same h = (solved_kept n t u e lt.0 same h.0, each_solved_kept n t u es lt.1 same h.1)

-- unchanged slots
pub stands : (a : List Slot) (F G : Typing → Type 0) → Fits a → ((t : Typing) → F t → G t) → ((t : Typing) → G t → F t) → Grows a F a G
stands a F G fits to from = record {
  fits = fits;
  longer = omega arith;
  opens = λ n lt o. (lt, o);
  forth = λ t m f. (t, ((λ p lt. refl), m, to t f));
  back = λ t m g. (m, from t g);
}

-- a mutable reference is lent only to a reference
pub lend_plain : (a b : List Slot) (x : Term) (p : ℕ) → KindSaid a b p Plain → TermWithin (length a) x → p < length a → Grows a (λ t. Solved t (Lent x p)) b (λ t. IsTrue false)
lend_plain a b x p s within lt =
    grown_said (λ t. Solved t (Lent x p)) (λ t. IsTrue false) s.grows
    (λ t u same h. solved_kept (length a) t u (Lent x p) (within, lt) same h)
    (λ t m h. elim h [
      | inl e ↦ (let z = ap R.kind e ∙ plain_kind a b p s t m in cc)
      | inr e ↦ (let z = ap R.kind e ∙ plain_kind a b p s t m in cc)
    ])
    (λ t m e. cc)
    (stands b (λ t. IsTrue false) (λ t. IsTrue false) s.grows.fits (λ t e. e) (λ t e. e))

-- a reference to the type of the term
lent_to : (a b : List Slot) (x y : Term) (p : ℕ) (k : Wrap) → KindSaid a b p (To k y) → (t : Typing) → Meets b t → value t x ≡ value t y → Solved t (Lent x p)
lent_to a b x y p Vector s t m e = absurd (no_vector a b p y s t m)
lent_to a b x y p Shared s t m e = inr (ap SharedType e ∙ sym (shared_kind a b p y s t m))
lent_to a b x y p Mutable s t m e = inl (ap MutableType e ∙ sym (mutable_kind a b p y s t m))

pub lend_to : (a b c : List Slot) (x y : Term) (p : ℕ) (k : Wrap) (answer : Bool) → KindSaid a b p (To k y) → TermWithin (length a) x → p < length a →
    Grows b (λ t. value t x ≡ value t y) c (λ t. IsTrue answer) → Grows a (λ t. Solved t (Lent x p)) c (λ t. IsTrue answer)
lend_to a b c x y p k answer s within lt g =
    grown_said (λ t. Solved t (Lent x p)) (λ t. value t x ≡ value t y) s.grows
    (λ t u same h. solved_kept (length a) t u (Lent x p) (within, lt) same h)
    (λ t m h. elim h [
      | inl e ↦ some_same (value t x) (value t y) (ap R.target e ∙ to_target a b p k y s t m)
      | inr e ↦ some_same (value t x) (value t y) (ap R.target e ∙ to_target a b p k y s t m)
    ])
    (λ t m e. lent_to a b x y p k s t m e)
    g

pub always : (a : List Slot) (F : Typing → Type 0) → Fits a → ((t : Typing) → F t) → Grows a F a (λ t. IsTrue true)
always a F fits all = stands a F (λ t. IsTrue true) fits (λ t f. refl) (λ t e. all t)

pub never : (a : List Slot) (F : Typing → Type 0) → Fits a → ((t : Typing) → F t → ⊥) → Grows a F a (λ t. IsTrue false)
never a F fits none = stands a F (λ t. IsTrue false) fits (λ t f. absurd (none t f)) (λ t e. cc)

next_equation : (es : List Equation) (i : ℕ) (e : Equation) → i < length es → e ≡ get_or es i e → drop i es ≡ e ∷ drop (i + 1) es
next_equation es i e h is = drop-cons es i e h ∙ (λ j. sym is j ∷ drop (sym (add-one i) j) es)

pub apply_start : (a : List Slot) (es : List Equation) → Fits a → Grows a (λ t. EachSolved t es) a (λ t. EachSolved t (drop 0 es))
apply_start a es fits = stands a (λ t. EachSolved t es) (λ t. EachSolved t es) fits (λ t h. h) (λ t h. h)

apply_next : (a b c : List Slot) (F : Typing → Type 0) (e : Equation) (rest : List Equation) (answer : Bool) → Grows a F b (λ t. EachSolved t (e ∷ rest)) → EquationsWithin (length b) (e ∷ rest) →
    Grows b (λ t. Solved t e) c (λ t. IsTrue answer) → Grows a F c (λ t. IsTrue answer × EachSolved t rest)
apply_next a b c F e rest answer g within one =
    grown g (grown_beside (λ t. EachSolved t rest) (λ t u same h. each_solved_kept (length b) t u rest within.1 same h) one)

at_next : (a b : List Slot) (F : Typing → Type 0) (es : List Equation) (i : ℕ) (e : Equation) → i < length es → e ≡ get_or es i e → Grows a F b (λ t. EachSolved t (drop i es)) →
    Grows a F b (λ t. EachSolved t (e ∷ drop (i + 1) es))
at_next a b F es i e lt is g = subst (λ (x : List Equation). Grows a F b (λ t. EachSolved t x)) (next_equation es i e lt is) g

pub within_next : (n : ℕ) (es : List Equation) (i : ℕ) (e : Equation) → i < length es → e ≡ get_or es i e → EquationsWithin n (drop i es) → EquationsWithin n (e ∷ drop (i + 1) es)
within_next n es i e lt is h = subst (λ (x : List Equation). EquationsWithin n x) (next_equation es i e lt is) h

pub apply_more : (a b c : List Slot) (F : Typing → Type 0) (es : List Equation) (i : ℕ) (e : Equation) → i < length es → e ≡ get_or es i e → Grows a F b (λ t. EachSolved t (drop i es)) →
    EquationsWithin (length b) (drop i es) → Grows b (λ t. Solved t e) c (λ t. IsTrue true) → Grows a F c (λ t. EachSolved t (drop (i + 1) es))
apply_more a b c F es i e lt is g within one =
    let h = apply_next a b c F e (drop (i + 1) es) true (at_next a b F es i e lt is g) (within_next (length b) es i e lt is within) one in
    grown h (stands c (λ t. IsTrue true × EachSolved t (drop (i + 1) es)) (λ t. EachSolved t (drop (i + 1) es)) one.fits (λ t r. r.1) (λ t r. (refl, r)))

pub apply_never : (a b c : List Slot) (F : Typing → Type 0) (es : List Equation) (i : ℕ) (e : Equation) → i < length es → e ≡ get_or es i e → Grows a F b (λ t. EachSolved t (drop i es)) →
    EquationsWithin (length b) (drop i es) → Grows b (λ t. Solved t e) c (λ t. IsTrue false) → Grows a F c (λ t. IsTrue false)
apply_never a b c F es i e lt is g within one =
    let h = apply_next a b c F e (drop (i + 1) es) false (at_next a b F es i e lt is g) (within_next (length b) es i e lt is within) one in
    grown h (stands c (λ t. IsTrue false × EachSolved t (drop (i + 1) es)) (λ t. IsTrue false) one.fits (λ t r. r.0) (λ t e. cc))

none_left : (xs : List Equation) (n : ℕ) → length xs ≤ n → drop n xs ≡ []
none_left [] zero le = refl
none_left [] (suc n) le = refl
none_left (x ∷ xs) zero le = absurd (omega (arith, le))
none_left (x ∷ xs) (suc n) le = none_left xs n (omega (arith, le))

pub apply_end : (a b : List Slot) (F : Typing → Type 0) (es : List Equation) (i : ℕ) → Fits b → length es ≤ i → Grows a F b (λ t. EachSolved t (drop i es)) → Grows a F b (λ t. IsTrue true)
apply_end a b F es i fits le g =
    grown (subst (λ (x : List Equation). Grows a F b (λ t. EachSolved t x)) (none_left es i le) g) (stands b (λ t. EachSolved t []) (λ t. IsTrue true) fits (λ t h. refl) (λ t h. tt))

-- ---- a step

step_made : (w : TypeReading) (n : ℕ) (a b c : List Slot) (ds : List D.Constraint) (es : List Equation) (answer : Bool) → AllWithin n ds → n ≤ length a → Keeps a b → AllSay w a b ds es →
    Grows b (λ t. EachSolved t es) c (λ t. IsTrue answer) → StepMade w n a c ds answer
step_made w n a b c ds es answer within le g say made = record {
  within = within;
  settled = say.settled;
  grows = grown_said (λ t. EachHolds w (Meets a) t ds) (λ t. EachSolved t es) g
      (λ t u same h. each_kept w (length a) (Meets a) t u same ds (all_more n (length a) ds le within) h)
      say.to say.from made;
}

pub step_says : (w : TypeReading) (n : ℕ) (a b c : List Slot) (ds : List D.Constraint) (es : List Equation) (s : Step) → AllWithin n ds → n ≤ length a → Keeps a b → AllSay w a b ds es →
    SettleSays b c es s → StepSays w n a c ds s
step_says w n a b c ds es Settled within le g say made = step_made w n a b c ds es true within le g say made
step_says w n a b c ds es Clash within le g say made = step_made w n a b c ds es false within le g say made
step_says w n a b c ds es Open within le g say made = absurd made

pub within_now : (a b : List Slot) (ds : List Constraint) (i : ℕ) (d : Constraint) → i < length ds → d ≡ get_or ds i d → Keeps a b → AllWithin (length a) (seen_all ds) → ConstraintWithin (length b) (seen d)
within_now a b ds i d lt is g h = constraint_more (length a) (length b) (seen d) g.longer (within_at (length a) ds i d lt is h)

pub taken_all : (ds : List Constraint) (i : ℕ) → i ≤ length ds → length ds ≤ i → take i ds ≡ ds
taken_all ds i le ge = ap (λ (n : ℕ). take n ds) (let e : i ≡ length ds = omega (arith, le, ge) in e) ∙ take-length ds

pub settle_says : (a b : List Slot) (es : List Equation) (left : Bool) → Grows a (λ t. EachSolved t es) b (λ t. IsTrue left) → SettleSays a b es (step_of left)
settle_says a b es true g = g
settle_says a b es false g = g
