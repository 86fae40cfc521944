-- Equations equivalent to constraints.
use Rattle.std.proofs.Common.{◌≡◌, ℕ, ◌<◌, ◌≤◌, List, [], ◌∷◌, length, map, Some, None, Bool, IsTrue, false, refl, sym, ap, subst, ◌∙◌, inl, inr, arith}
use Rattle.base.specs.TypeData.{TypeData, SharedType, MutableType, TupleType, types_of}
use Rattle.typing_rules.specs.Sorts as R
use Rattle.typing_rules.specs.Constraint as D
use Rattle.typing_rules.specs.Rules.{TypeReading, Agree, PointAtOne, Fits as TypeFits}
use Rattle.unification.specs.Heads as H
use Rattle.unification.specs.Slots.{Typing, value, grouped, Meets, TermWithin}
use Rattle.unification.specs.Terms.{AllWithin as TermsWithin}
use Rattle.unification.specs.declared.type_variables.slots.Group.TheVariants.{Tuple}
use Rattle.type_solver.specs.Within.{VariablesWithin}
use Rattle.unification.specs.declared.type_variables.slots.Wrap.{Wrap}
use Rattle.unification.specs.declared.type_variables.slots.Wrap.TheVariants.{Vector, Shared, Mutable}
use Rattle.unification.specs.declared.type_variables.slots.Term.{Term}
use Rattle.unification.specs.declared.type_variables.slots.Term.TheVariants.{Variable, Made}
use Rattle.typing_rules.specs.declared.sort.Sort.{Sort as RuleSort}
use Rattle.typing_rules.specs.declared.sort.Wrap.{Wrap as RuleWrap}
use Rattle.type_solver.specs.Words.{sort_word, wrap_word}
use Rattle.unification.specs.declared.type_variables.slots.Slot.{Slot}
use Rattle.unification.specs.declared.type_variables.heads.KindSeen.{KindSeen}
use Rattle.unification.specs.declared.type_variables.heads.KindSeen.TheVariants.{Unsettled, Plain, To}
use Rattle.unification.proofs.Growing.{grown}
use Rattle.unification.proofs.Instancing.{term_more}
use Rattle.type_solver.specs.Equations.{Keeps, KindSaid, Says, HeadOpen, Emits, TermSaid, GivenSays, written_through, is_unsettled}
use Rattle.type_solver.specs.declared.equation.Equation.{Equation}
use Rattle.type_solver.specs.declared.equation.Equation.TheVariants.{Always, Never, Unsettled as EquationOpen, Equal, Sorted, Lent}
use Rattle.type_solver.proofs.Bridges.{sort_same, made_same, solver_kind, rule_kind, no_kind, plain_target, wrapped_target, wrapped_behind}

-- ---- extended slots

-- what meets the new slots meets the old ones
pub earlier : (a b : List Slot) → Keeps a b → (t : Typing) → Meets b t → Meets a t
earlier a b g t m = (g.back t m tt).0

-- old slots agree on what new slots agree on
pub agree_back : {A : Type 0} → (look : TypeData → A) (a b : List Slot) (p : ℕ) → Keeps a b → p < length a → Agree (Meets b) look p → Agree (Meets a) look p
agree_back look a b p g lt agree t u mt mu =
    let r = g.forth t mt tt in let s = g.forth u mu tt in
    sym (ap look (r.1.0 p lt)) ∙ agree r.0 s.0 r.1.1 s.1.1 ∙ ap look (s.1.0 p lt)

pub agree_on : {A : Type 0} → (look : TypeData → A) (a b : List Slot) (p : ℕ) → Keeps a b → Agree (Meets a) look p → Agree (Meets b) look p
agree_on look a b p g agree t u mt mu = agree t u (earlier a b g t mt) (earlier a b g u mu)

-- ---- known kinds

within_more : (n m : ℕ) (k : KindSeen) → n ≤ m → H.KindWithin n k → H.KindWithin m k
within_more n m Unsettled le h = tt
within_more n m Plain le h = tt
within_more n m (To w x) le h = term_more n m x le h

unseen_later : (b c : List Slot) (p : ℕ) (k : KindSeen) → Keeps b c → p < length b → H.KindOpen b p k → H.KindOpen c p k
unseen_later b c p Unsettled g lt h = λ t m agree. h t (earlier b c g t m) (agree_back H.kind b c p g lt agree)
unseen_later b c p Plain g lt h = tt
unseen_later b c p (To w x) g lt h = tt

pub said_later : (a b c : List Slot) (p : ℕ) (k : KindSeen) → KindSaid a b p k → Keeps b c → p < length a → KindSaid a c p k
said_later a b c p k s g lt = record {
  grows = grown s.grows g;
  of = λ t m. s.of t (earlier b c g t m);
  within = within_more (length b) (length c) k g.longer s.within;
  unseen = unseen_later b c p k g (let le = s.grows.longer in omega (arith, lt, le)) s.unseen;
}

pub said_before : (a b c : List Slot) (p : ℕ) (k : KindSeen) → Keeps a b → KindSaid b c p k → KindSaid a c p k
said_before a b c p k g s = record { grows = grown g s.grows; of = s.of; within = s.within; unseen = s.unseen }

pub kind_unsettled : (a b : List Slot) (e : ℕ) → KindSaid a b e Unsettled → (t : Typing) → Meets a t → Agree (Meets a) R.kind e → ⊥
kind_unsettled a b e s t m agree =
    let r = s.grows.forth t m tt in
    s.unseen r.0 r.1.1 (λ u v mu mv. solver_kind (u e) (v e) (agree_on R.kind a b e s.grows agree u v mu mv))

pub plain_kind : (a b : List Slot) (e : ℕ) → KindSaid a b e Plain → (t : Typing) → Meets b t → R.kind (t e) ≡ None
plain_kind a b e s t m = no_kind (t e) (s.of t m)

pub plain_agree : (a b : List Slot) (e : ℕ) → KindSaid a b e Plain → e < length a → Agree (Meets a) R.kind e
plain_agree a b e s lt = agree_back R.kind a b e s.grows lt (λ t u mt mu. plain_kind a b e s t mt ∙ sym (plain_kind a b e s u mu))

pub to_agree : (a b : List Slot) (e : ℕ) (w : Wrap) (x : Term) → KindSaid a b e (To w x) → e < length a → Agree (Meets a) R.kind e
to_agree a b e w x s lt = agree_back R.kind a b e s.grows lt
    (λ t u mt mu. rule_kind (t e) (u e) ((s.of t mt).1 ∙ sym (s.of u mu).1))

pub to_target : (a b : List Slot) (e : ℕ) (w : Wrap) (x : Term) → KindSaid a b e (To w x) → (t : Typing) → Meets b t → R.target (t e) ≡ Some (value t x)
to_target a b e w x s t m = let o = s.of t m in
    ap R.target o.0 ∙ wrapped_target w (value t x) (sym (ap H.kind o.0) ∙ o.1)

pub to_behind : (a b : List Slot) (e : ℕ) (w : Wrap) (x : Term) → KindSaid a b e (To w x) → (t : Typing) → Meets b t → R.behind (t e) ≡ value t x
to_behind a b e w x s t m = let o = s.of t m in
    ap R.behind o.0 ∙ wrapped_behind w (value t x) (sym (ap H.kind o.0) ∙ o.1)

pub some_same : (x y : TypeData) → Some x ≡ Some y → x ≡ y
some_same x y e = cc

-- ---- what a reference points at

pub target_open : (w : TypeReading) (a b : List Slot) (p e : ℕ) → KindSaid a b e Unsettled → HeadOpen a (D.TargetOf p e)
target_open w a b p e s = record { differ = kind_unsettled a b e s }

pub target_never : (w : TypeReading) (a b : List Slot) (p e : ℕ) → KindSaid a b e Plain → e < length a → Says w a b (D.TargetOf p e) Never
target_never w a b p e s lt = record {
  to = λ t m h. (let z = sym (plain_target (t e) (plain_kind a b e s t m)) ∙ h in cc);
  from = λ t m h. absurd h;
  settled = plain_agree a b e s lt;
  within = tt;
}

pub target_equal : (w : TypeReading) (a b : List Slot) (p e : ℕ) (k : Wrap) (x : Term) → KindSaid a b e (To k x) → e < length a → p < length a → Says w a b (D.TargetOf p e) (Equal x (Variable p))
target_equal w a b p e k x s lt lp = record {
  to = λ t m h. some_same (value t x) (t p) (sym (to_target a b e k x s t m) ∙ h);
  from = λ t m h. to_target a b e k x s t m ∙ ap Some h;
  settled = to_agree a b e k x s lt;
  within = (s.within, (let le = s.grows.longer in omega (arith, lp, le)));
}

-- ---- writes through a reference

pub through_open : (w : TypeReading) (a b : List Slot) (e : ℕ) → KindSaid a b e Unsettled → HeadOpen a (D.Through e)
through_open w a b e s = record { differ = kind_unsettled a b e s }

pub behind_open : (w : TypeReading) (a b : List Slot) (e : ℕ) → KindSaid a b e Unsettled → HeadOpen a (D.Behind e)
behind_open w a b e s = record { differ = kind_unsettled a b e s }

pub through_plain : (w : TypeReading) (a b : List Slot) (e : ℕ) → KindSaid a b e Plain → e < length a → Says w a b (D.Through e) Always
through_plain w a b e s lt = record {
  to = λ t m h. tt;
  from = λ t m h is. (let z = sym (plain_kind a b e s t m) ∙ is in cc);
  settled = plain_agree a b e s lt;
  within = tt;
}

pub behind_plain : (w : TypeReading) (a b : List Slot) (e : ℕ) → KindSaid a b e Plain → e < length a → Says w a b (D.Behind e) Never
behind_plain w a b e s lt = record {
  to = λ t m h. (let z = sym (plain_kind a b e s t m) ∙ h in cc);
  from = λ t m h. absurd h;
  settled = plain_agree a b e s lt;
  within = tt;
}

pub shared_kind : (a b : List Slot) (e : ℕ) (x : Term) → KindSaid a b e (To Shared x) → (t : Typing) → Meets b t → t e ≡ SharedType (value t x)
shared_kind a b e x s t m = (s.of t m).0

pub mutable_kind : (a b : List Slot) (e : ℕ) (x : Term) → KindSaid a b e (To Mutable x) → (t : Typing) → Meets b t → t e ≡ MutableType (value t x)
mutable_kind a b e x s t m = (s.of t m).0

-- no type with a kind is a vector
pub no_vector : (a b : List Slot) (e : ℕ) (x : Term) → KindSaid a b e (To Vector x) → (t : Typing) → Meets b t → ⊥
no_vector a b e x s t m = let o = s.of t m in (let z = sym (ap H.kind o.0) ∙ o.1 in cc)

pub through_shared : (w : TypeReading) (a b : List Slot) (e : ℕ) (x : Term) → KindSaid a b e (To Shared x) → e < length a → Says w a b (D.Through e) Never
through_shared w a b e x s lt = record {
  to = λ t m h. h (ap R.kind (shared_kind a b e x s t m));
  from = λ t m h. absurd h;
  settled = to_agree a b e Shared x s lt;
  within = tt;
}

pub through_mutable : (w : TypeReading) (a b : List Slot) (e : ℕ) (x : Term) → KindSaid a b e (To Mutable x) → e < length a → Says w a b (D.Through e) Always
through_mutable w a b e x s lt = record {
  to = λ t m h. tt;
  from = λ t m h is. (let z = sym (ap R.kind (mutable_kind a b e x s t m)) ∙ is in cc);
  settled = to_agree a b e Mutable x s lt;
  within = tt;
}

pub through_vector : (w : TypeReading) (a b : List Slot) (e : ℕ) (x : Term) → KindSaid a b e (To Vector x) → e < length a → Says w a b (D.Through e) Always
through_vector w a b e x s lt = record {
  to = λ t m h. tt;
  from = λ t m h is. no_vector a b e x s t m;
  settled = to_agree a b e Vector x s lt;
  within = tt;
}

pub behind_shared : (w : TypeReading) (a b : List Slot) (e : ℕ) (x : Term) → KindSaid a b e (To Shared x) → e < length a → Says w a b (D.Behind e) Never
behind_shared w a b e x s lt = record {
  to = λ t m h. (let z = sym (ap R.kind (shared_kind a b e x s t m)) ∙ h in cc);
  from = λ t m h. absurd h;
  settled = to_agree a b e Shared x s lt;
  within = tt;
}

pub behind_mutable : (w : TypeReading) (a b : List Slot) (e : ℕ) (x : Term) → KindSaid a b e (To Mutable x) → e < length a → Says w a b (D.Behind e) Always
behind_mutable w a b e x s lt = record {
  to = λ t m h. tt;
  from = λ t m h. ap R.kind (mutable_kind a b e x s t m);
  settled = to_agree a b e Mutable x s lt;
  within = tt;
}

pub behind_vector : (w : TypeReading) (a b : List Slot) (e : ℕ) (x : Term) → KindSaid a b e (To Vector x) → e < length a → Says w a b (D.Behind e) Always
behind_vector w a b e x s lt = record {
  to = λ t m h. tt;
  from = λ t m h. absurd (no_vector a b e x s t m);
  settled = to_agree a b e Vector x s lt;
  within = tt;
}

-- a write through a known reference
pub through_to : (w : TypeReading) (a b : List Slot) (e : ℕ) (k : Wrap) (x : Term) → KindSaid a b e (To k x) → e < length a → Emits w a b (D.Through e) (written_through k)
through_to w a b e Vector x s lt = through_vector w a b e x s lt
through_to w a b e Shared x s lt = through_shared w a b e x s lt
through_to w a b e Mutable x s lt = through_mutable w a b e x s lt

pub behind_to : (w : TypeReading) (a b : List Slot) (e : ℕ) (k : Wrap) (x : Term) → KindSaid a b e (To k x) → e < length a → Emits w a b (D.Behind e) (written_through k)
behind_to w a b e Vector x s lt = behind_vector w a b e x s lt
behind_to w a b e Shared x s lt = behind_shared w a b e x s lt
behind_to w a b e Mutable x s lt = behind_mutable w a b e x s lt

-- ---- comparisons

pub variable_more : (a b : List Slot) (p : ℕ) → Keeps a b → p < length a → p < length b
variable_more a b p g lt = let le = g.longer in omega (arith, lt, le)

pub alike_two : (w : TypeReading) (a b : List Slot) (p q : ℕ) (k j : Wrap) (x y : Term) → KindSaid a b p (To k x) → KindSaid a b q (To j y) → p < length a → q < length a →
    Says w a b (D.Alike p q) (Equal x y)
alike_two w a b p q k j x y s r lp lq = record {
  to = λ t m h. elim h [
    | inl e ↦ some_same (value t x) (value t y) (sym (to_target a b p k x s t m) ∙ ap R.target e ∙ to_target a b q j y r t m)
    | inr o ↦ some_same (value t x) (value t y) (sym (to_target a b p k x s t m) ∙ o.2.1 ∙ sym o.2.2 ∙ to_target a b q j y r t m)
  ];
  from = λ t m e. inr (to_agree a b p k x s lp, to_agree a b q j y r lq, (value t x, to_target a b p k x s t m, to_target a b q j y r t m ∙ ap Some (sym e)));
  settled = tt;
  within = (s.within, r.within);
}

-- if one of them is not settled to be a reference, they are of one type
alike_equal : (w : TypeReading) (a b : List Slot) (p q : ℕ) → Keeps a b → p < length a → q < length a →
    ((t : Typing) → Meets b t → Agree (Meets a) R.kind p → Agree (Meets a) R.kind q → PointAtOne (t p) (t q) → ⊥) → Says w a b (D.Alike p q) (Equal (Variable p) (Variable q))
alike_equal w a b p q g lp lq never = record {
  to = λ t m h. elim h [ inl e ↦ e | inr o ↦ absurd (never t m o.0 o.1 o.2) ];
  from = λ t m e. inl e;
  settled = tt;
  within = (variable_more a b p g lp, variable_more a b q g lq);
}

pub alike_left_unsettled : (w : TypeReading) (a b : List Slot) (p q : ℕ) → KindSaid a b p Unsettled → p < length a → q < length a → Says w a b (D.Alike p q) (Equal (Variable p) (Variable q))
alike_left_unsettled w a b p q s lp lq = alike_equal w a b p q s.grows lp lq (λ t m ap_ aq o. kind_unsettled a b p s t (earlier a b s.grows t m) ap_)

pub alike_left_plain : (w : TypeReading) (a b : List Slot) (p q : ℕ) → KindSaid a b p Plain → p < length a → q < length a → Says w a b (D.Alike p q) (Equal (Variable p) (Variable q))
alike_left_plain w a b p q s lp lq = alike_equal w a b p q s.grows lp lq (λ t m ap_ aq o. (let z = sym (plain_target (t p) (plain_kind a b p s t m)) ∙ o.1 in cc))

pub alike_right_unsettled : (w : TypeReading) (a b : List Slot) (p q : ℕ) → KindSaid a b q Unsettled → p < length a → q < length a → Says w a b (D.Alike p q) (Equal (Variable p) (Variable q))
alike_right_unsettled w a b p q s lp lq = alike_equal w a b p q s.grows lp lq (λ t m ap_ aq o. kind_unsettled a b q s t (earlier a b s.grows t m) aq)

pub alike_right_plain : (w : TypeReading) (a b : List Slot) (p q : ℕ) → KindSaid a b q Plain → p < length a → q < length a → Says w a b (D.Alike p q) (Equal (Variable p) (Variable q))
alike_right_plain w a b p q s lp lq = alike_equal w a b p q s.grows lp lq (λ t m ap_ aq o. (let z = sym (plain_target (t q) (plain_kind a b q s t m)) ∙ o.2 in cc))

-- ---- given values

given_equal : (a b : List Slot) (e : ℕ) (x : Term) → e < length b → TermWithin (length b) x →
    ((t : Typing) → Meets b t → Agree (Meets a) R.kind e → (of : TypeData) → t e ≡ MutableType of → ⊥) → GivenSays a b e x (Equal (Variable e) x)
given_equal a b e x lt within never = record {
  to = λ t m h. elim h [ inl same ↦ same | inr o ↦ absurd (never t m o.0 o.1.0 o.1.1) ];
  from = λ t m same. inl same;
  within = (lt, within);
  settled = refl;
}

pub given_unsettled : (a b : List Slot) (e : ℕ) (x : Term) → KindSaid a b e Unsettled → e < length b → TermWithin (length b) x → GivenSays a b e x (Equal (Variable e) x)
given_unsettled a b e x s lt within = given_equal a b e x lt within (λ t m agree of is. kind_unsettled a b e s t (earlier a b s.grows t m) agree)

pub given_plain : (a b : List Slot) (e : ℕ) (x : Term) → KindSaid a b e Plain → e < length b → TermWithin (length b) x → GivenSays a b e x (Equal (Variable e) x)
given_plain a b e x s lt within = given_equal a b e x lt within (λ t m agree of is. (let z = sym (plain_kind a b e s t m) ∙ ap R.kind is in cc))

pub given_shared : (a b : List Slot) (e : ℕ) (y x : Term) → KindSaid a b e (To Shared y) → e < length b → TermWithin (length b) x → GivenSays a b e x (Equal (Variable e) x)
given_shared a b e y x s lt within = given_equal a b e x lt within (λ t m agree of is. (let z = sym (shared_kind a b e y s t m) ∙ is in cc))

pub given_vector : (a b : List Slot) (e : ℕ) (y x : Term) → KindSaid a b e (To Vector y) → e < length b → TermWithin (length b) x → GivenSays a b e x (Equal (Variable e) x)
given_vector a b e y x s lt within = given_equal a b e x lt within (λ t m agree of is. no_vector a b e y s t m)

mutable_same : (x y : TypeData) → MutableType x ≡ MutableType y → x ≡ y
mutable_same x y e = cc

pub given_lent : (a b c : List Slot) (e q : ℕ) (y x : Term) → KindSaid a b e (To Mutable y) → e < length a → Keeps b c → TermWithin (length b) y → q < length c →
    ((t : Typing) → Meets c t → t q ≡ value t x) → GivenSays a c e x (Lent y q)
given_lent a b c e q y x s lt g within lq has = record {
  to = λ t m h. (let is = mutable_kind a b e y s t (earlier b c g t m) in elim h [
    | inl same ↦ inl (sym is ∙ same ∙ sym (has t m))
    | inr o ↦ inr (ap SharedType (mutable_same (value t y) o.1.0 (sym is ∙ o.1.1)) ∙ sym o.1.2 ∙ sym (has t m))
  ]);
  from = λ t m h. (let is = mutable_kind a b e y s t (earlier b c g t m) in elim h [
    | inl same ↦ inl (is ∙ same ∙ has t m)
    | inr same ↦ inr (to_agree a b e Mutable y s lt, (value t y, is, sym (has t m) ∙ sym same))
  ]);
  within = (term_more (length b) (length c) y g.longer within, lq);
  settled = refl;
}

-- an equation equivalent to a constraint is its equation, unless it says that the head is open
pub says_emits : (w : TypeReading) (a b : List Slot) (d : D.Constraint) (q : Equation) → is_unsettled q ≡ false → Says w a b d q → Emits w a b d q
says_emits w a b d Always e s = s
says_emits w a b d Never e s = s
says_emits w a b d EquationOpen e s = cc
says_emits w a b d (Equal x y) e s = s
says_emits w a b d (Sorted sort p) e s = s
says_emits w a b d (Lent x p) e s = s

-- a value given where a rule names a type
pub takes_emits : (w : TypeReading) (a b c : List Slot) (e : ℕ) (form : D.TypeForm) (x : Term) (q : Equation) → TermSaid a b x (λ t. D.form_type t form) → Keeps b c → GivenSays a c e x q → Emits w a c (D.Takes e form) q
takes_emits w a b c e form x q said g given = says_emits w a c (D.Takes e form) q given.settled record {
  to = λ t m h. given.to t m (subst (λ (of : TypeData). TypeFits (Meets a) e (t e) of) (sym (said.is t (earlier b c g t m))) h);
  from = λ t m h. subst (λ (of : TypeData). TypeFits (Meets a) e (t e) of) (said.is t (earlier b c g t m)) (given.from t m h);
  settled = tt;
  within = given.within;
}

-- ---- types of variables

pub has_equal : (w : TypeReading) (a b : List Slot) (p : ℕ) (form : D.TypeForm) (x : Term) → TermSaid a b x (λ t. D.form_type t form) → p < length a → Says w a b (D.Has p form) (Equal (Variable p) x)
has_equal w a b p form x said lt = record {
  to = λ t m h. h ∙ sym (said.is t m);
  from = λ t m h. h ∙ said.is t m;
  settled = tt;
  within = (variable_more a b p said.grows lt, said.within);
}

pub variables_within : (n : ℕ) (parts : List ℕ) (terms : List Term) → terms ≡ map Variable parts → VariablesWithin n parts → TermsWithin n terms
variables_within n parts terms e h = subst (λ (xs : List Term). TermsWithin n xs) (sym e) (all_in parts h)
  where
    all_in : (ps : List ℕ) → VariablesWithin n ps → TermsWithin n (map Variable ps)
    all_in [] h = tt
    all_in (p ∷ ps) h = (h.0, all_in ps h.1)

values_of : (t : Typing) (parts : List ℕ) → map (value t) (map Variable parts) ≡ map t parts
values_of t [] = refl
values_of t (p ∷ parts) = ap (λ (ts : List TypeData). t p ∷ ts) (values_of t parts)

pub tuple_equal : (w : TypeReading) (a b : List Slot) (p : ℕ) (parts : List ℕ) (x : Term) (terms : List Term) → terms ≡ map Variable parts → Keeps a b → TermWithin (length b) x →
    ((t : Typing) → Meets b t → value t x ≡ grouped Tuple (types_of (map (value t) terms))) → p < length a → Says w a b (D.TupleOf p parts) (Equal (Variable p) x)
tuple_equal w a b p parts x terms e g within is lt =
    let there : (t : Typing) → Meets b t → value t x ≡ TupleType (types_of (map t parts)) =
    λ t m. is t m ∙ ap (λ (xs : List Term). TupleType (types_of (map (value t) xs))) e ∙ ap (λ (ts : List TypeData). TupleType (types_of ts)) (values_of t parts) in
    record {
      to = λ t m h. h ∙ sym (there t m);
      from = λ t m h. h ∙ there t m;
      settled = tt;
      within = (variable_more a b p g lt, within);
    }

pub same_says : (w : TypeReading) (a : List Slot) (p q : ℕ) → p < length a → q < length a → Says w a a (D.Same p q) (Equal (Variable p) (Variable q))
same_says w a p q lp lq = record {
  to = λ t m h. h;
  from = λ t m h. h;
  settled = tt;
  within = (lp, lq);
}

pub barred_says : (w : TypeReading) (a : List Slot) → Says w a a D.Barred Never
barred_says w a = record {
  to = λ t m h. h;
  from = λ t m h. h;
  settled = tt;
  within = tt;
}

pub made_says : (w : TypeReading) (a : List Slot) (p e : ℕ) (wrap : RuleWrap) → p < length a → e < length a → Says w a a (D.MadeOf p wrap e) (Equal (Variable p) (Made (wrap_word wrap) e))
made_says w a p e wrap lp le = record {
  to = λ t m h. h ∙ sym (made_same wrap (t e));
  from = λ t m h. h ∙ made_same wrap (t e);
  settled = tt;
  within = (lp, le);
}

pub sort_says : (w : TypeReading) (a : List Slot) (p : ℕ) (sort : RuleSort) → p < length a → Says w a a (D.IsOf sort p) (Sorted (sort_word sort) p)
sort_says w a p sort lt = record {
  to = λ t m h. subst (λ (b : Bool). IsTrue b) (sym (sort_same sort (t p))) h;
  from = λ t m h. subst (λ (b : Bool). IsTrue b) (sort_same sort (t p)) h;
  settled = tt;
  within = lt;
}
