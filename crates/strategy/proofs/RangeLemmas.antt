-- Instances of the axiom on ranges, and case splits at such entries.
use Rattle.std.proofs.Common.{◌≡◌, inl, inr, ℕ, zero, suc, ◌+◌, ◌<◌, ◌≤◌, true, List, [], ◌∷◌, length, Option, Some, None, Result, Ok, Err, IfOk, refl, sym, ap, ◌∙◌, subst, arith, below_more}
use Rattle.std.specs.Prelude.{slice_get, MatchOption}
use Rattle.std.proofs.lemmas.Bool.{cases_lt}
use Rattle.std.proofs.lemmas.Option.{slice_get_within}
use Rattle.base.specs.TypeData.{TypeData, AddressType}
use Rattle.fol.specs.declared.operators.Connective.TheVariants.{Implies, Iff}
use Rattle.fol.specs.declared.shapes.Shape.{Shape}
use Rattle.fol.specs.FormulaData.{TermData, MaxTerm, FormulaData, IsFormula, NotFormula, JoinFormula, ConnectFormula}
use Rattle.axioms.specs.declared.axiom.Axiom.{Axiom}
use Rattle.axioms.specs.declared.axiom.Axiom.TheVariants.{Equal, EqualUnless, Cases, Implied, Exactly, Plain, OfStruct}
use Rattle.axioms.specs.declared.axiom.Equivalence.TheVariants.{Range, BoolTyped}
use Rattle.term_pool.specs.Items.{FormulaItem, formula_in, formulas_in}
use Rattle.term_pool.specs.Pools.{item_at, IsItem, IsOneNumber, Extends}
use Rattle.term_pool.specs.declared.node.Node.{Node}
use Rattle.term_pool.proofs.ShapeLemmas.{a_formula}
use Rattle.certificates.specs.BranchesBranch.{Branch}
use Rattle.certificates.specs.Due.{IsRange}
use Rattle.certificates.specs.Table.{range_axiom}
use Rattle.tableau.specs.PoolBranches.{BranchData, branch_in, IsFormulaNumber, IsOver}
use Rattle.tableau.specs.declared.entry.PoolEntry.{PoolEntry}
use Rattle.tableau.proofs.AnswerLemmas.{stored}
use Rattle.tableau.specs.Numbers.{formula_at}
use Rattle.tableau.specs.Compounds.{HasNoConnective, IsCompound}
use Rattle.tableau.specs.Steps.{NoSplitAt, AreCasesDue}
use Rattle.tableau.specs.declared.rules.compounds.Compound.{Compound}
use Rattle.tableau.specs.declared.rules.compounds.Compound.TheVariants.{Join, Not, Connect}
use Rattle.tableau.proofs.NumberLemmas.{number_stays, formula_stays}
use Rattle.tableau.proofs.EntryLemmas.{says_within, still_says, still_said, still_entry}
use Rattle.axiom_instances.specs.Asks.{AsksOfType, ByStructTyped, ByPackTyped, ByFieldTyped, ByRange, BySigner, ByVector, ByBool}
use Rattle.axiom_instances.specs.Lists.{Triggered, AreTriggered, NoneTriggered, MoreTriggered, IsAmong, IsHere, IsLater, AreOnly, ListsAll}
use Rattle.axiom_instances.specs.Numbers.{term_at, type_at}
use Rattle.axiom_instances.specs.declared.triggered.TriggeredAxiom.{TriggeredAxiom}
use Rattle.axiom_strategy.specs.declared.typings.Typing.{Typing}
use Rattle.axiom_strategy.specs.Typings.{IsTyping, Gives, Denies, IsUntyped, IsTypingOf}
use Rattle.tableau.specs.States.{NoRangeSplitAt, NoRangeSplitBefore}
use Rattle.strategy.specs.Ranges.{IsNoEquivalence, IsLeftSide, left_of, is_range_axiom, IsRangeInstance, ListsRange, NoRangeSplit, IsRangeSplitAt}

-- ---- equivalences

number_is : {x y : ℕ} → Some x ≡ Some y → x ≡ y
number_is e = cc

pub left_answer : (ns : List Node) (p : FormulaData) (compound : Compound) (o : Option ℕ) → o ≡ left_of compound → IsCompound ns p compound → MatchOption o (IsNoEquivalence p) (IsLeftSide ns p)
left_answer ns p (Join o list) None e h = record { none = λ q r f. (let both : JoinFormula o (formulas_in (item_at ns list)) ≡ ConnectFormula Iff q r = sym h ∙ f in absurd (cc)) }
left_answer ns p (Not inner) None e h = record { none = λ q r f. (let both : NotFormula (formula_at ns inner) ≡ ConnectFormula Iff q r = sym h.is ∙ f in absurd (cc)) }
left_answer ns p (Connect Implies a b) None e h = record { none = λ q r f. (let both : ConnectFormula Implies (formula_at ns a) (formula_at ns b) ≡ ConnectFormula Iff q r = sym h.is ∙ f in absurd (cc)) }
left_answer ns p (Connect Iff a b) None e h = absurd (cc)
left_answer ns p (Join o list) (Some n) e h = absurd (cc)
left_answer ns p (Not inner) (Some n) e h = absurd (cc)
left_answer ns p (Connect Implies a b) (Some n) e h = absurd (cc)
left_answer ns p (Connect Iff a b) (Some n) e h =
    let same : n ≡ a = number_is e in
    subst (IsLeftSide ns p) (sym same) (record { number = h.left_number; right = formula_at ns b; is = h.is })

pub no_connective : (p : FormulaData) → HasNoConnective p → IsNoEquivalence p
no_connective p h = record { none = λ q r e. (let there : HasNoConnective (ConnectFormula Iff q r) = subst HasNoConnective e h in there) }

-- ---- instances of the axiom on ranges

exactly_range : (name : Axiom) → is_range_axiom name ≡ true → name ≡ Exactly Range
exactly_range (Exactly Range) e = refl
exactly_range (Exactly BoolTyped) e = absurd (cc)
exactly_range (Equal x) e = absurd (cc)
exactly_range (EqualUnless x) e = absurd (cc)
exactly_range (Cases x) e = absurd (cc)
exactly_range (Implied x) e = absurd (cc)
exactly_range (Plain x) e = absurd (cc)
exactly_range (OfStruct x) e = absurd (cc)

pub instance_yes : (x : TriggeredAxiom) (formula : ℕ) → x.formula ≡ formula → is_range_axiom x.name ≡ true → IsRangeInstance x formula
instance_yes x formula e h = record { is_formula = e; is_range = exactly_range x.name h }

pub instance_is : (x : TriggeredAxiom) (formula : ℕ) → IsRangeInstance x formula → is_range_axiom x.name ≡ true
instance_is x formula h = ap is_range_axiom h.is_range

-- ---- lists of instances

-- none of the first instances has this number and is one of the axiom on ranges
pub record NoneListed (xs : List TriggeredAxiom) (formula count : ℕ) : Type 0 where
  pub none : (k : ℕ) (x : TriggeredAxiom) → k < count → slice_get xs k ≡ Some x → IsRangeInstance x formula → ⊥

instance_same : {x y : TriggeredAxiom} → Some x ≡ Some y → x ≡ y
instance_same e = cc

module _ (xs : List TriggeredAxiom) (formula : ℕ) where
  pub none_listed : NoneListed xs formula 0
  none_listed = record { none = λ k x w e h. absurd (omega (arith, w)) }

  pub none_more : (i : ℕ) (x : TriggeredAxiom) → slice_get xs i ≡ Some x → NoneListed xs formula i → (IsRangeInstance x formula → ⊥) → NoneListed xs formula (i + 1)
  none_more i x found h here = record { none = none }
    where
      none : (k : ℕ) (y : TriggeredAxiom) → k < i + 1 → slice_get xs k ≡ Some y → IsRangeInstance y formula → ⊥
      none k y w e is = elim (cases_lt k i) [ inl l ↦ h.none k y l e is | inr l ↦ (let same : i ≡ k = omega (arith, w, l) in let both : Some x ≡ Some y = sym found ∙ ap (slice_get xs) same ∙ e in here (subst (λ z. IsRangeInstance z formula) (sym (instance_same both)) is)) ]

  pub none_all : (i : ℕ) → length xs ≤ i → NoneListed xs formula i → ListsRange xs formula → ⊥
  none_all i w h l = h.none l.position l.instance (let v = slice_get_within xs l.position l.instance l.found in omega (arith, v, w)) l.found l.is

-- ---- triggers of a type and a term

triggered_range : {shapes : List Shape} {a : TypeData} {t : TermData} {name : Axiom} {ts : List TermData} {p : FormulaData} → AsksOfType shapes a t name ts p → name ≡ Exactly Range → IsRange p
triggered_range (ByRange a t most e) n = record { type = a; term = t; most = most; is_most = e; is = refl }
triggered_range (BySigner t) n = record { type = AddressType; term = t; most = MaxTerm; is_most = refl; is = refl }
triggered_range (ByStructTyped s us t h f) n = absurd (cc)
triggered_range (ByPackTyped s us ps h) n = absurd (cc)
triggered_range (ByFieldTyped s k t a h) n = absurd (cc)
triggered_range (ByVector a v) n = absurd (cc)
triggered_range (ByBool t) n = absurd (cc)

module _ (shapes : List Shape) (a : TypeData) (t : TermData) where
  range_at : {ns : List Node} {xs : List TriggeredAxiom} {as' : List Triggered} → AreTriggered ns xs as' → AreOnly (AsksOfType shapes a t) as' → (k : ℕ) (y : TriggeredAxiom) → slice_get xs k ≡ Some y → y.name ≡ Exactly Range → IsRange (formula_at ns y.formula)
  range_at NoneTriggered only k y e n = absurd (cc)
  range_at {ns} (MoreTriggered x c xs as' h r) only zero y e n =
      let same : x ≡ y = instance_same e in
      let named : c.name ≡ Exactly Range = sym h.name ∙ ap (λ (z : TriggeredAxiom). z.name) same ∙ n in
      let here : IsRange (formula_at ns x.formula) = subst IsRange (sym (ap formula_in h.formula.is)) (triggered_range only.0 named) in
      subst (λ (z : TriggeredAxiom). IsRange (formula_at ns z.formula)) same here
  range_at (MoreTriggered x c xs as' h r) only (suc k) y e n = range_at r only.1 k y e n

-- an instance of a list, with its formula
record IsFound (ns : List Node) (xs : List TriggeredAxiom) (name : Axiom) (p : FormulaData) : Type 0 where
  position : ℕ
  instance : TriggeredAxiom
  found : slice_get xs position ≡ Some instance
  named : instance.name ≡ name
  formula : IsItem ns instance.formula (FormulaItem p)

among_found : {ns : List Node} {a : Triggered} {xs : List TriggeredAxiom} {as' : List Triggered} → IsAmong a as' → AreTriggered ns xs as' → IsFound ns xs a.name a.formula
among_found (IsHere _) (MoreTriggered x a xs as' h r) = record { position = 0; instance = x; found = refl; named = h.name; formula = h.formula }
among_found (IsLater _ _ m) (MoreTriggered x a xs as' h r) =
    let rest = among_found m r in
    record { position = suc rest.position; instance = rest.instance; found = rest.found; named = rest.named; formula = rest.formula }

given_type : {p : FormulaData} {a b : TypeData} {t u : TermData} → IsTyping p a t → p ≡ IsFormula b u → (a ≡ b) × (t ≡ u)
given_type (Gives a t) e = (cc, cc)
given_type (Denies a t) e = absurd (cc)

-- the left side of an instance of the axiom gives its type to its term
left_gives : {ns : List Node} {p : FormulaData} {left : ℕ} → IsLeftSide ns p left → (h : IsRange p) → formula_at ns left ≡ IsFormula h.type h.term
left_gives {ns} {p} {left} side h =
    let both : ConnectFormula Iff (formula_at ns left) side.right ≡ range_axiom h.type h.term h.most = sym side.is ∙ h.is in
    cc

pub no_range : (p : FormulaData) → IsNoEquivalence p → IsRange p → ⊥
no_range p none h = none.none _ _ h.is

pub no_range_untyped : (ns : List Node) (p : FormulaData) (left : ℕ) → IsLeftSide ns p left → IsUntyped (formula_at ns left) → IsRange p → ⊥
no_range_untyped ns p left side none h = none.none h.type h.term (subst (λ q. IsTyping q h.type h.term) (sym (left_gives side h)) (Gives h.type h.term))

module _ (ns ms : List Node) (grown : Extends ns ms) (one : IsOneNumber ms) (formula : ℕ) (number : IsFormulaNumber ns formula) (shapes : List Shape) (left : ℕ) (side : IsLeftSide ns (formula_at ns formula) left) (typing : Typing) (typed : IsTypingOf ns (formula_at ns left) typing) (xs : List TriggeredAxiom) (all : ListsAll ms xs (AsksOfType shapes (type_at ns typing.of) (term_at ns typing.term))) where
  pub range_listed : ListsRange xs formula → IsRange (formula_at ns formula)
  range_listed l =
      let there = range_at shapes (type_at ns typing.of) (term_at ns typing.term) all.are all.exactly.only l.position l.instance l.found l.is.is_range in
      subst IsRange (ap (formula_at ms) l.is.is_formula ∙ formula_stays ns ms grown formula number) there

  pub listed_range : IsRange (formula_at ns formula) → ListsRange xs formula
  listed_range h =
      let same = given_type typed.is (left_gives side h) in
      let of_type : AsksOfType shapes (type_at ns typing.of) h.term (Exactly Range) (h.term ∷ []) (range_axiom h.type h.term h.most) = subst (λ a. AsksOfType shapes a h.term (Exactly Range) (h.term ∷ []) (range_axiom h.type h.term h.most)) (sym same.0) (ByRange h.type h.term h.most h.is_most) in
      let triggered : AsksOfType shapes (type_at ns typing.of) (term_at ns typing.term) (Exactly Range) (h.term ∷ []) (range_axiom h.type h.term h.most) = subst (λ t. AsksOfType shapes (type_at ns typing.of) t (Exactly Range) (h.term ∷ []) (range_axiom h.type h.term h.most)) (sym same.1) of_type in
      let found = among_found (all.exactly.all (Exactly Range) (h.term ∷ []) (range_axiom h.type h.term h.most) triggered) all.are in
      let there = number_stays ns ms grown formula number in
      let item : item_at ms formula ≡ FormulaItem (range_axiom h.type h.term h.most) = sym (a_formula (item_at ms formula) there.sort) ∙ ap FormulaItem (formula_stays ns ms grown formula number ∙ h.is) in
      record {
        position = found.position;
        instance = found.instance;
        found = found.found;
        is = record { is_formula = one.one found.instance.formula formula found.formula.within there.within (found.formula.is ∙ sym item); is_range = found.named };
      }

-- the same of a mapped result
pub answer_map : {T E A C : Type 0} {B D : T → Type 0} (r : Result (Option T) E) → (A → C) → ((t : T) → B t → D t) → IfOk r (λ m. MatchOption m A B) → IfOk r (λ m. MatchOption m C D)
answer_map (Ok None) f g h = f h
answer_map (Ok (Some t)) f g h = g t h
answer_map (Err e) f g h = h

-- ---- case splits at an entry

pub no_entry_split : (ns : List Node) (d : BranchData) (i : ℕ) → slice_get d.entries i ≡ None → NoRangeSplitAt (branch_in ns d) i
no_entry_split ns d i e = record {
  none = λ p ps says is due. (let it = stored ns d.entries i says.entry says.found in let both : Some it.entry ≡ None = sym it.found ∙ e in absurd (cc));
}

module _ (ns ms : List Node) (grown : Extends ns ms) (d : BranchData) (over : IsOver ns d) (i : ℕ) (e : PoolEntry) (found : slice_get d.entries i ≡ Some e) where
  pub no_range_entry : (IsRange (formula_at ns e.formula) → ⊥) → NoRangeSplitAt (branch_in ms d) i
  no_range_entry fails = record { none = λ p ps says is due. fails (subst IsRange (still_said ns ms grown d over i e p found says) is) }

  pub no_range_split : NoSplitAt (branch_in ms d) i → NoRangeSplitAt (branch_in ms d) i
  no_range_split h = record { none = λ p ps says is due. h.none ps due }

  pub range_split : IsRange (formula_at ns e.formula) → (numbers : List ℕ) → AreCasesDue ms (branch_in ms d) i numbers → IsRangeSplitAt ms (branch_in ms d) i numbers
  range_split is numbers h = record { formula = formula_at ns e.formula; says = still_entry ns ms grown d over i e found; is_range = is; cases = h }

-- ---- entry after entry

pub before_grown : (ns ms : List Node) → Extends ns ms → (d : BranchData) → IsOver ns d → (i : ℕ) → NoRangeSplitBefore (branch_in ns d) i → NoRangeSplitBefore (branch_in ms d) i
before_grown ns ms grown d over i h = subst (λ b. NoRangeSplitBefore b i) (sym (still_says ns ms grown d over)) h

pub before_more : (b : Branch) (i : ℕ) → NoRangeSplitBefore b i → NoRangeSplitAt b i → NoRangeSplitBefore b (i + 1)
before_more b i h at = record { each = below_more (NoRangeSplitAt b) i h.each at }

pub before_all : (ns : List Node) (d : BranchData) (i : ℕ) → length d.entries ≤ i → NoRangeSplitBefore (branch_in ns d) i → NoRangeSplit (branch_in ns d)
before_all ns d i w h = record {
  each = λ j. record { none = λ p ps says is due. (h.each j (omega (arith, w, says_within ns d j p says))).none p ps says is due };
}
