-- Terms to which an entry gives the type with which a body begins.
use Rattle.std.proofs.Common.{◌≡◌, ◌⊎◌, inl, inr, ℕ, ◌+◌, ◌<◌, ◌≤◌, Bool, List, [], ◌∷◌, length, get_or, take, Option, Some, None, refl, sym, ap, ◌∙◌, subst, arith}
use Rattle.std.specs.Prelude.{◌↔◌, IsTrue, slice_get}
use Rattle.std.proofs.lemmas.List.{take_all, take_more}
use Rattle.std.proofs.lemmas.Option.{slice_get_within}
use Rattle.base.specs.TypeData.{TypeData}
use Rattle.fol.specs.declared.operators.Connective.TheVariants.{Implies, Iff}
use Rattle.fol.specs.declared.operators.Junction.TheVariants.{AllOf, AnyOf}
use Rattle.fol.specs.FormulaData.{TermData, VarTerm, FormulaData, CompareFormula, IsFormula, HoldsFormula, NotFormula, JoinFormula, ConnectFormula, QuantifyFormula, NoFormulas, MoreFormulas}
use Rattle.term_pool.specs.Items.{Item, TermItem, TypeItem, FormulaItem, FormulasSort, TypeSort, sort_of, term_in, formula_in, formulas_in}
use Rattle.term_pool.specs.Pools.{item_at, item_of, items, IsMade, IsOneNumber}
use Rattle.term_pool.specs.declared.node.Leaf.TheVariants.{Var}
use Rattle.term_pool.specs.declared.node.One.TheVariants.{Join as JoinHead}
use Rattle.term_pool.specs.declared.node.Two.TheVariants.{Is as IsHead, Connect as ConnectHead}
use Rattle.term_pool.specs.declared.node.Three.TheVariants.{If}
use Rattle.term_pool.specs.declared.node.Node.{Node}
use Rattle.term_pool.specs.declared.node.Node.TheVariants.{Leaf as LeafNode, One as OneNode, Two as TwoNode, Three as ThreeNode}
use Rattle.term_pool.proofs.ShapeLemmas.{LeafShape, shape_of, a_term, a_formula, a_type}
use Rattle.certificates.specs.BranchesBranch.{Branch, Entry, Stands}
use Rattle.certificates.specs.Match.{Begins}
use Rattle.tableau.specs.PoolBranches.{BranchData, branch_in, IsFormulaNumber, IsTermNumber, IsOver}
use Rattle.tableau.proofs.MarkLemmas.{value_of}
use Rattle.tableau.proofs.AnswerLemmas.{stored, all_least}
use Rattle.ematching.specs.Numbers.{IsAmong, IsOfSort, term_at, formula_at, type_at}
use Rattle.ematching.specs.Heads.{head_of, HasHead}
use Rattle.ematching.specs.Listed.{AreThose}
use Rattle.ematching.specs.Matches.{lead_of, beginning_of, IsBeginning, BeginsList, IsFirstOr, typing_of, BeginsWith, BeginsWithNone, IsGiven, IsMeant, AreAdded, IsTypedMatch, IsGivenType, IsTyping, IsNoTyping}
use Rattle.ematching.specs.declared.types.Lead.TheVariants.{Formula, Listed}
use Rattle.ematching.proofs.ListLemmas.{among_first, among_push, among_push_cases}
use Rattle.ematching.proofs.ApartLemmas.{node_shape, shape_made, two_from}

-- ---- the beginning of a body

begins_to : (p : FormulaData) (a : TypeData) (x : ℕ) → Begins p a x → beginning_of p ≡ IsFormula a (VarTerm x)
begins_to (ConnectFormula Implies p q) a x h = h
begins_to (ConnectFormula Iff p q) a x h = h
begins_to (JoinFormula AllOf (MoreFormulas p ps)) a x h = h
begins_to (JoinFormula AllOf NoFormulas) a x h = h
begins_to (JoinFormula AnyOf ps) a x h = h
begins_to (CompareFormula o t u) a x h = h
begins_to (IsFormula b t) a x h = h
begins_to (HoldsFormula t) a x h = h
begins_to (NotFormula p) a x h = h
begins_to (QuantifyFormula o n ts p) a x h = h

begins_from : (p : FormulaData) (a : TypeData) (x : ℕ) → beginning_of p ≡ IsFormula a (VarTerm x) → Begins p a x
begins_from (ConnectFormula Implies p q) a x h = h
begins_from (ConnectFormula Iff p q) a x h = h
begins_from (JoinFormula AllOf (MoreFormulas p ps)) a x h = h
begins_from (JoinFormula AllOf NoFormulas) a x h = h
begins_from (JoinFormula AnyOf ps) a x h = h
begins_from (CompareFormula o t u) a x h = h
begins_from (IsFormula b t) a x h = h
begins_from (HoldsFormula t) a x h = h
begins_from (NotFormula p) a x h = h
begins_from (QuantifyFormula o n ts p) a x h = h

-- a node that is its own beginning
plain : (xs : List Item) (n : Node) → lead_of n ≡ None → formula_in (item_of xs n) ≡ beginning_of (formula_in (item_of xs n))
plain xs (TwoNode (ConnectHead Implies) a b) e = absurd (cc)
plain xs (OneNode (JoinHead AllOf) a) e = absurd (cc)
plain xs (LeafNode (Var x)) e = refl
plain xs (ThreeNode If a b c) e = refl
plain xs _ e = refl

-- a node whose beginning is a formula, or the first of a list
record Leads (m : Node) (a : ℕ) : Type 0 where
  second : ℕ
  is : m ≡ TwoNode (ConnectHead Implies) a second

leads : (m : Node) (a : ℕ) → lead_of m ≡ Some (Formula a) → Leads m a
leads (TwoNode (ConnectHead Implies) b c) a e =
    let both : Some (Formula b) ≡ Some (Formula a) = e in
    let same : b ≡ a = cc in
    record { second = c; is = ap (λ k. TwoNode (ConnectHead Implies) k c) same }
leads (OneNode (JoinHead AllOf) b) a e = absurd (cc)
leads _ a e = absurd (cc)

leads_list : (m : Node) (a : ℕ) → lead_of m ≡ Some (Listed a) → m ≡ OneNode (JoinHead AllOf) a
leads_list (OneNode (JoinHead AllOf) b) a e =
    let both : Some (Listed b) ≡ Some (Listed a) = e in
    let same : b ≡ a = cc in
    ap (λ k. OneNode (JoinHead AllOf) k) same
leads_list (TwoNode (ConnectHead Implies) b c) a e = absurd (cc)
leads_list _ a e = absurd (cc)

module _ (ns : List Node) (n : ℕ) (node : Node) (made : IsMade ns n node) where
  inside : n < length ns
  inside = slice_get_within ns n node made.found

  part_within : (a : ℕ) → a < n → a < length ns
  part_within a w = omega (arith, w, inside)

  pub lead_none : IsFormulaNumber ns n → lead_of node ≡ None → IsBeginning ns n n
  lead_none number e = record {
    number = number;
    is = ap formula_in made.item ∙ plain (items ns) node e ∙ ap (λ i. beginning_of (formula_in i)) (sym made.item);
  }

  pub lead_formula : (a : ℕ) → lead_of node ≡ Some (Formula a) → IsBeginning ns n a
  lead_formula a e =
      let leads_to = leads node a e in
      let it : IsMade ns n (TwoNode (ConnectHead Implies) a leads_to.second) = subst (IsMade ns n) leads_to.is made in
      record {
        number = record { within = part_within a it.parts.0.earlier; sort = it.parts.0.sort };
        is = sym (ap (λ i. beginning_of (formula_in i)) it.item);
      }

  -- the list of a conjunction
  pub record IsListOf (a : ℕ) : Type 0 where
    pub list : IsOfSort ns FormulasSort a
    pub is : formula_at ns n ≡ JoinFormula AllOf (formulas_in (item_at ns a))

  pub lead_list : (a : ℕ) → lead_of node ≡ Some (Listed a) → IsListOf a
  lead_list a e =
      let it : IsMade ns n (OneNode (JoinHead AllOf) a) = subst (IsMade ns n) (leads_list node a e) made in
      record {
        list = record { within = part_within a it.parts.earlier; sort = it.parts.sort };
        is = ap formula_in it.item;
      }

  lead_first : (a first : ℕ) → lead_of node ≡ Some (Listed a) → BeginsList ns a first → IsBeginning ns n first
  lead_first a first e h = record {
    number = h.is.number;
    is = sym (ap beginning_of ((lead_list a e).is ∙ ap (JoinFormula AllOf) h.is.is));
  }

  lead_empty : (a : ℕ) → IsFormulaNumber ns n → lead_of node ≡ Some (Listed a) → formulas_in (item_at ns a) ≡ NoFormulas → IsBeginning ns n n
  lead_empty a number e h =
      let is : formula_at ns n ≡ JoinFormula AllOf NoFormulas = (lead_list a e).is ∙ ap (JoinFormula AllOf) h in
      record { number = number; is = is ∙ sym (ap beginning_of is) }

  pub lead_or : (a first : ℕ) → IsFormulaNumber ns n → lead_of node ≡ Some (Listed a) → IsFirstOr ns a n first → IsBeginning ns n first
  lead_or a first number e (inl h) = lead_first a first e h
  lead_or a first number e (inr h) = subst (IsBeginning ns n) (sym h.1) (lead_empty a number e h.0)

-- ---- typings

module _ (ns : List Node) (n : ℕ) (node : Node) (made : IsMade ns n node) where
  -- the node is a typing of a term
  pub record IsTypingNode (p : ℕ × ℕ) : Type 0 where
    pub type : IsOfSort ns TypeSort p.0
    pub term : IsTermNumber ns p.1
    pub is : node ≡ TwoNode IsHead p.0 p.1
    pub formula : formula_at ns n ≡ IsFormula (type_at ns p.0) (term_at ns p.1)

  typing_node : (m : Node) → m ≡ node → IsMade ns n m → (p : ℕ × ℕ) → typing_of m ≡ Some p → IsTypingNode p
  typing_node (TwoNode IsHead a t) e it p f =
      let both : Some (a, t) ≡ Some p = f in
      let same : ◌≡◌ {A = ℕ × ℕ} (a, t) p = cc in
      let inside : n < length ns = slice_get_within ns n (TwoNode IsHead a t) it.found in
      subst IsTypingNode same (record {
        type = record { within = (let w = it.parts.0.earlier in omega (arith, w, inside)); sort = it.parts.0.sort };
        term = record { within = (let w = it.parts.1.earlier in omega (arith, w, inside)); sort = it.parts.1.sort };
        is = sym e;
        formula = ap formula_in it.item;
      })
  typing_node _ e it p f = absurd (cc)

  pub typing_some : (p : ℕ × ℕ) → typing_of node ≡ Some p → IsTypingNode p
  typing_some p e = typing_node node refl made p e

  formula_shape_is : IsFormulaNumber ns n → (p : FormulaData) → formula_at ns n ≡ p → node_shape ns node ≡ shape_of (FormulaItem p)
  formula_shape_is number p e = sym (shape_made ns n node made) ∙ ap shape_of (sym (a_formula (item_at ns n) number.sort)) ∙ ap (λ q. shape_of (FormulaItem q)) e

  pub typing_none : IsFormulaNumber ns n → typing_of node ≡ None → (a : TypeData) (t : TermData) → formula_at ns n ≡ IsFormula a t → ⊥
  typing_none number e a t f =
      let it = two_from ns IsHead (TypeItem a) (TermItem t) node (formula_shape_is number (IsFormula a t) f) in
      let both = sym e ∙ ap typing_of (sym it.is) in
      absurd (cc)

  -- by the numbers of the type and the term
  pub typing_is : IsOneNumber ns → IsFormulaNumber ns n → (a t : ℕ) → IsOfSort ns TypeSort a → IsTermNumber ns t → formula_at ns n ≡ IsFormula (type_at ns a) (term_at ns t) → node ≡ TwoNode IsHead a t
  typing_is one number a t ha ht f =
      let it = two_from ns IsHead (TypeItem (type_at ns a)) (TermItem (term_at ns t)) node (formula_shape_is number (IsFormula (type_at ns a) (term_at ns t)) f) in
      let made_it : IsMade ns n (TwoNode IsHead it.first it.second) = subst (IsMade ns n) (sym it.is) made in
      let inside : n < length ns = slice_get_within ns n node made.found in
      let same_type : it.first ≡ a = one.one it.first a (let w = made_it.parts.0.earlier in omega (arith, w, inside)) ha.within (it.first_item ∙ a_type (item_at ns a) ha.sort) in
      let same_term : it.second ≡ t = one.one it.second t (let w = made_it.parts.1.earlier in omega (arith, w, inside)) ht.within (it.second_item ∙ a_term (item_at ns t) ht.sort) in
      sym it.is ∙ (λ i. TwoNode IsHead (same_type i) (same_term i))

  -- ---- the variable

  leaf_from : (x : ℕ) (r : Node) → node_shape ns r ≡ LeafShape (Var x) → r ≡ LeafNode (Var x)
  leaf_from x (LeafNode k) e = (let same : k ≡ Var x = cc in ap LeafNode same)
  leaf_from x _ e = absurd (cc)

  pub variable_is : IsTermNumber ns n → (b : Bool) (x : ℕ) → IsTrue b ↔ (node ≡ LeafNode (Var x)) → IsTrue b ↔ (term_at ns n ≡ VarTerm x)
  variable_is number b x h = (
    λ t. ap term_in made.item ∙ ap (λ m. term_in (item_of (items ns) m)) (h.0 t),
    λ e. h.1 (leaf_from x node (sym (shape_made ns n node made) ∙ ap shape_of (sym (a_term (item_at ns n) number.sort)) ∙ ap (λ u. shape_of (TermItem u)) e)),
  )

-- ---- the type with which a body begins

module _ (ns : List Node) (body first : ℕ) (begins : IsBeginning ns body first) (x : ℕ) where
  pub no_type : ((a : TypeData) (t : TermData) → formula_at ns first ≡ IsFormula a t → ⊥) → BeginsWithNone (formula_at ns body) x
  no_type none = record { none = λ a h. none a (VarTerm x) (begins.is ∙ begins_to (formula_at ns body) a x h) }

  module _ (node : Node) (made : IsMade ns first node) (p : ℕ × ℕ) (it : IsTypingNode ns first node made p) where
    pub other_term : (term_at ns p.1 ≡ VarTerm x → ⊥) → BeginsWithNone (formula_at ns body) x
    other_term other = record { none = λ a h. (let both : IsFormula (type_at ns p.0) (term_at ns p.1) ≡ IsFormula a (VarTerm x) = sym it.formula ∙ begins.is ∙ begins_to (formula_at ns body) a x h in let same : term_at ns p.1 ≡ VarTerm x = cc in other same) }

    pub this_type : term_at ns p.1 ≡ VarTerm x → BeginsWith ns (formula_at ns body) x p.0
    this_type e = record { number = it.type; begins = begins_from (formula_at ns body) (type_at ns p.0) x (sym begins.is ∙ it.formula ∙ ap (IsFormula (type_at ns p.0)) e) }

one_type : (p : FormulaData) (x : ℕ) (a c : TypeData) → Begins p a x → Begins p c x → a ≡ c
one_type p x a c h g = (let both : IsFormula a (VarTerm x) ≡ IsFormula c (VarTerm x) = sym (begins_to p a x h) ∙ begins_to p c x g in cc)

-- ---- answers

module _ (ns : List Node) (b : Branch) (given : Option ℕ) where
  pub added_none : (P : ℕ → Type 0) (found more : List ℕ) → more ≡ found → ((v : ℕ) → IsTermNumber ns v → IsGiven given v → P v → ⊥) → AreAdded ns given P found more
  added_none P found more e none = record { each = λ v. (λ a. inl (subst (IsAmong v) e a), λ q. subst (IsAmong v) (sym e) (from v q)) }
    where
      from : (v : ℕ) → IsAmong v found ⊎ IsMeant ns given P v → IsAmong v found
      from v (inl a) = a
      from v (inr h) = absurd (none v h.number h.is_given h.holds)

  pub added_same : (P Q : ℕ → Type 0) → ((v : ℕ) → IsTermNumber ns v → P v ↔ Q v) → (found more : List ℕ) → AreAdded ns given P found more → AreAdded ns given Q found more
  added_same P Q same found more h = record { each = λ v. (λ a. to v ((h.each v).0 a), λ q. (h.each v).1 (from v q)) }
    where
      to : (v : ℕ) → IsAmong v found ⊎ IsMeant ns given P v → IsAmong v found ⊎ IsMeant ns given Q v
      to v (inl a) = inl a
      to v (inr m) = inr (record { number = m.number; is_given = m.is_given; holds = (same v m.number).0 m.holds })

      from : (v : ℕ) → IsAmong v found ⊎ IsMeant ns given Q v → IsAmong v found ⊎ IsMeant ns given P v
      from v (inl a) = inl a
      from v (inr m) = inr (record { number = m.number; is_given = m.is_given; holds = (same v m.number).1 m.holds })

  pub no_typed : (p : FormulaData) (x : ℕ) → BeginsWithNone p x → (found more : List ℕ) → more ≡ found → AreAdded ns given (IsTypedMatch b p x ns) found more
  no_typed p x none found more e = added_none (IsTypedMatch b p x ns) found more e (λ v number is h. none.none h.type h.begins)

  pub typed_is : (p : FormulaData) (x a : ℕ) → BeginsWith ns p x a → (found more : List ℕ) → AreAdded ns given (IsGivenType ns b a) found more → AreAdded ns given (IsTypedMatch b p x ns) found more
  typed_is p x a begins found more h = added_same (IsGivenType ns b a) (IsTypedMatch b p x ns) (λ v number. (λ g. record { type = type_at ns a; begins = begins.begins; stands = g }, λ g. subst (λ t. Stands b (IsFormula t (term_at ns v))) (one_type p x g.type (type_at ns a) g.begins begins.begins) g.stands)) found more h

-- ---- entries that give a type

pub record HasTypingEntry (ns : List Node) (a t : ℕ) : Type 0 where
  pub number : ℕ
  pub made : IsMade ns number (TwoNode IsHead a t)

module _ (ns : List Node) (one : IsOneNumber ns) (d : BranchData) (over : IsOver ns d) where
  pub typing_entry : (a t : ℕ) → IsOfSort ns TypeSort a → IsTermNumber ns t → IsGivenType ns (branch_in ns d) a t → HasTypingEntry ns a t
  typing_entry a t ha ht h =
      let it = stored ns d.entries h.position h.says.entry h.says.found in
      let formula = over.formulas h.position it.entry it.found in
      let least = all_least ns d over in
      let has = value_of d.generations it.entry.formula it.entry.generation (least.entries h.position it.entry it.found) in
      let node = least.closed.nodes it.entry.formula has.value has.is in
      let says : formula_at ns it.entry.formula ≡ IsFormula (type_at ns a) (term_at ns t) = ap (λ (e : Entry). e.formula) it.is ∙ h.says.is in
      record { number = it.entry.formula; made = subst (IsMade ns it.entry.formula) (typing_is ns it.entry.formula node.node node.made one formula a t ha ht says) node.made }

  module _ (a t : ℕ) (ha : IsOfSort ns TypeSort a) (ht : IsTermNumber ns t) (found more : List ℕ) where
    pub term_not_given : more ≡ found → (IsGivenType ns (branch_in ns d) a t → ⊥) → AreAdded ns (Some t) (IsGivenType ns (branch_in ns d) a) found more
    term_not_given e none = added_none ns (branch_in ns d) (Some t) (IsGivenType ns (branch_in ns d) a) found more e (λ v number is h. none (subst (IsGivenType ns (branch_in ns d) a) is h))

    pub term_nowhere : more ≡ found → ((i : ℕ) → slice_get ns i ≡ Some (TwoNode IsHead a t) → ⊥) → AreAdded ns (Some t) (IsGivenType ns (branch_in ns d) a) found more
    term_nowhere e none = term_not_given e (λ h. (let it = typing_entry a t ha ht h in none it.number it.made.found))

    pub term_given : ((n : ℕ) → IsAmong n more ↔ (IsAmong n found ⊎ (n ≡ t))) → IsGivenType ns (branch_in ns d) a t → AreAdded ns (Some t) (IsGivenType ns (branch_in ns d) a) found more
    term_given h g = record { each = λ v. (λ k. to v ((h v).0 k), λ q. (h v).1 (from v q)) }
      where
        to : (v : ℕ) → IsAmong v found ⊎ (v ≡ t) → IsAmong v found ⊎ IsMeant ns (Some t) (IsGivenType ns (branch_in ns d) a) v
        to v (inl k) = inl k
        to v (inr e) = inr (record { number = subst (IsTermNumber ns) (sym e) ht; is_given = e; holds = subst (IsGivenType ns (branch_in ns d) a) (sym e) g })

        from : (v : ℕ) → IsAmong v found ⊎ IsMeant ns (Some t) (IsGivenType ns (branch_in ns d) a) v → IsAmong v found ⊎ (v ≡ t)
        from v (inl k) = inl k
        from v (inr m) = inr m.is_given

pub typing_number : (ns : List Node) (f a t : ℕ) → IsMade ns f (TwoNode IsHead a t) → IsFormulaNumber ns f
typing_number ns f a t made = record { within = slice_get_within ns f (TwoNode IsHead a t) made.found; sort = ap sort_of made.item }

pub typing_stands : (ns : List Node) (b : Branch) (f a t : ℕ) → IsMade ns f (TwoNode IsHead a t) → Stands b (formula_at ns f) ↔ IsGivenType ns b a t
typing_stands ns b f a t made = (let e : formula_at ns f ≡ IsFormula (type_at ns a) (term_at ns t) = ap formula_in made.item in (λ h. subst (Stands b) e h, λ h. subst (Stands b) (sym e) h))

-- ---- a formula with the head symbol of the typings

head_is : (a : ℕ) (n : Node) → head_of n ≡ TwoNode IsHead a 0 → (p : ℕ × ℕ) → typing_of n ≡ Some p → a ≡ p.0
head_is a (TwoNode IsHead c t) e p f =
    let both : Some (c, t) ≡ Some p = f in
    let same : ◌≡◌ {A = ℕ × ℕ} (c, t) p = cc in
    let first : c ≡ p.0 = ap (λ (q : ℕ × ℕ). q.0) same in
    let is : c ≡ a = cc in
    sym is ∙ first
head_is a _ e p f = absurd (cc)

head_typing : (a : ℕ) (n : Node) → head_of n ≡ TwoNode IsHead a 0 → typing_of n ≡ None → ⊥
head_typing a (TwoNode IsHead c t) e f = absurd (cc)
head_typing a _ e f = absurd (cc)

module _ (ns : List Node) (b : Branch) (a f : ℕ) (head : HasHead ns (TwoNode IsHead a 0) f) (node : Node) (made : IsMade ns f node) where
  same_node_at : head_of node ≡ TwoNode IsHead a 0
  same_node_at = (let both : Some node ≡ Some head.node = sym made.found ∙ head.found in let same : node ≡ head.node = cc in ap head_of same ∙ head.same)

  pub never_none : typing_of node ≡ None → ⊥
  never_none e = head_typing a node same_node_at e

  module _ (p : ℕ × ℕ) (e : typing_of node ≡ Some p) where
    pub typing_made : IsMade ns f (TwoNode IsHead a p.1)
    typing_made =
        let it = typing_some ns f node made p e in
        let same : a ≡ p.0 = head_is a node same_node_at p e in
        subst (IsMade ns f) (it.is ∙ sym (ap (λ k. TwoNode IsHead k p.1) same)) made

    pub no_typing : (Stands b (formula_at ns f) → ⊥) → IsNoTyping ns b a f
    no_typing none = record { none = λ v h. none h.stands }

    pub is_typing : Stands b (formula_at ns f) → IsTyping ns b a f p.1
    is_typing h = record { made = typing_made; stands = h }

-- ---- one formula after another

pub record HasTyping (ns : List Node) (b : Branch) (a : ℕ) (formulas : List ℕ) (v : ℕ) : Type 0 where
  pub formula : ℕ
  pub among : IsAmong formula formulas
  pub typing : IsTyping ns b a formula v

module _ (ns : List Node) (b : Branch) (a : ℕ) (formulas found : List ℕ) where
  pub typings_begun : (more : List ℕ) → more ≡ found → AreAdded ns None (HasTyping ns b a []) found more
  typings_begun more e = added_none ns b None (HasTyping ns b a []) found more e (λ v number is h. h.among)

  one_term : (f v u : ℕ) → IsTyping ns b a f v → IsTyping ns b a f u → v ≡ u
  one_term f v u h g = (let both : Some (TwoNode IsHead a v) ≡ Some (TwoNode IsHead a u) = sym h.made.found ∙ g.made.found in cc)

  module _ (i : ℕ) (w : i < length formulas) (before more : List ℕ) (h : AreAdded ns None (HasTyping ns b a (take i formulas)) found before) where
    abbrev here : ℕ
    here = get_or formulas i 0

    still : (n : ℕ) → IsAmong n (take i formulas) → IsAmong n (take (i + 1) formulas)
    still n k = subst (IsAmong n) (sym (take_more formulas i 0 w)) (among_first n (take i formulas) (here ∷ []) k)

    now : IsAmong here (take (i + 1) formulas)
    now = subst (IsAmong here) (sym (take_more formulas i 0 w)) (among_push (take i formulas) here)

    cases_at : (n : ℕ) → IsAmong n (take (i + 1) formulas) → IsAmong n (take i formulas) ⊎ (n ≡ here)
    cases_at n k = among_push_cases n here (take i formulas) (subst (IsAmong n) (take_more formulas i 0 w) k)

    further : (v : ℕ) → IsMeant ns None (HasTyping ns b a (take i formulas)) v → IsMeant ns None (HasTyping ns b a (take (i + 1) formulas)) v
    further v m = record { number = m.number; is_given = tt; holds = record { formula = m.holds.formula; among = still m.holds.formula m.holds.among; typing = m.holds.typing } }

    pub typings_skip : more ≡ before → IsNoTyping ns b a here → AreAdded ns None (HasTyping ns b a (take (i + 1) formulas)) found more
    typings_skip e none = record { each = λ v. (λ k. to v ((h.each v).0 (subst (IsAmong v) e k)), λ q. subst (IsAmong v) (sym e) ((h.each v).1 (from v q))) }
      where
        to : (v : ℕ) → IsAmong v found ⊎ IsMeant ns None (HasTyping ns b a (take i formulas)) v → IsAmong v found ⊎ IsMeant ns None (HasTyping ns b a (take (i + 1) formulas)) v
        to v (inl k) = inl k
        to v (inr m) = inr (further v m)

        pick : (v : ℕ) (m : IsMeant ns None (HasTyping ns b a (take (i + 1) formulas)) v) → IsAmong m.holds.formula (take i formulas) ⊎ (m.holds.formula ≡ here) → IsMeant ns None (HasTyping ns b a (take i formulas)) v
        pick v m (inl k) = record { number = m.number; is_given = tt; holds = record { formula = m.holds.formula; among = k; typing = m.holds.typing } }
        pick v m (inr f) = absurd (none.none v (subst (λ n. IsTyping ns b a n v) f m.holds.typing))

        from : (v : ℕ) → IsAmong v found ⊎ IsMeant ns None (HasTyping ns b a (take (i + 1) formulas)) v → IsAmong v found ⊎ IsMeant ns None (HasTyping ns b a (take i formulas)) v
        from v (inl k) = inl k
        from v (inr m) = inr (pick v m (cases_at m.holds.formula m.holds.among))

    typing_term : (t : ℕ) → IsTyping ns b a here t → IsTermNumber ns t
    typing_term t g = record { within = (let u = g.made.parts.1.earlier in let s = slice_get_within ns here (TwoNode IsHead a t) g.made.found in omega (arith, u, s)); sort = g.made.parts.1.sort }

    pub typings_push : (t : ℕ) → IsTyping ns b a here t → ((n : ℕ) → IsAmong n more ↔ (IsAmong n before ⊎ (n ≡ t))) → AreAdded ns None (HasTyping ns b a (take (i + 1) formulas)) found more
    typings_push t g inserted = record { each = λ v. (λ k. to v ((inserted v).0 k), λ q. (inserted v).1 (from v q)) }
      where
        early : (v : ℕ) → IsAmong v found ⊎ IsMeant ns None (HasTyping ns b a (take i formulas)) v → IsAmong v found ⊎ IsMeant ns None (HasTyping ns b a (take (i + 1) formulas)) v
        early v (inl k) = inl k
        early v (inr m) = inr (further v m)

        to : (v : ℕ) → IsAmong v before ⊎ (v ≡ t) → IsAmong v found ⊎ IsMeant ns None (HasTyping ns b a (take (i + 1) formulas)) v
        to v (inl k) = early v ((h.each v).0 k)
        to v (inr e) = inr (record { number = subst (IsTermNumber ns) (sym e) (typing_term t g); is_given = tt; holds = record { formula = here; among = now; typing = subst (IsTyping ns b a here) (sym e) g } })

        pick : (v : ℕ) (m : IsMeant ns None (HasTyping ns b a (take (i + 1) formulas)) v) → IsAmong m.holds.formula (take i formulas) ⊎ (m.holds.formula ≡ here) → IsAmong v before ⊎ (v ≡ t)
        pick v m (inl k) = inl ((h.each v).1 (inr (record { number = m.number; is_given = tt; holds = record { formula = m.holds.formula; among = k; typing = m.holds.typing } })))
        pick v m (inr f) = inr (one_term here v t (subst (λ n. IsTyping ns b a n v) f m.holds.typing) g)

        from : (v : ℕ) → IsAmong v found ⊎ IsMeant ns None (HasTyping ns b a (take (i + 1) formulas)) v → IsAmong v before ⊎ (v ≡ t)
        from v (inl k) = inl ((h.each v).1 (inl k))
        from v (inr m) = pick v m (cases_at m.holds.formula m.holds.among)

pub typings_done : (ns : List Node) → IsOneNumber ns → (d : BranchData) → IsOver ns d → (a : ℕ) → IsOfSort ns TypeSort a → (formulas found more : List ℕ) (i : ℕ) → length formulas ≤ i → AreThose (HasHead ns (TwoNode IsHead a 0)) formulas → AreAdded ns None (HasTyping ns (branch_in ns d) a (take i formulas)) found more → AreAdded ns None (IsGivenType ns (branch_in ns d) a) found more
typings_done ns one d over a ha formulas found more i w those h = added_same ns (branch_in ns d) None (HasTyping ns (branch_in ns d) a (take i formulas)) (IsGivenType ns (branch_in ns d) a) (λ v number. (λ g. (typing_stands ns (branch_in ns d) g.formula a v g.typing.made).0 g.typing.stands, λ g. back v number g)) found more h
  where
    back : (v : ℕ) → IsTermNumber ns v → IsGivenType ns (branch_in ns d) a v → HasTyping ns (branch_in ns d) a (take i formulas) v
    back v number g =
        let it = typing_entry ns one d over a v ha number g in
        record {
          formula = it.number;
          among = subst (IsAmong it.number) (sym (take_all i formulas w)) ((those.each it.number).1 (record { node = TwoNode IsHead a v; found = it.made.found; same = refl }));
          typing = record { made = it.made; stands = (typing_stands ns (branch_in ns d) it.number a v it.made).1 g };
        }
