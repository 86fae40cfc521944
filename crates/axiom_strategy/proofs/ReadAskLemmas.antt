-- Triggers by reads of memories and of vectors.
use Rattle.std.proofs.Common.{◌≡◌, ◌↔◌, ◌⊎◌, inl, inr, ℕ, ◌+◌, ◌<◌, List, [], ◌++◌, length, map, take, get_or, Some, None, refl, sym, ap, ◌∙◌, subst}
use Rattle.std.specs.Prelude.{slice_index_or, Contains}
use Rattle.std.specs.List.{flat_map}
use Rattle.std.proofs.lemmas.List.{take_more, flat_map_more}
use Rattle.std.proofs.lemmas.List.Elements.{Contains-get_or, Contains-append_left, Contains-append_right, Contains-append_cases}
use Rattle.base.specs.TypeData.{TypeData}
use Rattle.fol.specs.declared.shapes.Shape.{Shape}
use Rattle.fol.specs.FormulaData.{TermData, FormulaData}
use Rattle.axioms.specs.declared.axiom.Axiom.{Axiom}
use Rattle.term_pool.specs.Items.{term_in}
use Rattle.term_pool.specs.Pools.{item_at, IsOneNumber}
use Rattle.term_pool.specs.declared.node.Node.{Node}
use Rattle.term_pool.proofs.ShapeLemmas.{a_term}
use Rattle.certificates.specs.BranchesBranch.{Branch, IsTerm}
use Rattle.certificates.specs.Joined.{IsItemRead}
use Rattle.tableau.specs.PoolBranches.{BranchData, branch_in, IsOver}
use Rattle.congruence_closure.specs.Known.{BranchClassesData, AreExact}
use Rattle.tableau.specs.Terms.{IsBranchTerm, AreBranchTerms, AreClassesOf}
use Rattle.tableau.proofs.BranchLemmas.{term_number}
use Rattle.axiom_instances.specs.declared.reading.TermForm.{TermForm}
use Rattle.axiom_instances.specs.Asks.{AsksOfRead, AsksOfItem}
use Rattle.axiom_instances.specs.Numbers.{IsTermNumber, HasForm, term_at}
use Rattle.axiom_instances.specs.Present.{IsReadAt}
use Rattle.axiom_strategy.specs.declared.askers.Asker.{Asker}
use Rattle.axiom_strategy.specs.declared.askers.Asker.TheVariants.{Read, Item}
use Rattle.axiom_strategy.specs.declared.reads.Reading.{Reading}
use Rattle.axiom_strategy.specs.declared.reads.Reading.TheVariants.{OfVector}
use Rattle.axiom_strategy.specs.declared.reads.ReadIndex.{ReadIndex}
use Rattle.axiom_strategy.specs.declared.typings.Typing.{Typing}
use Rattle.axiom_strategy.specs.Due.{AsksOfSome}
use Rattle.axiom_strategy.specs.Askers.{asks_at}
use Rattle.axiom_strategy.specs.Typings.{IsListedTyping, AreTypings}
use Rattle.axiom_strategy.specs.Families.{IsAskerOn, AskAll, AsksOfReads, ByRead, AsksOfItems, ByItemRead}
use Rattle.axiom_strategy.specs.Reads.{made_of, IsReadBy, IsReadIndex, keys_in, read_asker, item_asker, IsReadAsker, IsReadAmong, items_of, item_list}
use Rattle.axiom_strategy.specs.Vectors.{AreMoreAskers}
use Rattle.axiom_strategy.proofs.DueLemmas.{term_number as branch_number}
use Rattle.axiom_strategy.proofs.AskerLemmas.{one_asks}
use Rattle.axiom_strategy.proofs.FamilyLemmas.{in_flat_map}
use Rattle.axiom_strategy.proofs.RangeLemmas.{contains_map}
use Rattle.axiom_strategy.proofs.ReadLemmas.{base_in, IsReadHere, made_is, base_term, read_cases, read_back}
use Rattle.axiom_strategy.proofs.ReadClassLemmas.{to_key, from_key}
use Rattle.axiom_strategy.proofs.TakenLemmas.{none_taken, taken_kept, taken_last, taken_cases, of_map, of_flat_map}
use Rattle.axiom_strategy.proofs.TypedLemmas.{typed_term, listed_typing, among, typed_number}

number_of : {ns : List Node} {b : Branch} {n : ℕ} → IsBranchTerm ns b n → IsTermNumber ns n
number_of {ns} {n = n} h = record { within = h.number.within; is = sym (a_term (item_at ns n) h.number.sort) }

-- ---- a term that is not made of another one

pub none_read : (ns : List Node) (b : Branch) (t : ℕ) (form : TermForm) (old : List Asker) → HasForm ns t form → made_of form ≡ None → AreMoreAskers old old (IsReadAsker ns b t)
none_read ns b t form old h none = record { each = λ x. (λ m. inl m, λ s. back x s) }
  where
    never : (k : ℕ) → IsReadAt b (term_at ns t) (term_at ns k) → ⊥
    never k r = subst (IsReadHere b (term_at ns t) (term_at ns k)) (made_is ns t form h ∙ ap (base_in ns) none) (read_cases r)

    back : (x : Asker) → Contains old x ⊎ IsReadAsker ns b t x → Contains old x
    back x (inl o) = o
    back x (inr s) = absurd (never s.key s.on.stands.2)

module _ (ns : List Node) (one : IsOneNumber ns) (d : BranchData) (over : IsOver ns d) (c : BranchClassesData) (classes : AreClassesOf ns d c) (exact : AreExact c) (index : ReadIndex) (h : IsReadIndex ns (branch_in ns d) c index) where
  abbrev b : Branch
  b = branch_in ns d

  -- ---- a term that is made of another one

  module _ (t : ℕ) (s : IsBranchTerm ns b t) (form : TermForm) (has : HasForm ns t form) (reading : Reading) (base : ℕ) (made : made_of form ≡ Some (reading, base)) where
    abbrev own : List ℕ
    own = keys_in index c reading t

    abbrev others : List ℕ
    others = keys_in index c reading base

    base_stands : IsBranchTerm ns b base
    base_stands = base_term ns b t form (reading, base) s.stands has made

    read_on : (k : ℕ) → IsBranchTerm ns b k → IsReadBy b reading (term_at ns t) (term_at ns k) ⊎ IsReadBy b reading (term_at ns base) (term_at ns k) → IsAskerOn ns b (Read t k)
    read_on k r by = record {
      numbers = record { first = number_of s; second = number_of r };
      stands = (s.stands, r.stands, read_back b (term_at ns t) (term_at ns k) (subst (IsReadHere b (term_at ns t) (term_at ns k)) (sym (made_is ns t form has ∙ ap (base_in ns) made)) by));
    }

    on_own : (k : ℕ) → Contains own k → IsAskerOn ns b (Read t k)
    on_own k m = let r = from_key ns one d over c classes exact index h reading t k s m in read_on k r.0 (inl r.1)

    on_others : (k : ℕ) → Contains others k → IsAskerOn ns b (Read t k)
    on_others k m = let r = from_key ns one d over c classes exact index h reading base k base_stands m in read_on k r.0 (inr r.1)

    of_keys : (keys : List ℕ) → ((k : ℕ) → Contains keys k → IsAskerOn ns b (Read t k)) → (x : Asker) → Contains (map (read_asker t) keys) x → IsReadAsker ns b t x
    of_keys keys on x m = let f = of_map (read_asker t) keys x m in record { key = f.element; on = on f.element f.among; is = sym f.is }

    keys_of : (k : ℕ) → IsAskerOn ns b (Read t k) → Contains own k ⊎ Contains others k
    keys_of k on =
        let r : IsBranchTerm ns b k = record { number = branch_number on.numbers.second; stands = on.stands.1 } in
        elim (subst (IsReadHere b (term_at ns t) (term_at ns k)) (made_is ns t form has ∙ ap (base_in ns) made) (read_cases on.stands.2)) [
          | inl by ↦ inl (to_key ns one d over c classes exact index h reading t k s r by)
          | inr by ↦ inr (to_key ns one d over c classes exact index h reading base k base_stands r by)
        ]

    pub some_read : (old mid new : List Asker) → mid ≡ old ++ map (read_asker t) own → new ≡ mid ++ map (read_asker t) others → AreMoreAskers old new (IsReadAsker ns b t)
    some_read old mid new e f = record { each = λ x. (there x, back x) }
      where
        first : (x : Asker) → Contains mid x → Contains old x ⊎ IsReadAsker ns b t x
        first x m = elim (Contains-append_cases old (map (read_asker t) own) x (subst (λ xs. Contains xs x) e m)) [ inl o ↦ inl o | inr o ↦ inr (of_keys own on_own x o) ]

        there : (x : Asker) → Contains new x → Contains old x ⊎ IsReadAsker ns b t x
        there x m = elim (Contains-append_cases mid (map (read_asker t) others) x (subst (λ xs. Contains xs x) f m)) [ inl o ↦ first x o | inr o ↦ inr (of_keys others on_others x o) ]

        second : (x : Asker) → Contains mid x → Contains new x
        second x m = subst (λ xs. Contains xs x) (sym f) (Contains-append_left mid (map (read_asker t) others) x m)

        key_in : (k : ℕ) → Contains own k ⊎ Contains others k → Contains new (Read t k)
        key_in k (inl m) = second (Read t k) (subst (λ xs. Contains xs (Read t k)) (sym e) (Contains-append_right old (map (read_asker t) own) (Read t k) (contains_map (read_asker t) own k m)))
        key_in k (inr m) = subst (λ xs. Contains xs (Read t k)) (sym f) (Contains-append_right mid (map (read_asker t) others) (Read t k) (contains_map (read_asker t) others k m))

        back : (x : Asker) → Contains old x ⊎ IsReadAsker ns b t x → Contains new x
        back x (inl o) = second x (subst (λ xs. Contains xs x) (sym e) (Contains-append_left old (map (read_asker t) own) x o))
        back x (inr r) = subst (Contains new) (sym r.is) (key_in r.key (keys_of r.key r.on))

  -- ---- vector types

  module _ (typings : List Typing) (typed : AreTypings ns b (length d.entries) typings) where
    item_on : (x : Asker) → Contains (item_list index c typings) x → IsAskerOn ns b x
    item_on x m =
        let f = of_flat_map (items_of index c) typings x m in
        let y = f.element in
        let g = of_map (item_asker y.of y.term) (keys_in index c OfVector y.term) x f.has in
        let n = typed_number ns d typings typed y f.among in
        let r = from_key ns one d over c classes exact index h OfVector y.term g.element (typed_term n) g.among in
        subst (IsAskerOn ns b) g.is (record {
          numbers = record { of = n.of; first = n.term; second = number_of r.0 };
          stands = (n.typed, r.0.stands, r.1);
        })

    listed_item : (y : Typing) (k : ℕ) → Contains typings y → IsBranchTerm ns b k → IsItemRead b (term_at ns y.term) (term_at ns k) → Contains (item_list index c typings) (Item y.of y.term k)
    listed_item y k m r by =
        let n = typed_number ns d typings typed y m in
        in_flat_map (items_of index c) typings y (Item y.of y.term k) m
        (contains_map (item_asker y.of y.term) (keys_in index c OfVector y.term) k (to_key ns one d over c classes exact index h OfVector y.term k (typed_term n) r by))

    item_asks : (shapes : List Shape) {a : TypeData} {v : TermData} (i : TermData) {name : Axiom} {ts : List TermData} {p : FormulaData} → IsListedTyping ns typings a v → IsTerm b i → IsItemRead b v i → AsksOfItem a v i name ts p → AsksOfSome (length (item_list index c typings)) (asks_at shapes ns (item_list index c typings)) name ts p
    item_asks shapes {a} {v} i {name} {ts} {p} l s by k =
        let n = term_number ns one d over i s in
        let is : term_at ns n.number ≡ i = ap term_in n.is in
        let y = l.typing in
        let read : IsItemRead b (term_at ns y.term) (term_at ns n.number) = subst (λ (u : TermData). IsItemRead b u (term_at ns n.number)) (sym l.term_is) (subst (IsItemRead b v) (sym is) by) in
        one_asks shapes ns (item_list index c typings) (Item y.of y.term n.number) (listed_item y n.number (among ns d typings typed l) n.term read)
        (subst (λ (e : TypeData). AsksOfItem e (term_at ns y.term) (term_at ns n.number) name ts p) (sym l.type_is)
        (subst (λ (u : TermData). AsksOfItem a u (term_at ns n.number) name ts p) (sym l.term_is)
        (subst (λ (u : TermData). AsksOfItem a v u name ts p) (sym is) k)))

    items_triggered : (shapes : List Shape) (name : Axiom) (ts : List TermData) (p : FormulaData) → AsksOfItems b name ts p → AsksOfSome (length (item_list index c typings)) (asks_at shapes ns (item_list index c typings)) name ts p
    items_triggered shapes name ts p (ByItemRead a v i t s r k) = item_asks shapes i (listed_typing ns d typings typed t) s r k

    pub items_ask : (askers : List Asker) → askers ≡ item_list index c typings → AskAll ns b askers (AsksOfItems b)
    items_ask askers e = subst (λ xs. AskAll ns b xs (AsksOfItems b)) (sym e) (record { on = λ k x w. item_on (slice_index_or (item_list index c typings) k x) (Contains-get_or (item_list index c typings) k x w); all = items_triggered })

-- one more type with its term
pub item_taken : (index : ReadIndex) (c : BranchClassesData) (xs : List Typing) (i : ℕ) (d : Typing) → i < length xs → {old new : List Asker} {keys : List ℕ} → old ≡ item_list index c (take i xs) → keys ≡ keys_in index c OfVector (get_or xs i d).term → new ≡ old ++ map (item_asker (get_or xs i d).of (get_or xs i d).term) keys → new ≡ item_list index c (take (i + 1) xs)
item_taken index c xs i d w {old} {new} {keys} e f g =
    g ∙ ap (λ ks. old ++ map (item_asker (get_or xs i d).of (get_or xs i d).term) ks) f ∙ ap (λ ys. ys ++ items_of index c (get_or xs i d)) e ∙ flat_map_more (items_of index c) [] (take i xs) (get_or xs i d) ∙ ap (flat_map (items_of index c)) (sym (take_more xs i d w))

-- ---- term after term

-- the triggers by the first terms
pub record AreReadAskers (ns : List Node) (b : Branch) (terms : List ℕ) (askers : List Asker) : Type 0 where
  pub each : (x : Asker) → Contains askers x ↔ IsReadAmong ns b terms x

pub no_read_askers : (ns : List Node) (b : Branch) → AreReadAskers ns b [] []
no_read_askers ns b = record { each = λ x. (λ m. absurd (none_taken x m), λ s. absurd (none_taken s.term s.among)) }

module _ (ns : List Node) (b : Branch) (xs : List ℕ) (i : ℕ) (w : i < length xs) where
  pub reads_taken : {askers more : List Asker} → AreReadAskers ns b (take i xs) askers → AreMoreAskers askers more (IsReadAsker ns b (get_or xs i 0)) → AreReadAskers ns b (take (i + 1) xs) more
  reads_taken {askers} {more} h put = record { each = λ x. (there x, back x) }
    where
      there : (x : Asker) → Contains more x → IsReadAmong ns b (take (i + 1) xs) x
      there x m = elim ((put.each x).0 m) [
        | inl o ↦ (let r = (h.each x).0 o in record { term = r.term; among = taken_kept xs i 0 w r.term r.among; read = r.read })
        | inr o ↦ record { term = get_or xs i 0; among = taken_last xs i 0 w; read = o }
      ]

      back : (x : Asker) → IsReadAmong ns b (take (i + 1) xs) x → Contains more x
      back x s = elim (taken_cases xs i 0 w s.term s.among) [
        | inl o ↦ (put.each x).1 (inl ((h.each x).1 (record { term = s.term; among = o; read = s.read })))
        | inr e ↦ (put.each x).1 (inr (subst (λ t. IsReadAsker ns b t x) (sym e) s.read))
      ]

module _ (ns : List Node) (one : IsOneNumber ns) (d : BranchData) (over : IsOver ns d) (terms : List ℕ) (are : AreBranchTerms ns (branch_in ns d) terms) (askers : List Asker) (h : AreReadAskers ns (branch_in ns d) terms askers) where
  abbrev here : Branch
  here = branch_in ns d

  read_asks : (shapes : List Shape) (t k : TermData) {name : Axiom} {ts : List TermData} {p : FormulaData} → IsTerm here t → IsTerm here k → IsReadAt here t k → AsksOfRead t k name ts p → AsksOfSome (length askers) (asks_at shapes ns askers) name ts p
  read_asks shapes t k {name} {ts} {p} s r read asks =
      let n = term_number ns one d over t s in
      let m = term_number ns one d over k r in
      let first : term_at ns n.number ≡ t = ap term_in n.is in
      let second : term_at ns m.number ≡ k = ap term_in m.is in
      let on : IsAskerOn ns here (Read n.number m.number) = record {
        numbers = record { first = number_of n.term; second = number_of m.term };
        stands = (n.term.stands, m.term.stands, subst (λ (u : TermData). IsReadAt here u (term_at ns m.number)) (sym first) (subst (IsReadAt here t) (sym second) read));
      } in
      one_asks shapes ns askers (Read n.number m.number) ((h.each (Read n.number m.number)).1 (record { term = n.number; among = (are.each n.number).1 n.term; read = record { key = m.number; on = on; is = refl } }))
      (subst (λ (u : TermData). AsksOfRead u (term_at ns m.number) name ts p) (sym first) (subst (λ (u : TermData). AsksOfRead t u name ts p) (sym second) asks))

  reads_triggered : (shapes : List Shape) (name : Axiom) (ts : List TermData) (p : FormulaData) → AsksOfReads here name ts p → AsksOfSome (length askers) (asks_at shapes ns askers) name ts p
  reads_triggered shapes name ts p (ByRead t k s r read asks) = read_asks shapes t k s r read asks

  read_stands : (x : Asker) → Contains askers x → IsAskerOn ns here x
  read_stands x m = let s = (h.each x).0 m in subst (IsAskerOn ns here) (sym s.read.is) s.read.on

  pub reads_ask : AskAll ns here askers (AsksOfReads here)
  reads_ask = record { on = λ k x w. read_stands (slice_index_or askers k x) (Contains-get_or askers k x w); all = reads_triggered }
