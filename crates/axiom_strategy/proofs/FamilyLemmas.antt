-- Lists of triggers on every branch, by types and by types beside terms.
use Rattle.std.proofs.Common.{◌≡◌, ℕ, zero, suc, Bool, true, false, true≢false, List, [], ◌∷◌, ◌++◌, length, map, cond, refl, sym, ap, ◌∙◌, subst, arith}
use Rattle.std.specs.Prelude.{slice_index_or, All, Contains, filter}
use Rattle.std.specs.List.{flat_map}
use Rattle.std.proofs.lemmas.List.Elements.{All-nil, All-cons, All-append, All-map, Contains-get_or, Contains-append_left, Contains-append_right}
use Rattle.base.specs.TypeData.{TypeData}
use Rattle.fol.specs.declared.shapes.Shape.{Shape}
use Rattle.fol.specs.FormulaData.{TermData, FormulaData}
use Rattle.axioms.specs.declared.axiom.Axiom.{Axiom}
use Rattle.term_pool.specs.Items.{term_in}
use Rattle.term_pool.specs.Pools.{item_at, IsOneNumber}
use Rattle.term_pool.specs.declared.node.Node.{Node}
use Rattle.term_pool.proofs.ShapeLemmas.{a_term}
use Rattle.certificates.specs.BranchesBranch.{Branch, IsTerm}
use Rattle.tableau.specs.PoolBranches.{BranchData, branch_in, IsOver}
use Rattle.tableau.specs.Terms.{IsBranchTerm, AreBranchTerms}
use Rattle.tableau.proofs.BranchLemmas.{term_number}
use Rattle.axiom_instances.specs.Asks.{AsksOfTypeAlone, AsksOfTypeBeside, ByEmptyTyped, BySetTyped, ByPushTyped, ByPopTyped}
use Rattle.axiom_instances.specs.Numbers.{term_at}
use Rattle.axiom_strategy.specs.declared.askers.Asker.{Asker}
use Rattle.axiom_strategy.specs.declared.askers.Asker.TheVariants.{Always, TypeAlone, Beside}
use Rattle.axiom_strategy.specs.declared.typings.Typing.{Typing}
use Rattle.axiom_strategy.specs.Due.{AsksOfSome}
use Rattle.axiom_strategy.specs.Askers.{asks_at}
use Rattle.axiom_strategy.specs.Typings.{IsListedTyping, AreTypings}
use Rattle.axiom_strategy.specs.Beside.{is_vector_type, is_made_vector, alone_asker, beside_asker, beside_askers, AreTypeAskers}
use Rattle.axiom_strategy.specs.Families.{IsAskerOn, AskAll, AsksOfTypes, ByAlways, ByType, ByTypeBeside}
use Rattle.axiom_strategy.proofs.AskerLemmas.{one_asks}
use Rattle.axiom_strategy.proofs.RangeLemmas.{contains_map, typed_by}
use Rattle.axiom_strategy.proofs.TakenLemmas.{here, later}
use Rattle.axiom_strategy.proofs.TypedLemmas.{listed_typing, among, given_at}

-- ---- lists

module _ {X : Type 0} where
  earlier : (P : Type 0) (xs : List X) (y x : X) → Contains (y ∷ xs) x → (y ≡ x → P) → (Contains xs x → P) → P
  earlier P xs y x (zero, w, e) f g = f e
  earlier P xs y x (suc k, w, e) f g = g (k, omega (arith, w), e)

  in_filter : (test : X → Bool) (xs : List X) (x : X) → Contains xs x → test x ≡ true → Contains (filter test xs) x
  in_filter test [] x (k, w, e) t = absurd (omega (arith, w))
  in_filter test (y ∷ xs) x h t = go (test y) refl (λ rest. in_filter test xs x rest t)
    where
      go : (b : Bool) → test y ≡ b → (Contains xs x → Contains (filter test xs) x) → Contains (cond b (y ∷ filter test xs) (filter test xs)) x
      go true e again = earlier (Contains (y ∷ filter test xs) x) xs y x h (λ same. subst (Contains (y ∷ filter test xs)) same (here (filter test xs) y)) (λ rest. later (filter test xs) y x (again rest))
      go false e again = earlier (Contains (filter test xs) x) xs y x h (λ same. absurd (true≢false (sym t ∙ ap test (sym same) ∙ e))) again

  of_filter : (test : X → Bool) (xs : List X) (x : X) → Contains (filter test xs) x → Contains xs x
  of_filter test [] x (k, w, e) = absurd (omega (arith, w))
  of_filter test (y ∷ xs) x h = go (test y) h (of_filter test xs x)
    where
      go : (b : Bool) → Contains (cond b (y ∷ filter test xs) (filter test xs)) x → (Contains (filter test xs) x → Contains xs x) → Contains (y ∷ xs) x
      go true m again = earlier (Contains (y ∷ xs) x) (filter test xs) y x m (λ same. subst (Contains (y ∷ xs)) same (here xs y)) (λ rest. later xs y x (again rest))
      go false m again = later xs y x (again m)

module _ {X Y : Type 0} where
  pub in_flat_map : (f : Y → List X) (ys : List Y) (y : Y) (x : X) → Contains ys y → Contains (f y) x → Contains (flat_map f ys) x
  in_flat_map f [] y x (k, w, e) m = absurd (omega (arith, w))
  in_flat_map f (z ∷ ys) y x (zero, w, e) m = Contains-append_left (f z) (flat_map f ys) x (subst (λ v. Contains (f v) x) (sym e) m)
  in_flat_map f (z ∷ ys) y x (suc k, w, e) m = Contains-append_right (f z) (flat_map f ys) x (in_flat_map f ys y x (k, omega (arith, w), e) m)

  all_flat_map : (P : X → Type 0) (f : Y → List X) (ys : List Y) → ((y : Y) → Contains ys y → All P (f y)) → All P (flat_map f ys)
  all_flat_map P f [] h = All-nil P
  all_flat_map P f (y ∷ ys) h = All-append P (f y) (flat_map f ys) (h y (here ys y)) (all_flat_map P f ys (λ z m. h z (later ys y z m)))

-- ---- types beside terms

beside_needs : {a : TypeData} {t : TermData} {name : Axiom} {ts : List TermData} {p : FormulaData} → AsksOfTypeBeside a t name ts p → (is_vector_type a ≡ true) × (is_made_vector t ≡ true)
beside_needs (ByEmptyTyped a) = (refl, refl)
beside_needs (BySetTyped a v i x) = (refl, refl)
beside_needs (ByPushTyped a v x) = (refl, refl)
beside_needs (ByPopTyped a v) = (refl, refl)

module _ (ns : List Node) (one : IsOneNumber ns) (d : BranchData) (over : IsOver ns d) (terms : List ℕ) (are : AreBranchTerms ns (branch_in ns d) terms) (typings : List Typing) (typed : AreTypings ns (branch_in ns d) (length d.entries) typings) (askers : List Asker) (h : AreTypeAskers ns terms typings askers) where
  abbrev b : Branch
  b = branch_in ns d

  abbrev made : List ℕ
  made = filter (λ n. is_made_vector (term_at ns n)) terms

  abbrev alone : List Asker
  alone = map alone_asker typings

  abbrev besides : List Asker
  besides = beside_askers made h.types

  abbrev listed : List Asker
  listed = (Always ∷ []) ++ (alone ++ besides)

  type_on : (x : Typing) → Contains typings x → IsAskerOn ns b (TypeAlone x.of)
  type_on x m =
      let g = given_at ns d typings typed x m in
      record { numbers = g.entry.is.of; stands = record { term = term_at ns x.term; typed = typed_by ns b x g } }

  term_on : (n : ℕ) → Contains made n → IsBranchTerm ns b n
  term_on n m = (are.each n).0 (of_filter (λ k. is_made_vector (term_at ns k)) terms n m)

  beside_on : (a n : ℕ) → Contains h.types a → Contains made n → IsAskerOn ns b (Beside a n)
  beside_on a n m k =
      let it = h.are.each a m in
      let g = given_at ns d typings typed it.typing it.among in
      let t = term_on n k in
      subst (λ c. IsAskerOn ns b (Beside c n)) it.is (record {
        numbers = record { of = g.entry.is.of; term = record { within = t.number.within; is = sym (a_term (item_at ns n) t.number.sort) } };
        stands = (record { term = term_at ns it.typing.term; typed = typed_by ns b it.typing g }, t.stands);
      })

  alone_on : All (IsAskerOn ns b) alone
  alone_on = All-map (IsAskerOn ns b) alone_asker typings (λ k x w. type_on (slice_index_or typings k x) (Contains-get_or typings k x w))

  besides_on : All (IsAskerOn ns b) besides
  besides_on = all_flat_map (IsAskerOn ns b) (λ a. map (beside_asker a) made) h.types (λ a m. All-map (IsAskerOn ns b) (beside_asker a) made (λ k n w. beside_on a (slice_index_or made k n) m (Contains-get_or made k n w)))

  always_on : IsAskerOn ns b Always
  always_on = record { numbers = tt; stands = tt }

  listed_on : All (IsAskerOn ns b) listed
  listed_on = All-append (IsAskerOn ns b) (Always ∷ []) (alone ++ besides) (All-cons (IsAskerOn ns b) Always [] always_on (All-nil (IsAskerOn ns b))) (All-append (IsAskerOn ns b) alone besides alone_on besides_on)

  in_alone : (x : Typing) → Contains typings x → Contains listed (TypeAlone x.of)
  in_alone x m = Contains-append_right (Always ∷ []) (alone ++ besides) (TypeAlone x.of) (Contains-append_left alone besides (TypeAlone x.of) (contains_map alone_asker typings x m))

  in_besides : (a n : ℕ) → Contains h.types a → Contains made n → Contains listed (Beside a n)
  in_besides a n m k = Contains-append_right (Always ∷ []) (alone ++ besides) (Beside a n) (Contains-append_right alone besides (Beside a n) (in_flat_map (λ c. map (beside_asker c) made) h.types a (Beside a n) m (contains_map (beside_asker a) made n k)))

  module _ (shapes : List Shape) where
    by_type : {a : TypeData} {t : TermData} {name : Axiom} {ts : List TermData} {p : FormulaData} → IsListedTyping ns typings a t → AsksOfTypeAlone a name ts p → AsksOfSome (length listed) (asks_at shapes ns listed) name ts p
    by_type {name = name} {ts = ts} {p = p} l k = one_asks shapes ns listed (TypeAlone l.typing.of) (in_alone l.typing (among ns d typings typed l)) (subst (λ c. AsksOfTypeAlone c name ts p) (sym l.type_is) k)

    by_beside : {a : TypeData} {u : TermData} (t : TermData) {name : Axiom} {ts : List TermData} {p : FormulaData} → IsListedTyping ns typings a u → IsTerm b t → AsksOfTypeBeside a t name ts p → AsksOfSome (length listed) (asks_at shapes ns listed) name ts p
    by_beside {a} t {name} {ts} {p} l s k =
        let needs = beside_needs k in
        let numbered = term_number ns one d over t s in
        let is : term_at ns numbered.number ≡ t = ap term_in numbered.is in
        let type_in_list = h.are.all l.typing (among ns d typings typed l) (ap is_vector_type l.type_is ∙ needs.0) in
        let term_in_list = in_filter (λ n. is_made_vector (term_at ns n)) terms numbered.number ((are.each numbered.number).1 numbered.term) (ap is_made_vector is ∙ needs.1) in
        one_asks shapes ns listed (Beside l.typing.of numbered.number) (in_besides l.typing.of numbered.number type_in_list term_in_list)
        (subst (λ c. AsksOfTypeBeside c (term_at ns numbered.number) name ts p) (sym l.type_is) (subst (λ v. AsksOfTypeBeside a v name ts p) (sym is) k))

    all_triggered : (name : Axiom) (ts : List TermData) (p : FormulaData) → AsksOfTypes b name ts p → AsksOfSome (length listed) (asks_at shapes ns listed) name ts p
    all_triggered name ts p (ByAlways k) = one_asks shapes ns listed Always (here (alone ++ besides) Always) k
    all_triggered name ts p (ByType a t k) = by_type (listed_typing ns d typings typed t.typed) k
    all_triggered name ts p (ByTypeBeside a u t s k) = by_beside u (listed_typing ns d typings typed t.typed) s k

  pub types_ask : AskAll ns b askers (AsksOfTypes b)
  types_ask = subst (λ xs. AskAll ns b xs (AsksOfTypes b)) (sym h.is) (record { on = listed_on; all = all_triggered })
