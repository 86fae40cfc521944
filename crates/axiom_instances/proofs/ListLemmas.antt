-- Lists of instances as they are extended.
use Rattle.std.proofs.Common.{◌≡◌, ℕ, zero, suc, ◌+◌, ◌<◌, true, List, [], ◌∷◌, ◌++◌, length, map, get_or, take, Result, Ok, Err, IfOk, refl, sym, ap, ◌∙◌, subst, arith, append_assoc, append-nil}
use Rattle.std.proofs.Math.Seq.{take-suc}
use Rattle.std.proofs.lemmas.List.{map-append}
use Rattle.fol.specs.FormulaData.{TermData, FormulaData}
use Rattle.axioms.specs.declared.axiom.Axiom.{Axiom}
use Rattle.term_pool.specs.Items.{Item, FormulaItem, FormulaSort, formula_in}
use Rattle.term_pool.specs.Pools.{nth, items_from, IsItem, Extends}
use Rattle.term_pool.specs.declared.node.Node.{Node}
use Rattle.term_pool.proofs.GrowthLemmas.{extends_itself, extends_then, item_stays}
use Rattle.term_pool.proofs.ShapeLemmas.{a_formula}
use Rattle.axiom_instances.specs.declared.triggered.TriggeredTerms.{TriggeredTerms}
use Rattle.axiom_instances.specs.declared.triggered.TriggeredAxiom.{TriggeredAxiom}
use Rattle.axiom_instances.specs.declared.triggered.Row.{Row}
use Rattle.axiom_instances.specs.Lists.{Triggered, AreTerms, OfNone, OfOne, OfTwo, IsTriggered, AreTriggered, NoneTriggered, MoreTriggered, Adds, AddsMade, IsReady, are_formulas, known, AreAll, ListsAll}
use Rattle.axiom_instances.specs.Templates.{items_at, AreItems, is_part, all_fit, number_at}
use Rattle.axiom_instances.proofs.TemplateLemmas.{items_are, nodes_fit, part_at, is_sort, both}

terms_stay : {ns ms : List Node} {x : TriggeredTerms} {ts : List TermData} → Extends ns ms → AreTerms ns x ts → AreTerms ms x ts
terms_stay e OfNone = OfNone
terms_stay e (OfOne i t h) = OfOne i t (item_stays e h)
terms_stay e (OfTwo i j t u h k) = OfTwo i j t u (item_stays e h) (item_stays e k)

triggered_stays : {ns ms : List Node} {x : TriggeredAxiom} {a : Triggered} → Extends ns ms → IsTriggered ns x a → IsTriggered ms x a
triggered_stays e h = record { name = h.name; terms = terms_stay e h.terms; formula = item_stays e h.formula }

pub all_stay : {ns ms : List Node} {xs : List TriggeredAxiom} {as' : List Triggered} → Extends ns ms → AreTriggered ns xs as' → AreTriggered ms xs as'
all_stay e NoneTriggered = NoneTriggered
all_stay e (MoreTriggered x a xs as' h r) = MoreTriggered x a xs as' (triggered_stays e h) (all_stay e r)

both_lists : {ns : List Node} {xs ys : List TriggeredAxiom} {as' bs : List Triggered} → AreTriggered ns xs as' → AreTriggered ns ys bs → AreTriggered ns (xs ++ ys) (as' ++ bs)
both_lists NoneTriggered k = k
both_lists {ys = ys} {bs = bs} (MoreTriggered x a xs as' h r) k = MoreTriggered x a (xs ++ ys) (as' ++ bs) h (both_lists r k)

pub adds_none : (ns : List Node) (xs : List TriggeredAxiom) → Adds ns ns xs xs []
adds_none ns xs = record { extends = extends_itself ns; more = []; is = sym (append-nil xs); are = NoneTriggered }

pub adds_then : {ns ms ks : List Node} {xs ys zs : List TriggeredAxiom} {as' bs : List Triggered} → Adds ns ms xs ys as' → Adds ms ks ys zs bs → Adds ns ks xs zs (as' ++ bs)
adds_then {xs = xs} h k = record {
  extends = extends_then h.extends k.extends;
  more = h.more ++ k.more;
  is = k.is ∙ ap (λ us. us ++ k.more) h.is ∙ append_assoc xs h.more k.more;
  are = both_lists (all_stay k.extends h.are) k.are;
}

pub adds_nothing : {as' : List Triggered} (ns : List Node) (xs : List TriggeredAxiom) → as' ≡ [] → Adds ns ns xs xs as'
adds_nothing ns xs e = subst (Adds ns ns xs xs) (sym e) (adds_none ns xs)

pub adds_as : {ns ms : List Node} {xs ys : List TriggeredAxiom} {as' bs : List Triggered} → as' ≡ bs → Adds ns ms xs ys as' → Adds ns ms xs ys bs
adds_as {ns} {ms} {xs} {ys} e h = subst (Adds ns ms xs ys) e h

-- ---- instances by a template

-- a row by its numbers
abbrev pub triggered_row : TriggeredTerms → List ℕ → Row → TriggeredAxiom
triggered_row terms is r = record { name = r.name; terms = terms; formula = number_at is r.position }

abbrev pub triggered_rows : TriggeredTerms → List ℕ → List Row → List TriggeredAxiom
triggered_rows terms is rows = map (triggered_row terms is) rows

module _ {ns : List Node} {is : List ℕ} {xs : List Item} (h : AreItems ns is xs) where
  formula_here : (a : ℕ) → is_part xs a FormulaSort ≡ true → IsItem ns (number_at is a) (FormulaItem (formula_in (nth xs a)))
  formula_here a e =
      let p = part_at a FormulaSort h e in
      record { within = p.at.within; is = p.at.is ∙ sym (a_formula (nth xs a) (sym (is_sort FormulaSort _ e))) }

  rows_are : {terms : TriggeredTerms} {ts : List TermData} (rows : List Row) → are_formulas xs rows ≡ true → AreTerms ns terms ts → AreTriggered ns (triggered_rows terms is rows) (known xs ts rows)
  rows_are [] e t = NoneTriggered
  rows_are (r ∷ rows) e t =
      let both-fit = both (is_part xs r.position FormulaSort) (are_formulas xs rows) e in
      MoreTriggered _ _ _ _ (record { name = refl; terms = t; formula = formula_here r.position both-fit.0 }) (rows_are rows both-fit.1 t)

  pub row_within : (rows : List Row) (i : ℕ) (d : Row) → are_formulas xs rows ≡ true → i < length rows → (get_or rows i d).position < length is
  row_within [] i d e w = absurd (omega arith)
  row_within (q ∷ rows) zero d e w =
      let both-fit = both (is_part xs q.position FormulaSort) (are_formulas xs rows) e in
      (part_at q.position FormulaSort h both-fit.0).within
  row_within (q ∷ rows) (suc i) d e w =
      let both-fit = both (is_part xs q.position FormulaSort) (are_formulas xs rows) e in
      row_within rows i d both-fit.1 (omega arith)

  pub rows_added : {ks : List Node} {terms : TriggeredTerms} {given : List ℕ} {nodes : List Node} (rows : List Row) (zs : List TriggeredAxiom) → Extends ks ns → xs ≡ items_from (items_at ks given) nodes → are_formulas xs rows ≡ true → AddsMade ks ns zs (zs ++ triggered_rows terms is rows) terms given nodes rows
  rows_added {terms = terms} rows zs e same f = record {
    adds = λ ts t. record {
      extends = e;
      more = triggered_rows terms is rows;
      is = refl;
      are = subst (λ ys. AreTriggered ns (triggered_rows terms is rows) (known ys ts rows)) same (rows_are rows f (terms_stay e t));
    };
  }

pub rows_next : (terms : TriggeredTerms) (is : List ℕ) (rows : List Row) (i : ℕ) (d : Row) (n : ℕ) (xs ys zs : List TriggeredAxiom) → i < length rows → n ≡ number_at is (get_or rows i d).position → ys ≡ xs ++ triggered_rows terms is (take i rows) → zs ≡ ys ++ record { name = (get_or rows i d).name; terms = terms; formula = n } ∷ [] → zs ≡ xs ++ triggered_rows terms is (take (i + 1) rows)
rows_next terms is rows i d n xs ys zs w e f g =
    let one : suc i ≡ i + 1 = omega arith in
    let r = get_or rows i d in
    let longer : take (i + 1) rows ≡ take i rows ++ r ∷ [] = ap (λ j. take j rows) (sym one) ∙ take-suc rows i d w in
    let more : triggered_rows terms is (take (i + 1) rows) ≡ triggered_rows terms is (take i rows) ++ triggered_row terms is r ∷ [] = ap (triggered_rows terms is) longer ∙ map-append (triggered_row terms is) (take i rows) (r ∷ []) in
    let known-by : zs ≡ ys ++ triggered_row terms is r ∷ [] = g ∙ ap (λ k. ys ++ record { name = r.name; terms = terms; formula = k } ∷ []) e in
    known-by ∙ ap (λ us. us ++ triggered_row terms is r ∷ []) f ∙ append_assoc xs (triggered_rows terms is (take i rows)) (triggered_row terms is r ∷ []) ∙ ap (λ us. xs ++ us) (sym more)

-- the numbers of given items make a template ready
pub ready : {ns : List Node} {is : List ℕ} {xs : List Item} {nodes : List Node} {rows : List Row} → AreItems ns is xs → all_fit xs nodes ≡ true → are_formulas (items_from xs nodes) rows ≡ true → IsReady ns is nodes rows
ready {nodes = nodes} {rows = rows} h e f = record {
  fits = nodes_fit h e;
  formulas = ap (λ ys. are_formulas (items_from ys nodes) rows) (items_are h) ∙ f;
}

-- instances by a template over known items
pub adds_made : {ns ms : List Node} {xs ys : List TriggeredAxiom} {terms : TriggeredTerms} {given : List ℕ} {over : List Item} {nodes : List Node} {rows : List Row} {ts : List TermData} → AddsMade ns ms xs ys terms given nodes rows → AreItems ns given over → AreTerms ns terms ts → Adds ns ms xs ys (known (items_from over nodes) ts rows)
adds_made {nodes = nodes} {rows = rows} {ts = ts} h are terms =
    adds_as (ap (λ us. known (items_from us nodes) ts rows) (items_are are)) (h.adds ts terms)

-- ---- results that may be errors

pub ok_as : {A E : Type 0} (ns ms : List Node) (xs ys : List TriggeredAxiom) {as' bs : List Triggered} (r : Result A E) → as' ≡ bs → IfOk r (λ u. Adds ns ms xs ys as') → IfOk r (λ u. Adds ns ms xs ys bs)
ok_as ns ms xs ys (Ok u) e h = adds_as e h
ok_as ns ms xs ys (Err x) e h = h

pub ok_made : {A E : Type 0} {ns : List Node} (ms : List Node) (xs ys : List TriggeredAxiom) {terms : TriggeredTerms} {given : List ℕ} {over : List Item} (nodes : List Node) (rows : List Row) {ts : List TermData} (r : Result A E) → IfOk r (λ u. AddsMade ns ms xs ys terms given nodes rows) → AreItems ns given over → AreTerms ns terms ts → IfOk r (λ u. Adds ns ms xs ys (known (items_from over nodes) ts rows))
ok_made ms xs ys nodes rows (Ok u) h are terms = adds_made h are terms
ok_made ms xs ys nodes rows (Err x) h are terms = h

-- a list that began empty
pub lists_all : {ns ms : List Node} {xs ys : List TriggeredAxiom} {as' : List Triggered} {asks : Axiom → List TermData → FormulaData → Type 0} → xs ≡ [] → Adds ns ms xs ys as' → AreAll as' asks → ListsAll ms ys asks
lists_all {ms = ms} {as' = as'} e h all = record {
  instances = as';
  are = subst (λ zs. AreTriggered ms zs as') (sym (h.is ∙ ap (λ us. us ++ h.more) e)) h.are;
  exactly = all;
}
