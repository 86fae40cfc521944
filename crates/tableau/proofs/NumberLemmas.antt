-- Numbers of formulas while their pool is extended.
use Rattle.std.proofs.Common.{Result, Ok, Err, IfOk, ◌≡◌, ℕ, ◌+◌, ◌<◌, List, [], ◌∷◌, ◌++◌, length, map, get_or, take, refl, sym, ap, ◌∙◌, subst, arith, append_assoc, append-nil, length-append}
use Rattle.std.specs.Prelude.{All}
use Rattle.std.proofs.lemmas.List.{map_push, map_more}
use Rattle.std.proofs.lemmas.List.Elements.{All-nil, All-push, All-head, All-tail, All-weaker}
use Rattle.fol.specs.FormulaData.{FormulaData, NotFormula, NoFormulas, list_of_formulas}
use Rattle.term_pool.specs.Items.{FormulaItem, sort_of, formula_in, formulas_in}
use Rattle.term_pool.specs.Pools.{item_at, IsItem, Extends}
use Rattle.term_pool.specs.declared.node.Node.{Node}
use Rattle.term_pool.proofs.ItemLemmas.{item_kept}
use Rattle.tableau.specs.PoolBranches.{IsFormulaNumber}
use Rattle.certificates.specs.Parts.{both_of}
use Rattle.tableau.specs.Numbers.{formula_at, formulas_at, AreFormulas, IsNumberOf, AreNumbersOf, IsFirst}

module _ (ns ms : List Node) (grown : Extends ns ms) where
  pub number_stays : (n : ℕ) → IsFormulaNumber ns n → IsFormulaNumber ms n
  number_stays n h = record {
    within = (let l = ap length grown.is in omega (arith, l, length-append ns grown.more, h.within));
    sort = ap sort_of (item_kept ns ms grown n h.within) ∙ h.sort;
  }

  pub formula_stays : (n : ℕ) → IsFormulaNumber ns n → formula_at ms n ≡ formula_at ns n
  formula_stays n h = ap formula_in (item_kept ns ms grown n h.within)

  pub formulas_stay : (xs : List ℕ) → AreFormulas ns xs → AreFormulas ms xs
  formulas_stay xs h = record { each = All-weaker (IsFormulaNumber ns) (IsFormulaNumber ms) number_stays xs h.each }

  map_stays : (xs : List ℕ) → All (IsFormulaNumber ns) xs → map (formula_at ms) xs ≡ map (formula_at ns) xs
  map_stays [] h = refl
  map_stays (x ∷ xs) h =
      let first : formula_at ms x ≡ formula_at ns x = formula_stays x (All-head (IsFormulaNumber ns) x xs h) in
      let rest : map (formula_at ms) xs ≡ map (formula_at ns) xs = map_stays xs (All-tail (IsFormulaNumber ns) x xs h) in
      λ i. first i ∷ rest i

  pub numbers_stay : (ps : List FormulaData) (xs : List ℕ) → AreNumbersOf ns ps xs → AreNumbersOf ms ps xs
  numbers_stay ps xs h = record { formulas = formulas_stay xs h.formulas; are = map_stays xs h.formulas.each ∙ h.are }

pub number_of_stays : (ns ms : List Node) → Extends ns ms → (p : FormulaData) (n : ℕ) → IsNumberOf ns p n → IsNumberOf ms p n
number_of_stays ns ms grown p n h = record { number = number_stays ns ms grown n h.number; is = formula_stays ns ms grown n h.number ∙ h.is }

-- ---- numbers that are added one after another

module _ (ns : List Node) where
  pub numbers_none : AreNumbersOf ns [] []
  numbers_none = record { formulas = record { each = All-nil (IsFormulaNumber ns) }; are = refl }

  pub numbers_push : (ps : List FormulaData) (xs : List ℕ) (p : FormulaData) (x : ℕ) → AreNumbersOf ns ps xs → IsNumberOf ns p x → AreNumbersOf ns (ps ++ p ∷ []) (xs ++ x ∷ [])
  numbers_push ps xs p x h g = record {
    formulas = record { each = All-push (IsFormulaNumber ns) xs x h.formulas.each g.number };
    are = map_push (formula_at ns) xs x ∙ (λ i. h.are i ++ g.is i ∷ []);
  }

  pub number_of_item : (p : FormulaData) (n : ℕ) → IsItem ns n (FormulaItem p) → IsNumberOf ns p n
  number_of_item p n h = record { number = record { within = h.within; sort = ap sort_of h.is }; is = ap formula_in h.is }

  pub number_itself : (n : ℕ) → IsFormulaNumber ns n → IsNumberOf ns (formula_at ns n) n
  number_itself n h = record { number = h; is = refl }

  pub numbers_pair : (p q : FormulaData) (x y : ℕ) → IsNumberOf ns p x → IsNumberOf ns q y → AreNumbersOf ns (p ∷ q ∷ []) (x ∷ y ∷ [])
  numbers_pair p q x y h g = numbers_push (p ∷ []) (x ∷ []) q y (numbers_push [] [] p x numbers_none h) g

  -- the numbers so far, and the formulas of the rest of a list
  pub record IsListing (list rest : ℕ) (xs : List ℕ) : Type 0 where
    pub formulas : AreFormulas ns xs
    pub all : map (formula_at ns) xs ++ formulas_at ns rest ≡ formulas_at ns list

  pub listing_begun : (list : ℕ) → IsListing list list []
  listing_begun list = record { formulas = record { each = All-nil (IsFormulaNumber ns) }; all = refl }

  pub listing_more : (list rest : ℕ) (xs : List ℕ) (p : ℕ × ℕ) → IsListing list rest xs → IsFirst ns rest p → IsListing list p.1 (xs ++ p.0 ∷ [])
  listing_more list rest xs p h g = record {
    formulas = record { each = All-push (IsFormulaNumber ns) xs p.0 h.formulas.each g.first };
    all = ap (λ ps. ps ++ formulas_at ns p.1) (map_push (formula_at ns) xs p.0) ∙ append_assoc (map (formula_at ns) xs) (formula_at ns p.0 ∷ []) (formulas_at ns p.1) ∙ ap (λ ps. map (formula_at ns) xs ++ ps) (sym g.is) ∙ h.all;
  }

  pub listing_done : (list rest : ℕ) (xs : List ℕ) → IsListing list rest xs → formulas_in (item_at ns rest) ≡ NoFormulas → AreNumbersOf ns (formulas_at ns list) xs
  listing_done list rest xs h e = record {
    formulas = h.formulas;
    are = sym (append-nil (map (formula_at ns) xs)) ∙ ap (λ ps. map (formula_at ns) xs ++ list_of_formulas ps) (sym e) ∙ h.all;
  }

-- the conjunction of given formulas
pub both_given : (ns ms : List Node) (p q : FormulaData) (a b k : ℕ) → IsNumberOf ns p a → IsNumberOf ns q b → IsNumberOf ms (both_of (formula_at ns a) (formula_at ns b)) k → IsNumberOf ms (both_of p q) k
both_given ns ms p q a b k h g f = record { number = f.number; is = f.is ∙ (λ i. both_of (h.is i) (g.is i)) }

-- the negation of a formula of the earlier pool
pub denied : (ns os ms : List Node) → Extends ns os → (n k : ℕ) → IsFormulaNumber ns n → IsNumberOf ms (NotFormula (formula_at os n)) k → IsNumberOf ms (NotFormula (formula_at ns n)) k
denied ns os ms grown n k h g = record { number = g.number; is = g.is ∙ ap NotFormula (formula_stays ns os grown n h) }

-- a weaker property of the vector of a result
pub vec_ok : {E V : Type 0} {P Q : V → Type 0} (r : Result V E) → ((v : V) → P v → Q v) → IfOk r P → IfOk r Q
vec_ok (Ok v) f h = f v h
vec_ok (Err e) f h = h

-- ---- negations

-- the negations of one more formula
pub denials_more : (ns os ms : List Node) → Extends ns os → Extends os ms → (xs ys : List ℕ) (i y : ℕ) → AreFormulas ns xs → i < length xs → AreNumbersOf os (map NotFormula (map (formula_at ns) (take i xs))) ys → IsNumberOf ms (NotFormula (formula_at os (get_or xs i 0))) y → AreNumbersOf ms (map NotFormula (map (formula_at ns) (take (i + 1) xs))) (ys ++ y ∷ [])
denials_more ns os ms e f xs ys i y formulas w so_far denied =
    let same : formula_at os (get_or xs i 0) ≡ formula_at ns (get_or xs i 0) = formula_stays ns os e (get_or xs i 0) (formulas.each i 0 w) in
    let denials : map NotFormula (map (formula_at ns) (take (i + 1) xs)) ≡ map NotFormula (map (formula_at ns) (take i xs)) ++ NotFormula (formula_at os (get_or xs i 0)) ∷ [] = ap (map NotFormula) (map_more (formula_at ns) xs i 0 w) ∙ map_push NotFormula (map (formula_at ns) (take i xs)) (formula_at ns (get_or xs i 0)) ∙ ap (λ p. map NotFormula (map (formula_at ns) (take i xs)) ++ NotFormula p ∷ []) (sym same) in
    subst (λ ps. AreNumbersOf ms ps (ys ++ y ∷ [])) (sym denials) (numbers_push ms (map NotFormula (map (formula_at ns) (take i xs))) ys (NotFormula (formula_at os (get_or xs i 0))) y (numbers_stay os ms f (map NotFormula (map (formula_at ns) (take i xs))) ys so_far) denied)
