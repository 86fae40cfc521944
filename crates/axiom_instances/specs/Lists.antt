-- Lists of instances of axioms, by the numbers of a pool.
use Rattle.std.specs.Prelude.{◌≡◌, ℕ, Bool, true, ◌&&◌, List, [], ◌∷◌, ◌++◌}
use Rattle.fol.specs.FormulaData.{TermData, FormulaData}
use Rattle.axioms.specs.declared.axiom.Axiom.{Axiom}
use Rattle.term_pool.specs.Items.{Item, TermItem, FormulaItem, FormulaSort, formula_in}
use Rattle.term_pool.specs.Pools.{nth, items_from, IsItem, Extends}
use Rattle.term_pool.specs.declared.node.Node.{Node}
use Rattle.axiom_instances.specs.declared.triggered.TriggeredTerms.{TriggeredTerms}
use Rattle.axiom_instances.specs.declared.triggered.TriggeredTerms.TheVariants.{None, One, Two}
use Rattle.axiom_instances.specs.declared.triggered.TriggeredAxiom.{TriggeredAxiom}
use Rattle.axiom_instances.specs.declared.triggered.Row.{Row}
use Rattle.axiom_instances.specs.Templates.{items_at, is_part, Fits}

-- an instance of an axiom: the axiom, the terms from which the instance is made, and the formula
pub record Triggered : Type 0 where
  pub name : Axiom
  pub terms : List TermData
  pub formula : FormulaData

-- the numbers are those of the terms
pub data AreTerms (ns : List Node) : TriggeredTerms → List TermData → Type 0 where
  OfNone : AreTerms ns None []
  OfOne : (i : ℕ) (t : TermData) → IsItem ns i (TermItem t) → AreTerms ns (One i) (t ∷ [])
  OfTwo : (i j : ℕ) (t u : TermData) → IsItem ns i (TermItem t) → IsItem ns j (TermItem u) → AreTerms ns (Two i j) (t ∷ u ∷ [])

-- the numbers are those of this instance
pub record IsTriggered (ns : List Node) (x : TriggeredAxiom) (a : Triggered) : Type 0 where
  pub name : x.name ≡ a.name
  pub terms : AreTerms ns x.terms a.terms
  pub formula : IsItem ns x.formula (FormulaItem a.formula)

-- the numbers are those of these instances, in order
pub data AreTriggered (ns : List Node) : List TriggeredAxiom → List Triggered → Type 0 where
  NoneTriggered : AreTriggered ns [] []
  MoreTriggered : (x : TriggeredAxiom) (a : Triggered) (xs : List TriggeredAxiom) (as' : List Triggered) → IsTriggered ns x a → AreTriggered ns xs as' → AreTriggered ns (x ∷ xs) (a ∷ as')

-- these instances were added at the end of others
pub record Adds (ns ms : List Node) (xs ys : List TriggeredAxiom) (as' : List Triggered) : Type 0 where
  pub extends : Extends ns ms
  pub more : List TriggeredAxiom
  pub is : ys ≡ xs ++ more
  pub are : AreTriggered ms more as'

-- ---- instances by a template

-- whether the items at the indices of the rows are formulas
abbrev pub are_formulas : List Item → List Row → Bool
are_formulas xs [] = true
are_formulas xs (r ∷ rs) = is_part xs r.position FormulaSort && are_formulas xs rs

-- the numbers are of the pool, the nodes are well-sorted over their items, and the items at the indices of the rows
-- are formulas
pub record IsReady (ns : List Node) (given : List ℕ) (nodes : List Node) (rows : List Row) : Type 0 where
  pub fits : Fits ns given nodes
  pub formulas : are_formulas (items_from (items_at ns given) nodes) rows ≡ true

-- the instances of the rows, made from these terms
abbrev pub known : List Item → List TermData → List Row → List Triggered
known xs ts [] = []
known xs ts (r ∷ rs) = record { name = r.name; terms = ts; formula = formula_in (nth xs r.position) } ∷ known xs ts rs

pub record AddsMade (ns ms : List Node) (xs ys : List TriggeredAxiom) (terms : TriggeredTerms) (given : List ℕ) (nodes : List Node) (rows : List Row) : Type 0 where
  pub adds : (ts : List TermData) → AreTerms ns terms ts → Adds ns ms xs ys (known (items_from (items_at ns given) nodes) ts rows)

-- ---- all instances of a trigger

-- the instance occurs in the list
pub data IsAmong (a : Triggered) : List Triggered → Type 0 where
  IsHere : (as' : List Triggered) → IsAmong a (a ∷ as')
  IsLater : (b : Triggered) (as' : List Triggered) → IsAmong a as' → IsAmong a (b ∷ as')

-- each instance of the list is one of these
abbrev pub AreOnly : (Axiom → List TermData → FormulaData → Type 0) → List Triggered → Type 0
AreOnly asks [] = Unit {0}
AreOnly asks (a ∷ as') = asks a.name a.terms a.formula × AreOnly asks as'

-- the list has exactly these instances
pub record AreAll (as' : List Triggered) (asks : Axiom → List TermData → FormulaData → Type 0) : Type 0 where
  pub only : AreOnly asks as'
  pub all : (name : Axiom) (ts : List TermData) (p : FormulaData) → asks name ts p → IsAmong (record { name = name; terms = ts; formula = p }) as'

-- the numbers are those of exactly these instances
pub record ListsAll (ns : List Node) (xs : List TriggeredAxiom) (asks : Axiom → List TermData → FormulaData → Type 0) : Type 0 where
  pub instances : List Triggered
  pub are : AreTriggered ns xs instances
  pub exactly : AreAll instances asks
