-- Triggers on every branch, by types, by reads and by pairs of vectors, and lists of triggers that cover all of them.
use Rattle.std.specs.Prelude.{ℕ, List, length, All}
use Rattle.base.specs.TypeData.{TypeData}
use Rattle.fol.specs.declared.shapes.Shape.{Shape}
use Rattle.fol.specs.FormulaData.{TermData, FormulaData}
use Rattle.axioms.specs.declared.axiom.Axiom.{Axiom}
use Rattle.axioms.specs.Forms.{DifferFormula}
use Rattle.certificates.specs.Quantified.{IsNew as IsNewVariable}
use Rattle.term_pool.specs.declared.node.Node.{Node}
use Rattle.certificates.specs.BranchesBranch.{Branch, formulas, Stands, IsTyped, IsTerm}
use Rattle.certificates.specs.Due.{IsVariable}
use Rattle.certificates.specs.Joined.{IsItemRead}
use Rattle.certificates.specs.Table.{HasTyped}
use Rattle.axiom_instances.specs.Asks.{AlwaysTriggered, AsksOfTypeAlone, AsksOfTypeBeside, AsksOfRead, AsksOfItem}
use Rattle.axiom_instances.specs.Present.{IsReadAt, IsTriggeredOn}
use Rattle.axiom_instances.specs.VectorRows.{AsksOfPair}
use Rattle.axiom_strategy.specs.declared.askers.Asker.{Asker}
use Rattle.axiom_strategy.specs.Due.{Asking, AsksOfSome}
use Rattle.axiom_strategy.specs.Askers.{IsAsker, asks_at, IsPresent}

-- the numbers are those of types and terms on the branch
pub record IsAskerOn (ns : List Node) (b : Branch) (x : Asker) : Type 0 where
  pub numbers : IsAsker ns x
  pub stands : IsPresent ns b x

-- each trigger is on the branch, and together they trigger all these instances
pub record AskAll (ns : List Node) (b : Branch) (askers : List Asker) (asks : Asking) : Type 0 where
  pub on : All (IsAskerOn ns b) askers
  pub all : (shapes : List Shape) (name : Axiom) (ts : List TermData) (p : FormulaData) → asks name ts p → AsksOfSome (length askers) (asks_at shapes ns askers) name ts p

-- an instance triggered on every branch, by a type that entries give or deny, or by such a type beside a term of the
-- branch
pub data AsksOfTypes (b : Branch) (name : Axiom) (ts : List TermData) (p : FormulaData) : Type 0 where
  ByAlways : AlwaysTriggered name ts p → AsksOfTypes b name ts p
  ByType : (a : TypeData) → HasTyped b a → AsksOfTypeAlone a name ts p → AsksOfTypes b name ts p
  ByTypeBeside : (a : TypeData) (t : TermData) → HasTyped b a → IsTerm b t → AsksOfTypeBeside a t name ts p → AsksOfTypes b name ts p

-- triggered by a memory or a vector made of another one, where one of the two is read
pub data AsksOfReads (b : Branch) (name : Axiom) (ts : List TermData) (p : FormulaData) : Type 0 where
  ByRead : (t k : TermData) → IsTerm b t → IsTerm b k → IsReadAt b t k → AsksOfRead t k name ts p → AsksOfReads b name ts p

-- triggered by a vector that is read, and a type that entries give to it or deny it
pub data AsksOfItems (b : Branch) (name : Axiom) (ts : List TermData) (p : FormulaData) : Type 0 where
  ByItemRead : (a : TypeData) (v i : TermData) → IsTyped b a v → IsTerm b i → IsItemRead b v i → AsksOfItem a v i name ts p → AsksOfItems b name ts p

-- triggered by two vectors of one type that an entry states to differ, if the instance has a variable to bind
pub data AsksOfPairs (b : Branch) (name : Axiom) (ts : List TermData) (p : FormulaData) : Type 0 where
  ByPair : (a : TypeData) (v u : TermData) → Stands b (DifferFormula v u) → IsTyped b a v → IsTyped b a u → AsksOfPair a v u name ts p → AsksOfPairs b name ts p

-- ---- all triggered instances

-- some variable is free in no entry
pub record HasVariable (b : Branch) : Type 0 where
  pub number : ℕ
  pub is_variable : IsVariable number
  pub is_new : IsNewVariable number (formulas b)

-- each trigger is on the branch, and together they trigger all instances triggered on it
pub record AskEverything (ns : List Node) (b : Branch) (askers : List Asker) : Type 0 where
  pub on : All (IsAskerOn ns b) askers
  pub all : (shapes : List Shape) (name : Axiom) (ts : List TermData) (p : FormulaData) → IsTriggeredOn shapes b name ts p → AsksOfSome (length askers) (asks_at shapes ns askers) name ts p
