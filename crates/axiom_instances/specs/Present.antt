-- The triggers of axioms on a branch.
use Rattle.std.specs.Prelude.{◌⊎◌, List}
use Rattle.base.specs.TypeData.{TypeData}
use Rattle.fol.specs.declared.shapes.Shape.{Shape}
use Rattle.fol.specs.FormulaData.{TermData, FormulaData, StoreTerm, PushTerm, PopTerm, SetTerm}
use Rattle.axioms.specs.declared.axiom.Axiom.{Axiom}
use Rattle.axioms.specs.Forms.{DifferFormula}
use Rattle.certificates.specs.BranchesBranch.{Branch, Stands, IsTyped, IsTerm}
use Rattle.certificates.specs.Joined.{IsSelected, IsItemRead}
use Rattle.certificates.specs.Table.{HasTyped}
use Rattle.axiom_instances.specs.Asks.{AlwaysTriggered, AsksOfTerm, AsksOfType, AsksOfTypeAlone, AsksOfTypeBeside, AsksOfRead, AsksOfItem, AsksOfVectors}

-- a memory made by a store is read at this key, or the one from which it is made is; the same for vectors
pub data IsReadAt (b : Branch) : TermData → TermData → Type 0 where
  StoreRead : (m a v k : TermData) → (IsSelected b (StoreTerm m a v) k ⊎ IsSelected b m k) → IsReadAt b (StoreTerm m a v) k
  PushRead : (v x i : TermData) → (IsItemRead b (PushTerm v x) i ⊎ IsItemRead b v i) → IsReadAt b (PushTerm v x) i
  PopRead : (v i : TermData) → (IsItemRead b (PopTerm v) i ⊎ IsItemRead b v i) → IsReadAt b (PopTerm v) i
  SetRead : (v i x j : TermData) → (IsItemRead b (SetTerm v i x) j ⊎ IsItemRead b v j) → IsReadAt b (SetTerm v i x) j

-- the instance is triggered on the branch
pub data IsTriggeredOn (shapes : List Shape) (b : Branch) (name : Axiom) (ts : List TermData) (p : FormulaData) : Type 0 where
  Always : AlwaysTriggered name ts p → IsTriggeredOn shapes b name ts p
  OfTerm : (t : TermData) → IsTerm b t → AsksOfTerm shapes t name ts p → IsTriggeredOn shapes b name ts p
  OfType : (a : TypeData) (t : TermData) → IsTyped b a t → AsksOfType shapes a t name ts p → IsTriggeredOn shapes b name ts p
  OfTypeAlone : (a : TypeData) → HasTyped b a → AsksOfTypeAlone a name ts p → IsTriggeredOn shapes b name ts p
  OfTypeBeside : (a : TypeData) (t : TermData) → HasTyped b a → IsTerm b t → AsksOfTypeBeside a t name ts p → IsTriggeredOn shapes b name ts p
  OfRead : (t k : TermData) → IsTerm b t → IsTerm b k → IsReadAt b t k → AsksOfRead t k name ts p → IsTriggeredOn shapes b name ts p
  OfItem : (a : TypeData) (v i : TermData) → IsTyped b a v → IsTerm b i → IsItemRead b v i → AsksOfItem a v i name ts p → IsTriggeredOn shapes b name ts p
  OfVectors : (a : TypeData) (v u : TermData) → Stands b (DifferFormula v u) → IsTyped b a v → IsTyped b a u → AsksOfVectors a v u name ts p → IsTriggeredOn shapes b name ts p
