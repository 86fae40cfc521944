-- The instances that a pair of vectors triggers, as whole lists.
use Rattle.std.specs.Prelude.{ℕ, List, [], ◌∷◌}
use Rattle.base.specs.TypeData.{TypeData}
use Rattle.fol.specs.FormulaData.{TermData, LenTerm, FormulaData, EqFormula, NotFormula}
use Rattle.axioms.specs.declared.axiom.Axiom.{Axiom}
use Rattle.axioms.specs.declared.axiom.Axiom.TheVariants.{Cases}
use Rattle.axioms.specs.declared.axiom.Alternative.TheVariants.{SameItems}
use Rattle.axioms.specs.Alternatives.{DifferAtFormula}
use Rattle.axioms.specs.Forms.{DifferFormula, VectorFormula}
use Rattle.certificates.specs.Table.{some_of}
use Rattle.axiom_instances.specs.Asks.{AsksOfVectors}
use Rattle.axiom_instances.specs.Lists.{Triggered}
use Rattle.axiom_instances.specs.PairRows.{pair_row}
use Rattle.axiom_instances.specs.Fresh.{HasFresh}

-- an instance that vectors of a type trigger, if there is a variable that it can bind
pub record AsksOfPair (a : TypeData) (v u : TermData) (name : Axiom) (ts : List TermData) (p : FormulaData) : Type 0 where
  pub fresh : HasFresh v u
  pub triggered : AsksOfVectors a v u name ts p

-- the vectors of items of this type have the same items, unless they differ at an index i
abbrev pub same_items_row : TypeData → TermData → TermData → ℕ → Triggered
same_items_row a v u i =
    pair_row (Cases SameItems) v u (some_of (NotFormula (VectorFormula a v) ∷ NotFormula (VectorFormula a u) ∷ EqFormula v u ∷ DifferFormula (LenTerm v) (LenTerm u) ∷ DifferAtFormula i v u ∷ []))
