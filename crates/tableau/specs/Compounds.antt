-- Compound formulas, by number.
use Rattle.std.specs.Prelude.{◌≡◌, ℕ, List, Option, Some, None}
use Rattle.fol.specs.declared.operators.Connective.{Connective}
use Rattle.fol.specs.FormulaData.{FormulaData, NotFormula, JoinFormula, ConnectFormula}
use Rattle.term_pool.specs.Items.{formulas_in}
use Rattle.term_pool.specs.Pools.{item_at}
use Rattle.term_pool.specs.declared.node.One.TheVariants.{Not as NotHead, Join as JoinHead}
use Rattle.term_pool.specs.declared.node.Two.TheVariants.{Connect as ConnectHead}
use Rattle.term_pool.specs.declared.node.Node.{Node}
use Rattle.term_pool.specs.declared.node.Node.TheVariants.{One as OneNode, Two as TwoNode}
use Rattle.tableau.specs.PoolBranches.{IsFormulaNumber}
use Rattle.tableau.specs.Numbers.{formula_at}
use Rattle.tableau.specs.declared.rules.compounds.Compound.{Compound}
use Rattle.tableau.specs.declared.rules.compounds.Compound.TheVariants.{Join, Not, Connect}

-- an atom or a quantified formula
abbrev pub HasNoConnective : FormulaData → Type 0
HasNoConnective (NotFormula p) = ⊥
HasNoConnective (JoinFormula o ps) = ⊥
HasNoConnective (ConnectFormula o p q) = ⊥
HasNoConnective _ = Unit {0}

pub record IsDenial (ns : List Node) (p : FormulaData) (inner : ℕ) : Type 0 where
  pub number : IsFormulaNumber ns inner
  pub is : p ≡ NotFormula (formula_at ns inner)

pub record IsConnection (ns : List Node) (p : FormulaData) (o : Connective) (left right : ℕ) : Type 0 where
  pub left_number : IsFormulaNumber ns left
  pub right_number : IsFormulaNumber ns right
  pub is : p ≡ ConnectFormula o (formula_at ns left) (formula_at ns right)

-- the formula is this compound
abbrev pub IsCompound : List Node → FormulaData → Compound → Type 0
IsCompound ns p (Join o list) = p ≡ JoinFormula o (formulas_in (item_at ns list))
IsCompound ns p (Not inner) = IsDenial ns p inner
IsCompound ns p (Connect o left right) = IsConnection ns p o left right

-- the compound formula at a node
abbrev pub compound_of : Node → Option Compound
compound_of (OneNode (JoinHead o) list) = Some (Join o list)
compound_of (OneNode NotHead inner) = Some (Not inner)
compound_of (TwoNode (ConnectHead o) left right) = Some (Connect o left right)
compound_of _ = None
