-- Classes over the terms and formulas of a pool, and the branch of their entries.
use Rattle.std.specs.Prelude.{◌≡◌, ◌↔◌, ◌==◌, ℕ, ◌<◌, Bool, nat_eq, List, [], ◌∷◌, ◌++◌, map, length, slice_get, Option, Some, unwrap_or, IsTrue}
use Rattle.std.specs.Map.{lookup}
use Rattle.fol.specs.FormulaData.{TermData, FormulaData, EqFormula}
use Rattle.term_pool.specs.Items.{TermItem, FormulaItem, formula_in}
use Rattle.term_pool.specs.Pools.{item_at, Extends}
use Rattle.term_pool.specs.declared.node.Two.TheVariants.{Quantify}
use Rattle.term_pool.specs.declared.node.Node.{Node}
use Rattle.term_pool.specs.declared.node.Node.TheVariants.{Two as TwoNode}
use Rattle.congruence_closure.specs.declared.classes.link.Equation.{Equation}
use Rattle.congruence_closure.specs.Signatures.{class_in}
use Rattle.congruence_closure.specs.States.{IsPart, ClassesData}
use Rattle.certificates.specs.BranchesBranch.{Branch, formulas}
use Rattle.certificates.specs.Joined.{Joined, IsAlike}
use Rattle.congruence_closure.specs.Numbers.{number_at, AreNumbered, AreMadeFor, StandsIn, AreSidesOf}
use Rattle.congruence_closure.specs.Nodes.{IsNode, AreNodes, AreSides, AreEquations}

-- the classes, the number of the pool for which each node was made, the known numbers with their nodes, and the
-- numbers of the formulas of the entries
pub record BranchClassesData : Type 0 where
  pub classes : ClassesData
  pub numbers : List ℕ
  pub known : List (ℕ × ℕ)
  pub entries : List ℕ

abbrev pub node_in : BranchClassesData → ℕ → Option ℕ
node_in d number = lookup (nat_eq number) d.known

pub record IsKnown (d : BranchClassesData) (number : ℕ) : Type 0 where
  pub node : ℕ
  pub found : node_in d number ≡ Some node

-- the representative of the class of a known number
abbrev pub class_of : BranchClassesData → ℕ → ℕ
class_of d number = class_in d.classes.names (unwrap_or (node_in d number) 0)

-- the number is a part of the node, with no quantifier in between
abbrev pub IsOuterPart : ℕ → Node → Type 0
IsOuterPart part (TwoNode (Quantify o n) a b) = ⊥
IsOuterPart part node = IsPart part node

-- some node is found for the number
pub record IsFound (known : ℕ → Option ℕ) (number : ℕ) : Type 0 where
  pub node : ℕ
  pub found : known number ≡ Some node

-- some node is found for each of its parts outside quantifiers
pub record ArePartsFound (pool : List Node) (known : ℕ → Option ℕ) (number : ℕ) : Type 0 where
  pub each : (n : Node) (part : ℕ) → slice_get pool number ≡ Some n → IsOuterPart part n → IsFound known part

-- the node represents the item of the pool with this number, under quantifiers of these variables
pub record IsNodeOf (pool ns : List Node) (bound : List ℕ) (number node : ℕ) : Type 0 where
  pub within : number < length pool
  pub is : IsNode ns node bound (item_at pool number)

-- the known numbers have the right nodes, and their parts outside quantifiers are known
pub record AreKnown (pool ns : List Node) (bound : List ℕ) (known : ℕ → Option ℕ) : Type 0 where
  pub each : (number node : ℕ) → known number ≡ Some node → IsNodeOf pool ns bound number node
  pub parts : (number node : ℕ) → known number ≡ Some node → ArePartsFound pool known number

abbrev pub formula_at : List Node → ℕ → FormulaData
formula_at pool number = formula_in (item_at pool number)

-- the entry at this index is this formula
pub record IsEntry (pool : List Node) (entries : List ℕ) (position : ℕ) (p : FormulaData) : Type 0 where
  pub number : ℕ
  pub found : slice_get entries position ≡ Some number
  pub is : formula_at pool number ≡ p

-- the nodes are those of the list
pub record AreWithin (ns : List Node) (known : ℕ → Option ℕ) : Type 0 where
  pub each : (number node : ℕ) → known number ≡ Some node → node < length ns

-- the equation is an entry
pub record IsOfEntry (pool : List Node) (d : BranchClassesData) (e : Equation) : Type 0 where
  pub position : ℕ
  pub number : ℕ
  pub found : slice_get d.entries position ≡ Some number
  pub sides : AreSidesOf pool d.classes.nodes d.numbers number e

-- each known node represents its item, the formulas of the entries are known, and the equations are those among them;
-- and each node has the number for which it was made
pub record IsOver (pool : List Node) (d : BranchClassesData) : Type 0 where
  pub nodes : AreNodes d.classes.nodes
  pub known : AreKnown pool d.classes.nodes [] (node_in d)
  pub entries : (position number : ℕ) → slice_get d.entries position ≡ Some number → IsKnown d number
  pub equations : AreEquations d.classes.nodes d.classes.equations (IsEntry pool d.entries)
  pub numbered : AreNumbered pool d.classes.nodes d.numbers
  pub made : AreMadeFor pool d.classes.nodes d.numbers (node_in d)
  pub sides : (k : ℕ) (e : Equation) → slice_get d.classes.equations k ≡ Some e → IsOfEntry pool d e

-- the number occurs in an entry
pub record StandsInEntry (pool : List Node) (entries : List ℕ) (number : ℕ) : Type 0 where
  pub position : ℕ
  pub entry : ℕ
  pub found : slice_get entries position ≡ Some entry
  pub stands : StandsIn pool number entry

-- each node was made for an item that occurs in an entry
pub record AreInEntries (pool : List Node) (d : BranchClassesData) : Type 0 where
  pub each : (i : ℕ) → i < length d.classes.nodes → StandsInEntry pool d.entries (number_at d.numbers i)

-- the entries are those of the branch
pub record AreEntriesOf (pool : List Node) (d : BranchClassesData) (b : Branch) : Type 0 where
  pub over : IsOver pool d
  pub formulas : formulas b ≡ map (formula_at pool) d.entries

-- the answer is true exactly when the terms are joined on the branch
pub record TellsJoined (d : BranchClassesData) (left right : ℕ) (answer : Bool) : Type 0 where
  pub tells : (pool : List Node) (b : Branch) (t u : TermData) → AreEntriesOf pool d b → item_at pool left ≡ TermItem t → item_at pool right ≡ TermItem u → IsTrue answer ↔ Joined b t u

-- the answer is true exactly when the formulas are equal up to the classes
pub record TellsAlike (d : BranchClassesData) (left right : ℕ) (answer : Bool) : Type 0 where
  pub tells : (pool : List Node) (b : Branch) (p q : FormulaData) → AreEntriesOf pool d b → item_at pool left ≡ FormulaItem p → item_at pool right ≡ FormulaItem q → IsTrue answer ↔ IsAlike b [] p q

-- the representatives are equal exactly for the terms that are joined, and for the formulas that are equal up to the
-- classes
pub record AreExact (d : BranchClassesData) : Type 0 where
  pub joined : (left right : ℕ) → IsKnown d left → IsKnown d right → TellsJoined d left right (class_of d left == class_of d right)
  pub alike : (left right : ℕ) → IsKnown d left → IsKnown d right → TellsAlike d left right (class_of d left == class_of d right)

-- the known numbers remain known, and further numbers become known
pub record Keeps (d d2 : BranchClassesData) : Type 0 where
  pub known : (number : ℕ) → IsKnown d number → IsKnown d2 number

-- ---- the walk

-- nodes were added, and known numbers with them
pub record IsGrown (pool : List Node) (bound : List ℕ) (ns ns2 : List Node) (before after : ℕ → Option ℕ) : Type 0 where
  pub nodes : AreNodes ns2
  pub extends : Extends ns ns2
  pub known : AreKnown pool ns2 bound after
  pub stays : (i k : ℕ) → before i ≡ Some k → after i ≡ Some k

-- nodes were added, and this one represents the item with this number
pub record IsAdded (pool : List Node) (bound : List ℕ) (number : ℕ) (ns ns2 : List Node) (node : ℕ) : Type 0 where
  pub nodes : AreNodes ns2
  pub extends : Extends ns ns2
  pub is : IsNodeOf pool ns2 bound number node

-- the same, and numbers became known: the parts of the item among them
pub record IsWalked (pool : List Node) (bound : List ℕ) (number : ℕ) (ns ns2 : List Node) (before after : ℕ → Option ℕ) (node : ℕ) : Type 0 where
  pub grown : IsGrown pool bound ns ns2 before after
  pub is : IsNodeOf pool ns2 bound number node
  pub parts : ArePartsFound pool after number

-- the equations after an entry was added: one more, if the entry is one
pub data IsPutIn (pool : List Node) (number : ℕ) (ns : List Node) (es es2 : List Equation) : Type 0 where
  NoEquation : es2 ≡ es → ((t u : TermData) → formula_at pool number ≡ EqFormula t u → ⊥) → IsPutIn pool number ns es es2
  OneEquation : (e : Equation) (t u : TermData) → es2 ≡ es ++ e ∷ [] → formula_at pool number ≡ EqFormula t u → AreSides ns e t u → IsPutIn pool number ns es es2

-- the classes with the nodes of an entry and with its equation
pub record IsEquated (pool : List Node) (number : ℕ) (old new : ClassesData) (before after : ℕ → Option ℕ) : Type 0 where
  pub node : ℕ
  pub walked : IsWalked pool [] number old.nodes new.nodes before after node
  pub found : after number ≡ Some node
  pub equations : IsPutIn pool number new.nodes old.equations new.equations
