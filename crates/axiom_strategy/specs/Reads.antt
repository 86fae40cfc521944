-- Memories and vectors that are read, and the terms at which they are read, up to classes.
use Rattle.std.specs.Prelude.{◌≡◌, ℕ, List, map, Contains, Option, Some, None}
use Rattle.std.specs.List.{flat_map}
use Rattle.fol.specs.declared.operators.Unary.TheVariants.{Pop}
use Rattle.fol.specs.declared.operators.Binary.{Binary as BinaryOperator}
use Rattle.fol.specs.declared.operators.Binary.TheVariants.{Select, At, Push}
use Rattle.fol.specs.declared.operators.Ternary.TheVariants.{Store, Set}
use Rattle.fol.specs.FormulaData.{TermData}
use Rattle.term_pool.specs.declared.node.Node.{Node}
use Rattle.certificates.specs.BranchesBranch.{Branch}
use Rattle.certificates.specs.Joined.{IsSelected, IsItemRead}
use Rattle.congruence_closure.specs.Known.{BranchClassesData, class_of}
use Rattle.base.specs.Lists.{list_in}
use Rattle.tableau.specs.Terms.{AreBranchTerms}
use Rattle.axiom_instances.specs.declared.reading.TermForm.{TermForm}
use Rattle.axiom_instances.specs.declared.reading.TermForm.TheVariants.{Unary, Binary, Ternary}
use Rattle.axiom_instances.specs.Numbers.{IsBinary}
use Rattle.axiom_strategy.specs.declared.askers.Asker.{Asker}
use Rattle.axiom_strategy.specs.declared.askers.Asker.TheVariants.{Read, Item}
use Rattle.axiom_strategy.specs.declared.reads.Reading.{Reading}
use Rattle.axiom_strategy.specs.declared.reads.Reading.TheVariants.{OfMemory, OfVector}
use Rattle.axiom_strategy.specs.declared.reads.ReadIndex.{ReadIndex}
use Rattle.axiom_strategy.specs.declared.typings.Typing.{Typing}
use Rattle.axiom_strategy.specs.Families.{IsAskerOn}
use Rattle.axiom_strategy.specs.Keyed.{AreListed}

-- ---- forms

abbrev pub operator_of : Reading → BinaryOperator
operator_of OfMemory = Select
operator_of OfVector = At

-- the memory and the key of a term of this form
abbrev pub select_parts : TermForm → Option (ℕ × ℕ)
select_parts (Binary Select m k) = Some (m, k)
select_parts _ = None

abbrev pub at_parts : TermForm → Option (ℕ × ℕ)
at_parts (Binary At v i) = Some (v, i)
at_parts _ = None

abbrev pub read_parts : Reading → TermForm → Option (ℕ × ℕ)
read_parts OfMemory form = select_parts form
read_parts OfVector form = at_parts form

-- for a memory or a vector made of another one: the kind of its reads, and what it is made of
abbrev pub made_of : TermForm → Option (Reading × ℕ)
made_of (Unary Pop v) = Some (OfVector, v)
made_of (Binary Push v x) = Some (OfVector, v)
made_of (Ternary Store m a v) = Some (OfMemory, m)
made_of (Ternary Set v i x) = Some (OfVector, v)
made_of _ = None

-- up to classes the branch has a read of it there
abbrev pub IsReadBy : Branch → Reading → TermData → TermData → Type 0
IsReadBy b OfMemory m k = IsSelected b m k
IsReadBy b OfVector v i = IsItemRead b v i

-- ---- by classes

-- one of these terms, in this class
pub record IsMember (c : BranchClassesData) (terms : List ℕ) (class n : ℕ) : Type 0 where
  pub among : Contains terms n
  pub is : class_of c n ≡ class

-- one of these terms reads something of the first class at something of the second
pub record IsReadOf (ns : List Node) (c : BranchClassesData) (reading : Reading) (terms : List ℕ) (from position : ℕ) : Type 0 where
  pub number : ℕ
  pub among : Contains terms number
  pub parts : ℕ × ℕ
  pub read : IsBinary ns (operator_of reading) number parts.0 parts.1
  pub same_from : class_of c parts.0 ≡ from
  pub same_position : class_of c parts.1 ≡ position

-- the terms of the branch by class, and the reads among them
pub record IsReadIndex (ns : List Node) (b : Branch) (c : BranchClassesData) (index : ReadIndex) : Type 0 where
  pub terms : List ℕ
  pub are : AreBranchTerms ns b terms
  pub members : AreListed (IsMember c terms) index.members
  pub memories : AreListed (IsReadOf ns c OfMemory terms) index.memories.lists
  pub vectors : AreListed (IsReadOf ns c OfVector terms) index.vectors.lists

abbrev pub reads_in : ReadIndex → Reading → List (ℕ × List ℕ)
reads_in index OfMemory = index.memories.lists
reads_in index OfVector = index.vectors.lists

-- the terms at whose classes the term is read
abbrev pub keys_in : ReadIndex → BranchClassesData → Reading → ℕ → List ℕ
keys_in index c reading t = flat_map (list_in index.members) (list_in (reads_in index reading) (class_of c t))

-- ---- triggers

abbrev pub read_asker : ℕ → ℕ → Asker
read_asker t k = Read t k

abbrev pub item_asker : ℕ → ℕ → ℕ → Asker
item_asker a v i = Item a v i

-- the trigger is for the term with a term at which it is read
pub record IsReadAsker (ns : List Node) (b : Branch) (t : ℕ) (x : Asker) : Type 0 where
  pub key : ℕ
  pub on : IsAskerOn ns b (Read t key)
  pub is : x ≡ Read t key

-- the trigger is for one of these terms
pub record IsReadAmong (ns : List Node) (b : Branch) (terms : List ℕ) (x : Asker) : Type 0 where
  pub term : ℕ
  pub among : Contains terms term
  pub read : IsReadAsker ns b term x

-- a trigger for each type with its term, and the terms at whose classes the vector is read
abbrev pub items_of : ReadIndex → BranchClassesData → Typing → List Asker
items_of index c y = map (item_asker y.of y.term) (keys_in index c OfVector y.term)

abbrev pub item_list : ReadIndex → BranchClassesData → List Typing → List Asker
item_list index c typings = flat_map (items_of index c) typings
