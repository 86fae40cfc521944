-- What occurs in an item of a pool and in the entries of a branch, also within quantifiers and their triggers; marks of
-- it (R. Jones and R. Lins, Garbage Collection, chapter 2).
use Rattle.std.specs.Prelude.{◌≡◌, ◌↔◌, ◌⊎◌, ℕ, ◌<◌, ◌≤◌, Bool, false, IsTrue, List, [], ◌∷◌, length, slice_get, slice_index_or, Some}
use Rattle.fol.specs.FormulaData.{TermData, TermsData, NoTerms, MoreTerms, TriggersData, NoTriggers, MoreTriggers, FormulasData, NoFormulas, MoreFormulas}
use Rattle.term_pool.specs.Items.{Item, TermItem, TermsItem, TriggersItem, FormulaItem, FormulasItem}
use Rattle.term_pool.specs.Pools.{IsMade}
use Rattle.term_pool.specs.declared.node.Node.{Node}
use Rattle.term_pool.specs.declared.node.Node.TheVariants.{Leaf as LeafNode, One as OneNode, Two as TwoNode, Three as ThreeNode}
use Rattle.certificates.specs.Inside.{IsInsideTerm, IsInside}
use Rattle.tableau.specs.Marks.{IsOneOf}
use Rattle.tableau.specs.PoolBranches.{BranchData}
use Rattle.tableau.specs.declared.entry.PoolEntry.{PoolEntry}

abbrev pub IsInTerms : TermData → TermsData → Type 0
IsInTerms t NoTerms = ⊥
IsInTerms t (MoreTerms u us) = IsInsideTerm t u ⊎ IsInTerms t us

abbrev pub IsInTriggers : TermData → TriggersData → Type 0
IsInTriggers t NoTriggers = ⊥
IsInTriggers t (MoreTriggers us ts) = IsInTerms t us ⊎ IsInTriggers t ts

abbrev pub IsInFormulas : TermData → FormulasData → Type 0
IsInFormulas t NoFormulas = ⊥
IsInFormulas t (MoreFormulas p ps) = IsInside t p ⊎ IsInFormulas t ps

-- the term is the item, or occurs in it
abbrev pub StandsInItem : TermData → Item → Type 0
StandsInItem t (TermItem u) = IsInsideTerm t u
StandsInItem t (TermsItem us) = IsInTerms t us
StandsInItem t (TriggersItem ts) = IsInTriggers t ts
StandsInItem t (FormulaItem p) = IsInside t p
StandsInItem t (FormulasItem ps) = IsInFormulas t ps
StandsInItem t _ = ⊥

-- ---- what occurs in the entries of a branch, by number

abbrev pub parts_of : Node → List ℕ
parts_of (LeafNode h) = []
parts_of (OneNode h a) = a ∷ []
parts_of (TwoNode h a b) = a ∷ b ∷ []
parts_of (ThreeNode h a b c) = a ∷ b ∷ c ∷ []

-- the number is that of an entry, or of a part of what occurs in one
pub data IsBelow (ns : List Node) (d : BranchData) : ℕ → Type 0 where
  OfEntry : (i : ℕ) (e : PoolEntry) (n : ℕ) → slice_get d.entries i ≡ Some e → e.formula ≡ n → IsBelow ns d n
  OfPart : (n : ℕ) (node : Node) (part : ℕ) → IsBelow ns d n → IsMade ns n node → IsOneOf part (parts_of node) → IsBelow ns d part

-- ---- marks

abbrev pub IsMarked : List Bool → ℕ → Type 0
IsMarked marks n = IsTrue (slice_index_or marks n false)

-- the marked numbers are the old ones and these
pub record MarksAlso (old new : List Bool) (numbers : List ℕ) : Type 0 where
  pub as_long : length new ≡ length old
  pub marked : (n : ℕ) → IsMarked new n ↔ (IsMarked old n ⊎ IsOneOf n numbers)

-- there is a mark for each part of the node
pub record HasRoom (marks : List Bool) (node : Node) : Type 0 where
  pub each : (part : ℕ) → IsOneOf part (parts_of node) → part < length marks

-- the first `count` entries are marked, and only what occurs in entries
pub record AreEntriesMarked (ns : List Node) (d : BranchData) (marks : List Bool) (count : ℕ) : Type 0 where
  pub as_long : length marks ≡ length ns
  pub below : (n : ℕ) → IsMarked marks n → IsBelow ns d n
  pub entries : (i : ℕ) (e : PoolEntry) → i < count → slice_get d.entries i ≡ Some e → IsMarked marks e.formula

-- the parts of the node are marked
pub record HasMarkedParts (ns : List Node) (marks : List Bool) (n : ℕ) : Type 0 where
  pub node : Node
  pub made : IsMade ns n node
  pub parts : (part : ℕ) → IsOneOf part (parts_of node) → IsMarked marks part

-- all entries are marked, so are the parts of what is marked from a number on, and only what occurs in entries
pub record IsSwept (ns : List Node) (d : BranchData) (marks : List Bool) (from : ℕ) : Type 0 where
  pub as_long : length marks ≡ length ns
  pub below : (n : ℕ) → IsMarked marks n → IsBelow ns d n
  pub entries : (i : ℕ) (e : PoolEntry) → slice_get d.entries i ≡ Some e → IsMarked marks e.formula
  pub parts : (n : ℕ) → from ≤ n → IsMarked marks n → HasMarkedParts ns marks n

-- there are no marks yet, or all that occurs in entries is marked
pub record AreInsideMarks (ns : List Node) (d : BranchData) (marks : List Bool) : Type 0 where
  pub swept : 0 < length marks → IsSwept ns d marks 0
