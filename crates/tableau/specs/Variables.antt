-- The bounds of the variables of a pool and of a branch, and the entries that have a name.
use Rattle.std.specs.Prelude.{◌≡◌, ℕ, suc, ◌+◌, ◌<◌, ◌≤◌, List, length, map, take, slice_index_or}
use Rattle.term_pool.specs.Items.{Item, NoItem, TermItem, TermsItem, TriggersItem, FormulaItem, FormulasItem, TypeItem, TypesItem, BytesItem}
use Rattle.term_pool.specs.Pools.{item_at}
use Rattle.term_pool.specs.declared.node.Leaf.TheVariants.{Var}
use Rattle.term_pool.specs.declared.node.Two.TheVariants.{Quantify}
use Rattle.term_pool.specs.declared.node.Node.{Node}
use Rattle.term_pool.specs.declared.node.Node.TheVariants.{Leaf as LeafNode, Two as TwoNode}
use Rattle.certificates.specs.Names.{above_term, above_terms, above_triggers, above, above_formulas, above_all}
use Rattle.certificates.specs.BranchesBranch.{formulas}
use Rattle.certificates.specs.declared.branches.origin.Origin.{Origin}
use Rattle.certificates.specs.declared.branches.origin.Origin.TheVariants.{Name, Other}
use Rattle.tableau.specs.PoolBranches.{entry_in}
use Rattle.tableau.specs.declared.entry.PoolEntry.{PoolEntry}
use Rattle.tableau.specs.declared.log.Change.{Change}

-- the least number above all variables of an item
abbrev pub above_item : Item → ℕ
above_item NoItem = 0
above_item (TermItem t) = above_term t
above_item (TermsItem ts) = above_terms ts
above_item (TriggersItem ts) = above_triggers ts
above_item (FormulaItem p) = above p
above_item (FormulasItem ps) = above_formulas ps
above_item (TypeItem a) = 0
above_item (TypesItem ts) = 0
above_item (BytesItem bs) = 0

-- the least number above the variable that a node is or binds
abbrev pub above_own : Node → ℕ
above_own (LeafNode (Var n)) = suc n
above_own (TwoNode (Quantify o n) a b) = suc n
above_own _ = 0

-- the least number above all variables of entries
abbrev pub above_entries : List Node → List PoolEntry → ℕ
above_entries ns es = above_all (formulas (map (entry_in ns) es))

-- ---- the invariants

-- the bounds of the items of the first nodes, by number
pub record AreNodesAbove (ns : List Node) (xs : List ℕ) : Type 0 where
  pub few : length xs ≤ length ns
  pub each : (i : ℕ) → i < length xs → slice_index_or xs i 0 ≡ above_item (item_at ns i)

-- the bound of the item of the node after them
pub record IsNextAbove (ns : List Node) (xs : List ℕ) (n : ℕ) : Type 0 where
  pub within : length xs < length ns
  pub is : n ≡ above_item (item_at ns (length xs))

-- the bounds of the first entries, up to each one
pub record AreEntriesAbove (ns : List Node) (es : List PoolEntry) (xs : List ℕ) : Type 0 where
  pub few : length xs ≤ length es
  pub each : (i : ℕ) → i < length xs → slice_index_or xs i 0 ≡ above_entries ns (take (i + 1) es)

-- the key of an entry that names the variable of another one; entries that name none have key 0
abbrev pub name_key : Origin → ℕ
name_key (Name i) = suc i
name_key Other = 0

abbrev pub key_of : PoolEntry → ℕ
key_of e = name_key e.origin

abbrev pub number_of : Change → ℕ
number_of c = c.number

-- a change for each of the first entries, at its key
pub record AreNames (es : List PoolEntry) (count : ℕ) (cs : List Change) : Type 0 where
  pub are : map number_of cs ≡ map key_of (take count es)

pub record VariablesData : Type 0 where
  pub nodes : List ℕ
  pub entries : List ℕ
  pub names : List Change

-- the invariant for the pool and for the entries of a branch: valid for each prefix of either
pub record AreAbove (ns : List Node) (es : List PoolEntry) (v : VariablesData) : Type 0 where
  pub nodes : AreNodesAbove ns v.nodes
  pub entries : AreEntriesAbove ns es v.entries
  pub names : AreNames es (length v.entries) v.names
