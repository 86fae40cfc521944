-- Rewriting of entries to the same entries with the chosen terms.
use Rattle.std.specs.Prelude.{◌≡◌, ℕ, ◌<◌, ℤ, pos, Bool, true, false, List, length, slice_get, slice_index_or, Option, Some, None}
use Rattle.term_pool.specs.declared.node.Node.{Node}
use Rattle.congruence_closure.specs.declared.classes.link.Link.{Link}
use Rattle.certificates.specs.BranchesBranch.{Branch}
use Rattle.tableau.specs.PoolBranches.{BranchData}
use Rattle.tableau.specs.declared.entry.PoolEntry.{PoolEntry}
use Rattle.row_reasoning.specs.declared.rows.RowOrigin.{RowOrigin}
use Rattle.congruence_closure.specs.Known.{BranchClassesData}
use Rattle.explanations.specs.Chains.{ChainData}
use Rattle.explanations.specs.Replacing.{CanReplaceAt, IsReplacedAt, CanBeginEach}
use Rattle.explanations.specs.Plans.{IsOnAny}
use Rattle.explanations.specs.Formulas.{AreInSource}
use Rattle.row_reasoning.specs.Cited.{position_at}
use Rattle.row_reasoning.specs.StandIns.{HaveStandIns}
use Rattle.row_reasoning.specs.DifferencesEntries.{MakeChosen}
use Rattle.closing_rules.specs.declared.row_closings.rewriting.Rewriting.{Rewriting}

-- ---- the entries of rows

abbrev pub is_cited : List Bool → ℕ → Bool
is_cited cited entry = slice_index_or cited entry false

-- the rows come from the first `count` entries
pub record AreBelow (origins : List RowOrigin) (count : ℕ) : Type 0 where
  pub each : (i : ℕ) (o : RowOrigin) → slice_get origins i ≡ Some o → o.entry < count

-- the entry of each row whose multiplier is not 0 is marked
pub record AreCited (origins : List RowOrigin) (ms : List ℤ) (cited : List Bool) : Type 0 where
  pub each : (i : ℕ) (o : RowOrigin) (m : ℤ) → slice_get origins i ≡ Some o → slice_get ms i ≡ Some m → (m ≡ pos 0 → ⊥) → is_cited cited o.entry ≡ true

-- ---- rewritings

-- each unknown of an entry has a chosen term that replaces it
pub record HaveEntryStandIns (ns : List Node) (d : BranchData) (c : BranchClassesData) (names : List ℕ) (find : ℕ → Option ℕ) : Type 0 where
  pub each : (i : ℕ) (e : PoolEntry) → slice_get d.entries i ≡ Some e → HaveStandIns ns c names find e.formula

-- the differences transform the entry into the same entry with the chosen terms
pub record IsRewriting (ns : List Node) (d : BranchData) (c : BranchClassesData) (names : List ℕ) (find : ℕ → Option ℕ) (r : Rewriting) : Type 0 where
  pub entry : PoolEntry
  pub found : slice_get d.entries r.entry ≡ Some entry
  pub makes : MakeChosen ns c names find entry.formula r.differences.items

pub record IsRewritingOf (ns : List Node) (d : BranchData) (c : BranchClassesData) (names : List ℕ) (find : ℕ → Option ℕ) (number : ℕ) (r : Rewriting) : Type 0 where
  pub same : r.entry ≡ number
  pub is : IsRewriting ns d c names find r

pub record AreRewritingsOf (ns : List Node) (d : BranchData) (c : BranchClassesData) (names : List ℕ) (find : ℕ → Option ℕ) (rs : List Rewriting) : Type 0 where
  pub each : (k : ℕ) (r : Rewriting) → slice_get rs k ≡ Some r → IsRewriting ns d c names find r

-- one of the rewritings is of the entry
pub record HasRewriting (rs : List Rewriting) (entry : ℕ) : Type 0 where
  pub position : ℕ
  pub rewriting : Rewriting
  pub found : slice_get rs position ≡ Some rewriting
  pub same : rewriting.entry ≡ entry

-- the rewritings of the cited entries among the first ones
pub record AreRewritings (ns : List Node) (d : BranchData) (c : BranchClassesData) (names : List ℕ) (find : ℕ → Option ℕ) (cited : List Bool) (rs : List Rewriting) (count : ℕ) : Type 0 where
  pub each : AreRewritingsOf ns d c names find rs
  pub all : (entry : ℕ) → entry < count → is_cited cited entry ≡ true → HasRewriting rs entry

-- the entry of each row whose multiplier is not 0 has a rewriting
pub record CoverRows (origins : List RowOrigin) (ms : List ℤ) (rs : List Rewriting) : Type 0 where
  pub each : (i : ℕ) (o : RowOrigin) (m : ℤ) → slice_get origins i ≡ Some o → slice_get ms i ≡ Some m → (m ≡ pos 0 → ⊥) → HasRewriting rs o.entry

-- ---- in an explanation

-- the proof forest edge is needed for some of the rewritings
pub record IsOnEach (rs : List Rewriting) (link : ℕ) : Type 0 where
  pub position : ℕ
  pub rewriting : Rewriting
  pub found : slice_get rs position ≡ Some rewriting
  pub on : IsOnAny rewriting.differences.items link

-- each rewriting finds its differences in the entry, whose index in the explanation is its own number
pub record AreSources (ns nodes : List Node) (ls : List Link) (numbers : List ℕ) (d : ChainData) (rs : List Rewriting) : Type 0 where
  pub each : (k : ℕ) (r : Rewriting) → slice_get rs k ≡ Some r → AreInSource ns nodes ls numbers d r.entry r.differences.items

-- the rewriting can be done, with the equations at these indexes
pub record IsReady (ns : List Node) (b : Branch) (d : ChainData) (numbers : List ℕ) (table : List (Option ℕ)) (r : Rewriting) : Type 0 where
  pub can : CanReplaceAt ns d numbers table r.entry r.differences.items
  pub begin : CanBeginEach ns b d numbers r.differences.items

pub record AreReady (ns : List Node) (b : Branch) (d : ChainData) (numbers : List ℕ) (table : List (Option ℕ)) (rs : List Rewriting) : Type 0 where
  pub each : (k : ℕ) (r : Rewriting) → slice_get rs k ≡ Some r → IsReady ns b d numbers table r

-- none of the first `count` entries has an index
pub record AreNoPositions (count : ℕ) (positions : List (Option ℕ)) : Type 0 where
  pub long : length positions ≡ count
  pub none : (entry : ℕ) → position_at positions entry ≡ None

-- the entry has an index, and the formula there is the result of one of its rewritings
pub record HasPositionFor (ns : List Node) (d : ChainData) (numbers : List ℕ) (rs : List Rewriting) (ms : List Node) (e : ChainData) (positions : List (Option ℕ)) (entry : ℕ) : Type 0 where
  pub position : ℕ
  pub found : position_at positions entry ≡ Some position
  pub has : HasRewriting rs entry
  pub at : IsReplacedAt ns d numbers entry has.rewriting.differences.items ms e position

pub record ArePlacedBy (ns : List Node) (d : ChainData) (numbers : List ℕ) (rs : List Rewriting) (ms : List Node) (e : ChainData) (positions : List (Option ℕ)) : Type 0 where
  pub each : (k : ℕ) (r : Rewriting) → slice_get rs k ≡ Some r → HasPositionFor ns d numbers rs ms e positions r.entry
  pub below : (entry position : ℕ) → position_at positions entry ≡ Some position → position < length e.formulas
