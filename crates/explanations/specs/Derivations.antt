-- The equations of edges in an explanation.
use Rattle.std.specs.Prelude.{◌≡◌, ℕ, ◌<◌, Bool, true, false, List, length, slice_get, Option, Some}
use Rattle.term_pool.specs.Items.{TermSort}
use Rattle.term_pool.specs.Pools.{HasPart}
use Rattle.term_pool.specs.declared.node.Node.{Node}
use Rattle.certificates.specs.BranchesBranch.{Branch}
use Rattle.congruence_closure.specs.declared.classes.link.Link.{Link}
use Rattle.congruence_closure.specs.declared.classes.link.Why.TheVariants.{Given, Alike}
use Rattle.explanations.specs.Chains.{term_at, ChainData, CanBegin}
use Rattle.congruence_closure.specs.Numbers.{number_at}
use Rattle.explanations.specs.Routes.{equation_at, IsEquation}
use Rattle.explanations.specs.Graphs.{IsTermNode}
use Rattle.explanations.specs.Replacing.{after_all, itself_item, CanReplaceAll, CanBeginAll}
use Rattle.explanations.specs.Plans.{is_needed, equation_item}
use Rattle.explanations.specs.declared.derived.replacing.Difference.{Difference}

-- the explanation has the equation of the terms with these numbers
pub record HasEquation (ns : List Node) (d : ChainData) (left right : ℕ) : Type 0 where
  pub position : ℕ
  pub is : IsEquation ns d position left right

-- it has the equation of each edge that an equation justifies
pub record AreSaid (ns : List Node) (d : ChainData) (ls : List Link) (numbers : List ℕ) : Type 0 where
  pub each : (k q : ℕ) (l : Link) → slice_get ls k ≡ Some l → l.why ≡ Given q → HasEquation ns d (number_at numbers l.left) (number_at numbers l.right)

-- the equation of an edge has an index
pub record HasPosition (ns : List Node) (d : ChainData) (ls : List Link) (numbers : List ℕ) (equations : List (Option ℕ)) (k : ℕ) : Type 0 where
  pub position : ℕ
  pub found : equation_at equations k ≡ Some position
  pub is : (l : Link) → slice_get ls k ≡ Some l → IsEquation ns d position (number_at numbers l.left) (number_at numbers l.right)

-- the reflexivity axiom of each term of a node may be added
pub record CanBeginAny (ns nodes : List Node) (b : Branch) (d : ChainData) (numbers : List ℕ) : Type 0 where
  pub each : (i : ℕ) → i < length nodes → IsTermNode ns nodes numbers i → CanBegin b d (term_at ns (number_at numbers i))

-- the equation of the ends of an edge can be derived
pub record IsReady (ns : List Node) (d : ChainData) (numbers : List ℕ) (equations : List (Option ℕ)) (l : Link) (found : List Difference) : Type 0 where
  pub left : HasPart ns (length ns) (number_at numbers l.left) TermSort
  pub right : HasPart ns (length ns) (number_at numbers l.right) TermSort
  pub said : (q : ℕ) → l.why ≡ Given q → HasEquation ns d (number_at numbers l.left) (number_at numbers l.right)
  pub alike : l.why ≡ Alike → CanReplaceAll ns d numbers equations (number_at numbers l.left) found
  pub ends : l.why ≡ Alike → after_all ns numbers (itself_item ns (number_at numbers l.left)) found ≡ equation_item ns (number_at numbers l.left) (number_at numbers l.right)

-- the equation of each needed edge among the first ones has an index
pub record ArePlaced (ns : List Node) (d : ChainData) (ls : List Link) (numbers : List ℕ) (needed : List Bool) (equations : List (Option ℕ)) (count : ℕ) : Type 0 where
  pub each : (c : ℕ) → c < count → is_needed needed c ≡ true → HasPosition ns d ls numbers equations c

-- the next edge is ready, if it is needed
pub record IsLinkReady (ns : List Node) (d : ChainData) (ls : List Link) (numbers : List ℕ) (equations : List (Option ℕ)) (found : List Difference) : Type 0 where
  pub link : Link
  pub is_link : slice_get ls (length equations) ≡ Some link
  pub ready : IsReady ns d numbers equations link found

pub record IsNextReady (ns : List Node) (d : ChainData) (ls : List Link) (numbers : List ℕ) (needed : List Bool) (equations : List (Option ℕ)) (found : List Difference) : Type 0 where
  pub ready : is_needed needed (length equations) ≡ true → IsLinkReady ns d ls numbers equations found

pub record CanBeginNext (ns : List Node) (b : Branch) (d : ChainData) (ls : List Link) (numbers : List ℕ) (needed : List Bool) (k : ℕ) (found : List Difference) : Type 0 where
  pub can : is_needed needed k ≡ true → (l : Link) → slice_get ls k ≡ Some l → CanBeginAll ns b d numbers (number_at numbers l.left) found

pub record IsUnmarked (count : ℕ) (needed : List Bool) : Type 0 where
  pub long : length needed ≡ count
  pub none : (k : ℕ) → is_needed needed k ≡ false
