-- Plans: the needed edges, and the differences between the nodes that an edge joins.
use Rattle.std.specs.Prelude.{◌≡◌, ◌⊎◌, ℕ, suc, ◌+◌, ◌<◌, Bool, true, false, List, [], length, slice_get, slice_index_or, Some}
use Rattle.fol.specs.declared.operators.Comparison.TheVariants.{Eq}
use Rattle.term_pool.specs.Items.{Item, two_item}
use Rattle.term_pool.specs.Pools.{item_at}
use Rattle.term_pool.specs.declared.node.Two.TheVariants.{Compare}
use Rattle.term_pool.specs.declared.node.Node.{Node}
use Rattle.congruence_closure.specs.declared.classes.link.Link.{Link}
use Rattle.congruence_closure.specs.declared.classes.link.Why.TheVariants.{Given, Alike}
use Rattle.congruence_closure.specs.declared.proof_forest.Join.{Join}
use Rattle.congruence_closure.specs.Numbers.{number_at}
use Rattle.explanations.specs.Replacing.{itself_item}
use Rattle.explanations.specs.Graphs.{IsTermNode}
use Rattle.explanations.specs.Positions.{AreFound}
use Rattle.explanations.specs.declared.derived.plan.Plan.{Plan}
use Rattle.explanations.specs.declared.derived.replacing.Difference.{Difference}

-- ---- marks

abbrev pub is_needed : List Bool → ℕ → Bool
is_needed needed link = slice_index_or needed link false

-- the edge is one of the route
pub record IsOn (route : List Join) (link : ℕ) : Type 0 where
  pub position : ℕ
  pub join : Join
  pub found : slice_get route position ≡ Some join
  pub is : join.link ≡ link

-- it is one of some difference's route
pub record IsOnAny (ds : List Difference) (link : ℕ) : Type 0 where
  pub position : ℕ
  pub difference : Difference
  pub found : slice_get ds position ≡ Some difference
  pub on : IsOn difference.route.items link

abbrev pub IsThis : ℕ → ℕ → Type 0
IsThis link k = link ≡ k

-- these edges can be marked
pub record CanMark (count : ℕ) (These : ℕ → Type 0) : Type 0 where
  pub each : (k : ℕ) → These k → k < count

-- these edges were marked, and no others
pub record AreMarked (These : ℕ → Type 0) (old new : List Bool) : Type 0 where
  pub long : length new ≡ length old
  pub stays : (k : ℕ) → is_needed old k ≡ true → is_needed new k ≡ true
  pub marked : (k : ℕ) → These k → is_needed new k ≡ true
  pub only : (k : ℕ) → is_needed new k ≡ true → (is_needed old k ≡ true) ⊎ These k

-- ---- the edges that an edge needs

-- the equation of two terms
abbrev pub equation_item : List Node → ℕ → ℕ → Item
equation_item pool left right = two_item (Compare Eq) (item_at pool left) (item_at pool right)

-- the edge with this number joins two terms, and if it joins congruent nodes, these differences make the one the other
pub record IsPlan (pool ns : List Node) (ls : List Link) (numbers : List ℕ) (k : ℕ) (ds : List Difference) : Type 0 where
  pub link : Link
  pub is_link : slice_get ls k ≡ Some link
  pub left : IsTermNode pool ns numbers link.left
  pub right : IsTermNode pool ns numbers link.right
  pub none : (q : ℕ) → link.why ≡ Given q → ds ≡ []
  pub found : link.why ≡ Alike → AreFound pool ns ls numbers k (itself_item pool (number_at numbers link.left)) (equation_item pool (number_at numbers link.left) (number_at numbers link.right)) [] ds

-- the ends of an edge are terms
pub record HasTermEnds (pool ns : List Node) (ls : List Link) (numbers : List ℕ) (k : ℕ) : Type 0 where
  pub link : Link
  pub is_link : slice_get ls k ≡ Some link
  pub left : IsTermNode pool ns numbers link.left
  pub right : IsTermNode pool ns numbers link.right

-- the needed edges join terms
pub record AreNeeded (pool ns : List Node) (ls : List Link) (numbers : List ℕ) (needed : List Bool) : Type 0 where
  pub long : length needed ≡ length ls
  pub ends : (k : ℕ) → is_needed needed k ≡ true → HasTermEnds pool ns ls numbers k

-- the plan of an edge, if it is needed, and the edges that become needed
pub record IsNextPlan (pool ns : List Node) (ls : List Link) (numbers : List ℕ) (number : ℕ) (old new : List Bool) (p : Plan) : Type 0 where
  pub stays : (k : ℕ) → is_needed old k ≡ true → is_needed new k ≡ true
  pub only : (k : ℕ) → is_needed new k ≡ true → (is_needed old k ≡ true) ⊎ (k < number)
  pub plan : is_needed old number ≡ true → IsPlan pool ns ls numbers number p.found.items
  pub taken : (c : ℕ) → is_needed old number ≡ true → IsOnAny p.found.items c → (c < number) × (is_needed new c ≡ true)

-- the plan at this index of a list with the last edge's first, if the edge is needed
pub record IsPlanOf (pool ns : List Node) (ls : List Link) (numbers : List ℕ) (needed : List Bool) (k : ℕ) (p : Plan) : Type 0 where
  pub plan : is_needed needed k ≡ true → IsPlan pool ns ls numbers k p.found.items
  pub taken : (c : ℕ) → is_needed needed k ≡ true → IsOnAny p.found.items c → (c < k) × (is_needed needed c ≡ true)

-- the edges from one on have their plans, and the edges of these are needed
pub record ArePlans (pool ns : List Node) (ls : List Link) (numbers : List ℕ) (needed : List Bool) (plans : List Plan) (from : ℕ) : Type 0 where
  pub needed_ends : AreNeeded pool ns ls numbers needed
  pub one_each : length plans + from ≡ length ls
  pub each : (k m : ℕ) (p : Plan) → m + suc k ≡ length ls → slice_get plans m ≡ Some p → IsPlanOf pool ns ls numbers needed k p
