-- The edge that joins the classes of two numbers, when edges join classes one after another.
use Rattle.std.specs.Prelude.{◌≡◌, ◌≢◌, ◌⊎◌, ℕ, ◌+◌, ◌-◌, ◌<◌, ◌≤◌, List, length, take, slice_get, slice_index_or, slice_set, Option, Some, None}
use Rattle.congruence_closure.specs.Links.{Linked}
use Rattle.congruence_closure.specs.declared.classes.link.Link.{Link}
use Rattle.congruence_closure.specs.declared.proof_forest.Step.{Step}
use Rattle.congruence_closure.specs.declared.proof_forest.Join.{Join}

-- ---- the result

-- the ends of an edge, in either order
abbrev pub AreEnds : Link → ℕ → ℕ → Type 0
AreEnds l i j = ((l.left ≡ i) × (l.right ≡ j)) ⊎ ((l.left ≡ j) × (l.right ≡ i))

-- the edges before this one do not connect the two numbers; they connect the first to its near end, and its far end to
-- the second
pub record IsJoin (ls : List Link) (i j : ℕ) (join : Join) : Type 0 where
  pub link : Link
  pub found : slice_get ls join.link ≡ Some link
  pub ends : AreEnds link join.near join.far
  pub apart : Linked (take join.link ls) i j → ⊥
  pub near : Linked (take join.link ls) i join.near
  pub far : Linked (take join.link ls) join.far j

-- the ends of each edge are among the first numbers
pub record AreAmong (ls : List Link) (count : ℕ) : Type 0 where
  pub left : (k : ℕ) (l : Link) → slice_get ls k ≡ Some l → l.left < count
  pub right : (k : ℕ) (l : Link) → slice_get ls k ≡ Some l → l.right < count

-- ---- the forest of parent pointers

-- the parent pointer of a number
abbrev pub step_of : List (Option Step) → ℕ → Option Step
step_of steps i = slice_index_or steps i None

-- no edge before this one added a parent pointer of the number
pub record IsStill (steps : List (Option Step)) (k i : ℕ) : Type 0 where
  pub later : (s : Step) → step_of steps i ≡ Some s → k ≤ s.link

-- the root of a number in the forest of the edges before this one
pub data IsRoot (steps : List (Option Step)) (k : ℕ) : ℕ → ℕ → Type 0 where
  Stays : (i : ℕ) → IsStill steps k i → IsRoot steps k i i
  Climbs : (i r : ℕ) (s : Step) → step_of steps i ≡ Some s → s.link < k → IsRoot steps k s.parent r → IsRoot steps k i r

pub record HasRoot (steps : List (Option Step)) (k i : ℕ) : Type 0 where
  pub root : ℕ
  pub is_root : IsRoot steps k i root

-- along a path the parent pointers were added one after another, and they lead to numbers of the list
pub record AreRising (steps : List (Option Step)) : Type 0 where
  pub rising : (i : ℕ) (s t : Step) → step_of steps i ≡ Some s → step_of steps s.parent ≡ Some t → s.link < t.link
  pub within : (i : ℕ) (s : Step) → step_of steps i ≡ Some s → s.parent < length steps

-- the first edges added the parent pointers, and at each time two numbers have one root exactly when they are
-- connected
pub record IsHistory (ls : List Link) (count : ℕ) (steps : List (Option Step)) : Type 0 where
  pub rising : AreRising steps
  pub brought : (i : ℕ) (s : Step) → step_of steps i ≡ Some s → s.link < count
  pub rooted : (k i : ℕ) → HasRoot steps k i
  pub sound : (k i j r : ℕ) → k ≤ count → IsRoot steps k i r → IsRoot steps k j r → Linked (take k ls) i j
  pub whole : (k i j r q : ℕ) → k ≤ count → IsRoot steps k i r → IsRoot steps k j q → Linked (take k ls) i j → r ≡ q

-- ---- climbing

-- the parent of a number by a pointer that an edge before this one added
pub record IsParent (steps : List (Option Step)) (k i p : ℕ) : Type 0 where
  pub step : Step
  pub is_step : step_of steps i ≡ Some step
  pub early : step.link < k
  pub is : step.parent ≡ p

-- the roots of the one number are roots of the other
pub record IsOnWay (steps : List (Option Step)) (k start top : ℕ) : Type 0 where
  pub leads : (r : ℕ) → IsRoot steps k top r → IsRoot steps k start r

-- the number of edges before this one and after the one that added a parent pointer
abbrev pub rank : ℕ → Option Step → ℕ
rank k None = 0
rank k (Some s) = k - s.link

-- the edge that added the earlier one of two parent pointers
pub record IsEarlier (steps : List (Option Step)) (i j m : ℕ) : Type 0 where
  pub still : IsStill steps m i
  pub other_still : IsStill steps m j
  pub number : ℕ
  pub is_one : (number ≡ i) ⊎ (number ≡ j)
  pub step : Step
  pub found : step_of steps number ≡ Some step
  pub is : step.link ≡ m

-- the two have no parent pointers
pub record AreStill (steps : List (Option Step)) (i j : ℕ) : Type 0 where
  pub one : step_of steps i ≡ None
  pub other : step_of steps j ≡ None

-- one of the two numbers becomes the parent of the other
abbrev pub IsLed : List (Option Step) → ℕ → ℕ → ℕ → List (Option Step) → Type 0
IsLed steps left right link more =
    (more ≡ slice_set steps left (Some (record { parent = right; link = link }))) ⊎ (more ≡ slice_set steps right (Some (record { parent = left; link = link })))

-- two numbers have one root with this edge, and two roots before it
pub record JoinsAt (steps : List (Option Step)) (i j k : ℕ) : Type 0 where
  pub one : ℕ
  pub other : ℕ
  pub is_one : IsRoot steps k i one
  pub is_other : IsRoot steps k j other
  pub apart : one ≢ other
  pub root : ℕ
  pub is_root : IsRoot steps (k + 1) i root
  pub same : IsRoot steps (k + 1) j root

-- this many numbers, none with a parent pointer
pub record AreApart (count : ℕ) (steps : List (Option Step)) : Type 0 where
  pub long : length steps ≡ count
  pub none : (i : ℕ) → step_of steps i ≡ None

-- the edges do not connect the two numbers
pub record AreNotLinked (ls : List Link) (i j : ℕ) : Type 0 where
  pub none : Linked ls i j → ⊥
