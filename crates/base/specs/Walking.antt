-- A depth-first traversal of a graph.
use Rattle.std.specs.Prelude.{◌≡◌, ◌≢◌, ℕ, ◌<◌, ◌≤◌, ◌+◌, ◌-◌, ◌⊎◌, List, [], ◌∷◌, length, slice_index, slice_index_or}
use Rattle.base.specs.declared.cycles.walk.Mark.{Mark}
use Rattle.base.specs.declared.cycles.walk.Mark.TheVariants.{Unseen, Open, Finished}
use Rattle.base.specs.declared.cycles.walk.Visit.{Visit}
use Rattle.base.specs.GraphReachability.{IsEdge, Reaches}

-- the mark of a number; what is no number of the graph is not seen
abbrev pub mark : List Mark → ℕ → Mark
mark marks i = slice_index_or marks i Unseen

abbrev pub IsSeen : List Mark → ℕ → Type 0
IsSeen marks i = mark marks i ≢ Unseen

abbrev pub KeepsSeen : List Mark → List Mark → Type 0
KeepsSeen before after = (i : ℕ) → IsSeen before i → IsSeen after i

-- a path is listed from its end
abbrev pub IsOn : ℕ → List Visit → Type 0
IsOn i [] = ⊥
IsOn i (visit ∷ path) = (i ≡ visit.node) ⊎ IsOn i path

-- each number on the path differs from `node` and reaches it
abbrev pub LeadTo : List (List ℕ) → ℕ → List Visit → Type 0
LeadTo graph node [] = Unit {0}
LeadTo graph node (visit ∷ path) = (visit.node ≢ node) × Reaches graph visit.node node × LeadTo graph node path

-- the followed edges of this visit lead to seen numbers
abbrev pub IsFollowed : List (List ℕ) → List Mark → Visit → Type 0
IsFollowed graph marks visit = (k : ℕ) → k < visit.next → k < length (slice_index_or graph visit.node []) → IsSeen marks (slice_index (slice_index_or graph visit.node []) k)

-- the numbers on the path are open, and each reaches the next
abbrev pub IsPath : List (List ℕ) → List Mark → List Visit → Type 0
IsPath graph marks [] = Unit {0}
IsPath graph marks (visit ∷ path) = (mark marks visit.node ≡ Open) × LeadTo graph visit.node path × IsFollowed graph marks visit × IsPath graph marks path

-- v is finished before the index c
abbrev pub IsBefore : List Mark → ℕ → ℕ → Type 0
IsBefore marks v c = (b : ℕ) × (mark marks v ≡ Finished b) × (b < c)

-- the invariant of the traversal: the edges of finished numbers lead to seen numbers; and where a finished x has an
-- edge to v, then v reaches each number that was finished with or after x and before v
pub record IsWalk (graph : List (List ℕ)) (marks : List Mark) (order : List ℕ) (path : List Visit) : Type 0 where
  pub long : length marks ≡ length graph
  pub on_path : IsPath graph marks path
  pub opened : (i : ℕ) → mark marks i ≡ Open → IsOn i path
  pub placed : (i k : ℕ) → mark marks i ≡ Finished k → (k < length order) × (slice_index order k ≡ i)
  pub ordered : (k : ℕ) → k < length order → mark marks (slice_index order k) ≡ Finished k
  pub followed : (i k j : ℕ) → mark marks i ≡ Finished k → IsEdge graph i j → IsSeen marks j
  pub reaching : (x v w a c : ℕ) → mark marks x ≡ Finished a → IsEdge graph x v → mark marks w ≡ Finished c → a ≤ c → IsBefore marks v c ⊎ Reaches graph v w

-- a measure of the remaining steps: those of the unseen numbers, and those of the path
abbrev pub steps_unseen : Mark → List ℕ → ℕ
steps_unseen Unseen targets = length targets + 2
steps_unseen Open targets = 0
steps_unseen (Finished position) targets = 0

abbrev pub left_unseen : List (List ℕ) → List Mark → ℕ
left_unseen [] marks = 0
left_unseen (targets ∷ graph) [] = 0
left_unseen (targets ∷ graph) (m ∷ marks) = steps_unseen m targets + left_unseen graph marks

abbrev pub left_path : List (List ℕ) → List Visit → ℕ
left_path graph [] = 0
left_path graph (visit ∷ path) = (length (slice_index_or graph visit.node []) - visit.next) + 1 + left_path graph path

abbrev pub left : List (List ℕ) → List Mark → List Visit → ℕ
left graph marks path = left_unseen graph marks + left_path graph path
