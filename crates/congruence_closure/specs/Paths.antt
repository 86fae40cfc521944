-- Paths of edges from one number to another.
use Rattle.std.specs.Prelude.{◌≡◌, ◌⊎◌, ℕ, ◌<◌, List, [], ◌∷◌, ◌++◌, take, slice_get, Some}
use Rattle.congruence_closure.specs.Links.{Linked}
use Rattle.congruence_closure.specs.declared.classes.link.Link.{Link}
use Rattle.congruence_closure.specs.Histories.{AreEnds}
use Rattle.congruence_closure.specs.declared.proof_forest.Join.{Join}
use Rattle.congruence_closure.specs.declared.forest_paths.Span.{Span}
use Rattle.congruence_closure.specs.declared.forest_paths.Task.{Task}
use Rattle.congruence_closure.specs.declared.forest_paths.Task.TheVariants.{Cross, Pass}

-- an edge with a number below this one, entered at its near end and left at its far one
pub record IsPassage (ls : List Link) (before : ℕ) (join : Join) : Type 0 where
  pub link : Link
  pub found : slice_get ls join.link ≡ Some link
  pub early : join.link < before
  pub ends : AreEnds link join.near join.far

-- such edges, each entered where the one before it is left
pub data IsPath (ls : List Link) (before : ℕ) : ℕ → List Join → ℕ → Type 0 where
  Stays : (i : ℕ) → IsPath ls before i [] i
  Passes : (join : Join) (rest : List Join) (i j : ℕ) → i ≡ join.near → IsPassage ls before join → IsPath ls before join.far rest j → IsPath ls before i (join ∷ rest) j

-- the span consists of earlier edges, one edge, and earlier edges
pub record IsSplit (ls : List Link) (span : Span) (join : Join) : Type 0 where
  pub passage : IsPassage ls span.before join
  pub near : Linked (take join.link ls) span.from join.near
  pub far : Linked (take join.link ls) join.far span.to

abbrev pub span_of : ℕ → ℕ → ℕ → Span
span_of i j k = record { from = i; to = j; before = k }

-- the remaining tasks to cross the span by this edge, the last one first
abbrev pub crossing : Span → Join → List Task
crossing span join =
    Cross (span_of join.far span.to join.link) ∷ Pass join ∷ Cross (span_of span.from join.near join.link) ∷ []

-- a span must be crossed by edges before its number
abbrev pub CanTake : List Link → Task → Type 0
CanTake ls (Cross span) = Linked (take span.before ls) span.from span.to
CanTake ls (Pass join) = Unit {0}

-- the span is split, and its parts are remaining tasks
pub record IsCrossedBy (ls : List Link) (span : Span) (before after : List Task) : Type 0 where
  pub join : Join
  pub split : IsSplit ls span join
  pub tasks : after ≡ before ++ crossing span join

-- a passed edge is added to the path; a span is empty or split
abbrev pub IsTurn : List Link → Task → List Join → List Task → List Join → List Task → Type 0
IsTurn ls (Pass join) path tasks path2 tasks2 = (path2 ≡ path ++ join ∷ []) × (tasks2 ≡ tasks)
IsTurn ls (Cross span) path tasks path2 tasks2 =
    (path2 ≡ path) × (((span.from ≡ span.to) × (tasks2 ≡ tasks)) ⊎ IsCrossedBy ls span tasks tasks2)
