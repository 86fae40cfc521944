-- The events of the locals of a function on one path through it, in order. Source: The Move Book, "Local Variables and
-- Scope", "Move and Copy"; "Abilities", on drop.
use Rattle.std.specs.Prelude.{ℕ, Bool, false, not, ◌&&◌, ◌||◌, eqb, List, [], ◌∷◌}

pub data Event : Type 0 where
  -- its `let` declares it
  Declared : ℕ → Event
  -- it gets a value
  Assigned : ℕ → Event
  -- it is copied or borrowed, or a part of it is read or written
  Used : ℕ → Event
  -- its value is moved out
  Moved : ℕ → Event
  -- its value is about to be overwritten
  Overwritten : ℕ → Event
  -- its block, or the function, ends
  Ended : ℕ → Event

-- A local has a value if it has been given one and has not been declared, moved out of or ended since. Whether it has
-- one after an event, where `had` is whether it had one before.
abbrev pub has_after : ℕ → Bool → Event → Bool
has_after l had (Declared m) = had && not (eqb m l)
has_after l had (Assigned m) = had || eqb m l
has_after l had (Used m) = had
has_after l had (Moved m) = had && not (eqb m l)
has_after l had (Overwritten m) = had
has_after l had (Ended m) = had && not (eqb m l)

-- whether it has a value after these events
abbrev pub has_behind : ℕ → Bool → List Event → Bool
has_behind l had [] = had
has_behind l had (e ∷ es) = has_behind l (has_after l had e) es

-- The two rules. A local is not used without a value. A value without drop is not left behind: neither where it is
-- overwritten nor at the end of its scope, which a return reaches too.
pub data Rule : Type 0 where
  Unassigned : Rule
  Undropped : Rule

-- whether an event breaks a rule on a local, where `had` is whether the local had a value before it
abbrev pub breaks : Rule → ℕ → Bool → Event → Bool
breaks Unassigned l had (Used m) = not had && eqb m l
breaks Unassigned l had (Moved m) = not had && eqb m l
breaks Unassigned l had _ = false
breaks Undropped l had (Overwritten m) = had && eqb m l
breaks Undropped l had (Ended m) = had && eqb m l
breaks Undropped l had _ = false

-- whether one of these events breaks the rule
abbrev pub is_broken : Rule → ℕ → Bool → List Event → Bool
is_broken r l had [] = false
is_broken r l had (e ∷ es) = breaks r l had e || is_broken r l (has_after l had e) es
