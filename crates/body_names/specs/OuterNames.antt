-- The meaning of a name around a spec expression. Source: the Move Specification Language reference, "Expressions" and
-- "Let Bindings".
use Rattle.std.specs.Prelude.{ℕ, List, [], ◌∷◌, Option, Some, None, if◌then◌else◌}
use Rattle.base.specs.Names.{same_name}
use Rattle.program.specs.declared.spec.SpecName.{SpecName}
use Rattle.body_names.specs.declared.spec.outer.OuterName.{OuterName}

-- the first meaning, or the second if there is no first one
abbrev pub or_name : Option SpecName → Option SpecName → Option SpecName
or_name (Some n) other = Some n
or_name None other = other

-- the meaning of the last entry with this name; the entries go from the outermost to the innermost
abbrev pub outer_meaning : List OuterName → List ℕ → Option SpecName
outer_meaning [] name = None
outer_meaning (one ∷ inside) name = or_name (outer_meaning inside name) (if same_name one.name name then Some one.meaning else None)

-- names with their meanings
abbrev pub with_meanings : List (List ℕ) → List SpecName → List OuterName
with_meanings [] meanings = []
with_meanings (name ∷ names) [] = []
with_meanings (name ∷ names) (meaning ∷ meanings) = record { name = name; meaning = meaning } ∷ with_meanings names meanings
