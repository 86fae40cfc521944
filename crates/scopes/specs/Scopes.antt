-- The meaning of a name in a scope. Source: The Move Book, "Local Variables and Scope", on shadowing; the Move
-- Specification Language reference, "Expressions", on the variables of quantifiers.
use Rattle.std.specs.Prelude.{ℕ, List, [], ◌∷◌, Option, Some, None, if◌then◌else◌}
use Rattle.base.specs.Names.{same_name}
use Rattle.scopes.specs.declared.scope.InScope.{InScope}

-- the first value, or the second if there is no first one
abbrev pub or_else : Option ℕ → Option ℕ → Option ℕ
or_else (Some n) other = Some n
or_else None other = other

-- the number of the last entry with this name; the entries go from the outermost to the innermost
abbrev pub innermost : List InScope → List ℕ → Option ℕ
innermost [] name = None
innermost (one ∷ inside) name = or_else (innermost inside name) (if same_name one.name name then Some one.number else None)
