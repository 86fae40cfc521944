-- The innermost name is found by a search from the end.
use Rattle.std.proofs.Common.{◌≡◌, ℕ, zero, suc, ◌<◌, List, [], ◌∷◌, length, get_or, drop, true, Some, None, arith, ap, ◌∙◌}
use Rattle.base.specs.Names.{same_name}
use Rattle.scopes.specs.declared.scope.InScope.{InScope}
use Rattle.scopes.specs.Scopes.{innermost, or_else}
use Rattle.std.specs.Prelude.{Bool, if◌then◌else◌}

-- an equal name with no equal name after it is the innermost
pub innermost-found : (names : List InScope) (name : List ℕ) (k : ℕ) (d e : InScope) → k < length names → same_name (get_or names k d).name name ≡ true → innermost (drop (suc k) names) name ≡ None → innermost names name ≡ Some (get_or names k e).number
innermost-found [] name k d e h same none = absurd (omega arith)
innermost-found (one ∷ more) name zero d e h same none = ap (λ o. or_else o (if same_name one.name name then Some one.number else None)) none ∙ ap (λ (b : Bool). if b then Some one.number else None) same
innermost-found (one ∷ more) name (suc k) d e h same none = ap (λ o. or_else o (if same_name one.name name then Some one.number else None)) (innermost-found more name k d e (omega arith) same none)
