-- Agreement of all typings on a type variable.
use Rattle.std.specs.Prelude.{◌≡◌, ℕ}
use Rattle.unification.specs.Slots.{Typing}
pub use Rattle.typing_rules.specs.Rules.{Agree}

-- all of these typings give the type variable one type
abbrev pub IsForced : (Typing → Type 0) → ℕ → Type 0
IsForced Typings p = (t u : Typing) → Typings t → Typings u → t p ≡ u p
