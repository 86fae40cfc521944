-- What is known of an option that was matched.
use Rattle.std.proofs.Common.{◌≡◌, Option, Some, None, subst}
use Rattle.std.specs.Prelude.{MatchOption}

pub at_none : {X : Type 0} (o : Option X) (P : Type 0) (Q : X → Type 0) → o ≡ None → MatchOption o P Q → P
at_none {X} o P Q e h = let r : P = subst (λ (x : Option X). MatchOption x P Q) e h in r

pub at_some : {X : Type 0} (o : Option X) (P : Type 0) (Q : X → Type 0) (x : X) → o ≡ Some x → MatchOption o P Q → Q x
at_some {X} o P Q x e h = let r : Q x = subst (λ (y : Option X). MatchOption y P Q) e h in r
