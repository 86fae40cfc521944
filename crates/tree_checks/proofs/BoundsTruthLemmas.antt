-- Truth values of checks.
use Rattle.std.proofs.Common.{◌≡◌, ◌↔◌, Bool, true, false, not, IsTrue, Option, Some, None, refl}
use Rattle.std.specs.Prelude.{MatchOption}
use Rattle.std.specs.Option.{is_some}

-- false is right for what never holds
pub never : {P : Type 0} → (P → ⊥) → IsTrue false ↔ P
never f = (λ t. absurd (cc), λ p. absurd (f p))

-- a check that is false and exact refutes its claim
pub refuted : {P : Type 0} (r : Bool) → r ≡ false → IsTrue r ↔ P → P → ⊥
refuted r e h p = (let yes = h.1 p in absurd (cc))

-- nothing is found exactly if it holds
pub none_found : {X : Type 0} (P : Type 0) (R : X → Type 0) → ((x : X) → R x → P → ⊥) → (o : Option X) (r : Bool) → MatchOption o P R → is_some o ≡ not r → IsTrue r ↔ P
none_found P R fails None true m e = (λ t. m, λ p. refl)
none_found P R fails None false m e = absurd (cc)
none_found P R fails (Some x) true m e = absurd (cc)
none_found P R fails (Some x) false m e = never (fails x m)
