-- A fault of a module's members is one of the module.
use Rattle.std.proofs.Common.{ℕ, sym, subst}
use Rattle.std.specs.Prelude.{◌≡◌, Result, Ok, Err, IsErrAnd, MatchResult}
use Rattle.sum_module.specs.declared.fault.ModuleFault.{ModuleFault}
use Rattle.sum_module.specs.declared.fault.ModuleFault.TheVariants.{NotBuilt, NoMemory}
use Rattle.sum_module.specs.Fault.{IfNotBuiltAt}

pub weaker : (fault : ModuleFault) (P Q : ℕ → Type 0) → ((offset : ℕ) → P offset → Q offset) → IfNotBuiltAt fault P → IfNotBuiltAt fault Q
weaker (NotBuilt offset) P Q w h = w offset h
weaker NoMemory P Q w h = tt

pub hands_on : {X : Type 0} (r : Result X ModuleFault) (fault : ModuleFault) (P : X → Type 0) (Q R : ℕ → Type 0) → IsErrAnd r (λ f. f ≡ fault) → ((offset : ℕ) → Q offset → R offset) → IfNotBuiltAt fault Q → MatchResult r P (λ f. IfNotBuiltAt f R)
hands_on (Ok x) fault P Q R e g h = absurd e
hands_on (Err f) fault P Q R e g h = subst (λ other. IfNotBuiltAt other R) (sym e) (weaker fault Q R g h)
