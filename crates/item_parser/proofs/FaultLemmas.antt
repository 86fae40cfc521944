-- A fault of a spec block is a fault of what contains the block.
use Rattle.std.proofs.Common.{sym, subst}
use Rattle.std.specs.Prelude.{◌≡◌, Result, Ok, Err, IsErrAnd, MatchResult}
use Rattle.item_parser.specs.declared.source.fault.SpecFault.{SpecFault}
use Rattle.item_parser.specs.declared.source.fault.SpecFault.TheVariants.{NoTree, NoMemory}
use Rattle.item_parser.specs.SpecFault.{IfNoSpec}

pub weaker : (fault : SpecFault) (P Q : Type 0) → (P → Q) → IfNoSpec fault P → IfNoSpec fault Q
weaker NoTree P Q f h = f h
weaker NoMemory P Q f h = tt

pub hands_on : {X : Type 0} (r : Result X SpecFault) (fault : SpecFault) (P : X → Type 0) (Q R : Type 0) → IsErrAnd r (λ f. f ≡ fault) → (Q → R) → IfNoSpec fault Q → MatchResult r P (λ f. IfNoSpec f R)
hands_on (Ok x) fault P Q R e g h = absurd e
hands_on (Err f) fault P Q R e g h = subst (λ other. IfNoSpec other R) (sym e) (weaker fault Q R g h)
