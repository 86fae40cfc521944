-- A fault of a part is one of the whole.
use Rattle.std.proofs.Common.{ℕ, sym, subst}
use Rattle.std.specs.Prelude.{◌≡◌, Result, Ok, Err, IfOk, IsErrAnd, MatchResult}
use Rattle.front_end.specs.declared.fault.FileFault.{FileFault}
use Rattle.front_end.specs.declared.fault.ProgramFault.{ProgramFault}
use Rattle.front_end.specs.declared.fault.ProgramFault.TheVariants.{InFile, NoMemory}
use Rattle.front_end.specs.FileFault.{IfInFile}

pub weaker : (fault : ProgramFault) (P Q : ℕ → FileFault → Type 0) → ((file : ℕ) (f : FileFault) → P file f → Q file f) → IfInFile fault P → IfInFile fault Q
weaker (InFile file f) P Q w h = w file f h
weaker NoMemory P Q w h = tt

pub hands_on : {X : Type 0} (r : Result X ProgramFault) (fault : ProgramFault) (P : X → Type 0) (Q R : ℕ → FileFault → Type 0) → IsErrAnd r (λ f. f ≡ fault) → ((file : ℕ) (f : FileFault) → Q file f → R file f) → IfInFile fault Q → MatchResult r P (λ f. IfInFile f R)
hands_on (Ok x) fault P Q R e g h = absurd e
hands_on (Err f) fault P Q R e g h = subst (λ other. IfInFile other R) (sym e) (weaker fault Q R g h)

-- the result of the last part, or the reason why it stopped, is that of the whole
pub hands_all : {X : Type 0} (r : Result X ProgramFault) (P R : X → Type 0) (Q S : ℕ → FileFault → Type 0) → ((x : X) → P x → R x) → ((file : ℕ) (f : FileFault) → Q file f → S file f) → MatchResult r P (λ f. IfInFile f Q) → MatchResult r R (λ f. IfInFile f S)
hands_all (Ok x) P R Q S f g h = f x h
hands_all (Err fault) P R Q S f g h = weaker fault Q S g h

-- a fault gives no result
pub gives_none : {X F : Type 0} (r : Result X F) (fault : F) (P : X → Type 0) → IsErrAnd r (λ f. f ≡ fault) → IfOk r P
gives_none (Ok x) fault P e = absurd e
gives_none (Err f) fault P e = tt
