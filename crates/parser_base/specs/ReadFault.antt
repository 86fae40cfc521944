-- The reason why a reader failed, and what a reader answers.
use Rattle.std.specs.Prelude.{◌≡◌, Option, Some, None, Result, MatchResult}
use Rattle.parser_base.specs.declared.fault.ReadFault.{ReadFault}
use Rattle.parser_base.specs.declared.fault.ReadFault.TheVariants.{NoTree, NoMemory}

-- the statement holds if the tokens are at fault, and not memory
abbrev pub IfNoTree : ReadFault → Type 0 → Type 0
IfNoTree (NoTree left) P = P
IfNoTree NoMemory P = Unit {0}

-- a reader's answer: the trees and the rest of the tokens that the reading gives, or a fault of the tokens where the
-- reading gives nothing
abbrev pub Reads : {R : Type 0} → {A : Type 0} → Result R ReadFault → (R → A) → Option A → Type 0
Reads result answer reading = MatchResult result (λ read. reading ≡ Some (answer read)) (λ fault. IfNoTree fault (reading ≡ None))
