-- The steps of reading the tokens of files.
use Rattle.std.specs.Prelude.{◌≡◌, ℕ, ◌<◌, List, length}
use Rattle.tokens.specs.Spelling.{Spells}
use Rattle.tokens.specs.declared.token.Token.{Token}
use Rattle.front_end.specs.Numbered.{IsFirst}
use Rattle.front_end.specs.Texts.{IsShort}
use Rattle.front_end.specs.declared.fault.FileFault.{FileFault}
use Rattle.front_end.specs.declared.fault.FileFault.TheVariants.{Passes}
use Rattle.front_end.specs.declared.fault.FileLimit.TheVariants.{Tokens}
use Rattle.front_end.specs.declared.texts.Text.{Text}
use Rattle.front_end.specs.declared.texts.Text.TheVariants.{Short, Long}

-- the tokens of the file, or their number where there are too many
abbrev pub IsText : ℕ → List ℕ → Text → Type 0
IsText n bytes (Short tokens) = Spells n tokens bytes × IsShort n tokens
IsText n bytes (Long count) = (tokens : List Token) × Spells n tokens bytes × (length tokens ≡ count) × (200000 < count)

abbrev pub IsShortText : ℕ → Text → Type 0
IsShortText n (Short tokens) = Unit {0}
IsShortText n (Long count) = ⊥

-- the file has too many tokens, as many as the fault gives
pub record IsLongText (n : ℕ) (text : Text) (fault : FileFault) : Type 0 where
  pub count : ℕ
  pub fault_is : fault ≡ Passes Tokens count
  pub long : text ≡ Long count

-- this is the first file with too many tokens
abbrev pub IsFirstLong : List Text → ℕ → FileFault → Type 0
IsFirstLong texts file fault = IsFirst IsShortText (λ n text. IsLongText n text fault) texts file
