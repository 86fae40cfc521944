-- The tokens of files, and at which file reading stops. Source: The Move Book, "Modules and Scripts"; the limits are
-- this project's.
use Rattle.std.specs.Prelude.{◌≡◌, ℕ, ◌<◌, ◌≤◌, List, length}
use Rattle.base.specs.declared.rule.Rule.TheVariants.{BadToken}
use Rattle.tokens.specs.Spelling.{IsBadAt, IsUnspelled, Spells}
use Rattle.tokens.specs.Weight.{greatest_weight}
use Rattle.tokens.specs.declared.token.Token.{Token}
use Rattle.front_end.specs.Chain.{FileStage, checks, makes, ◌▷◌}
use Rattle.front_end.specs.FileFault.{breaks}
use Rattle.front_end.specs.declared.fault.FileFault.{FileFault}
use Rattle.front_end.specs.declared.fault.FileFault.TheVariants.{Passes}
use Rattle.front_end.specs.declared.fault.FileLimit.TheVariants.{Tokens, Nesting}

-- ---- tokens

-- the tokens spell the file
abbrev pub AreTokensOf : ℕ → List ℕ → List Token → Type 0
AreTokensOf n bytes tokens = Spells n tokens bytes

-- No tokens spell the file: a bad token begins at this offset.
pub record HasBadToken (n : ℕ) (bytes : List ℕ) (fault : FileFault) : Type 0 where
  pub offset : ℕ
  pub fault_is : fault ≡ breaks BadToken offset
  pub at : IsBadAt offset bytes
  pub unspelled : IsUnspelled n bytes

abbrev pub tokens_stage : FileStage (List (List ℕ)) (List (List Token))
tokens_stage = makes AreTokensOf HasBadToken

-- ---- their number

abbrev pub IsShort : ℕ → List Token → Type 0
IsShort n tokens = length tokens ≤ 200000

-- They are more than a file may have: this many.
pub record IsLong (n : ℕ) (tokens : List Token) (fault : FileFault) : Type 0 where
  pub fault_is : fault ≡ Passes Tokens (length tokens)
  pub many : 200000 < length tokens

abbrev pub length_stage : FileStage (List (List Token)) (List (List Token))
length_stage = checks IsShort IsLong

-- ---- their nesting

abbrev pub IsLight : ℕ → List Token → Type 0
IsLight n tokens = greatest_weight tokens ≤ 200

-- They nest too deep, which is found at a weight of 201.
pub record IsHeavy (n : ℕ) (tokens : List Token) (fault : FileFault) : Type 0 where
  pub fault_is : fault ≡ Passes Nesting 201
  pub heavy : 200 < greatest_weight tokens

abbrev pub nesting_stage : FileStage (List (List Token)) (List (List Token))
nesting_stage = checks IsLight IsHeavy

-- ---- all three

abbrev pub text_stages : FileStage (List (List ℕ)) (List (List Token))
text_stages = tokens_stage ▷ length_stage ▷ nesting_stage
