-- Lines as one text.
use Rattle.std.specs.Prelude.{ℕ, List}
use Rattle.std.specs.List.{flat_map}

-- the lines, one after another
abbrev pub joined : List (List ℕ) → List ℕ
joined lines = flat_map (λ line. line) lines
