-- Lines of a text: each ends with its line feed, and they are counted from 1.
use Rattle.std.specs.Prelude.{ℕ, ◌+◌, ◌==◌, if◌then◌else◌, List, [], ◌∷◌, count_by, take}

-- the line of a byte offset: one more than the number of line feeds before it
abbrev pub line_of : List ℕ → ℕ → ℕ
line_of bytes position = count_by (λ b. b == 10) (take position bytes) + 1

-- the offsets of the line feeds, where the first byte has the offset `at`
abbrev pub feeds_from : ℕ → List ℕ → List ℕ
feeds_from at [] = []
feeds_from at (b ∷ bs) = if b == 10 then at ∷ feeds_from (at + 1) bs else feeds_from (at + 1) bs

abbrev pub line_feeds : List ℕ → List ℕ
line_feeds bytes = feeds_from 0 bytes
