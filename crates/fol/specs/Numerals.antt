-- The term of a natural number.
use Rattle.std.specs.Prelude.{◌≡◌, ℕ, ◌-◌, ◌^◌, ◌<◌, pos, nat_lt, ◌==◌, if◌then◌else◌}
use Rattle.fol.specs.FormulaData.{TermData, NumTerm, MaxTerm, WideTerm}

-- `Num` for a signed number of 128 bits, `Max` for the greatest unsigned one, and `Wide` for those between
abbrev pub numeral : ℕ → TermData
numeral n = if nat_lt n (2 ^ 127) then NumTerm (pos n) else (if n == 2 ^ 128 - 1 then MaxTerm else WideTerm n)
