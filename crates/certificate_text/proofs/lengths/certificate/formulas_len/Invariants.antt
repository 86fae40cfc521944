use Rattle.std.proofs.Common.{◌≡◌, map, take}
use Rattle.certificates.specs.Lengths.{capped, list_length}
use Rattle.tableau.specs.Numbers.{formula_at}
use Rattle.certificate_text.proofs.lengths.certificate.formulas_len.Given as goal

abbrev pub invariant-loop-number : goal.invariant-loop-number
invariant-loop-number l = l.total ≡ capped (list_length (map (formula_at l.pool) (take l.number-index l.extension.formulas.items)))
