use Rattle.std.proofs.Common.{take}
use Rattle.row_reasoning.proofs.PutLemmas.{IsWriting}
use Rattle.row_reasoning.proofs.rows.row_of.Given as goal

abbrev pub invariant-loop-position : goal.invariant-loop-position
invariant-loop-position l = IsWriting l.initial.classes.keys l.sum.is_negated (take l.position l.sum.coefficients.entries) l.classes.keys l.numbers.items
