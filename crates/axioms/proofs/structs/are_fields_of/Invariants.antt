use Rattle.std.proofs.Common.{◌≡◌, ℕ, ◌<◌, get_or}
use Rattle.fol.specs.FormulaData.{TermData, FieldTerm}
use Rattle.axioms.proofs.structs.are_fields_of.Given as goal

-- the terms so far are fields
abbrev pub invariant-loop-i : goal.invariant-loop-i
invariant-loop-i l = (k : ℕ) (d : TermData) → k < l.i → get_or l.terms k d ≡ FieldTerm l.of k l.inner
