use Rattle.std.proofs.Common.{ℕ, ◌<◌, get_or}
use Rattle.base.specs.TypeData.{TypeData}
use Rattle.fol.specs.FormulaData.{TermData, FormulaData}
use Rattle.axioms.specs.Structs.{IsFieldTyped}
use Rattle.axioms.proofs.structs.are_fields_typed.Given as goal

-- the fields so far have their types
abbrev pub invariant-loop-i : goal.invariant-loop-i
invariant-loop-i l =
    (k : ℕ) (f : TypeData) (t : TermData) (p : FormulaData) → k < l.i → IsFieldTyped l.args (get_or l.fields k f) (get_or l.terms k t) (get_or l.parts k p)
