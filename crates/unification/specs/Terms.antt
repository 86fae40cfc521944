-- Lists of terms.
use Rattle.std.specs.Prelude.{ℕ, List, [], ◌∷◌}
use Rattle.unification.specs.Slots.{TermWithin}
use Rattle.unification.specs.declared.type_variables.slots.Term.{Term}

abbrev pub AllWithin : ℕ → List Term → Type 0
AllWithin n [] = Unit {0}
AllWithin n (x ∷ xs) = TermWithin n x × AllWithin n xs
