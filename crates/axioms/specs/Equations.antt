-- The axioms that state that two terms, l and r, are equal.
use Rattle.std.specs.Prelude.{◌≡◌}
use Rattle.fol.specs.FormulaData.{TermData, NothingTerm, BlankTerm, EmptyTerm, LenTerm, AddTerm, SubTerm, MulTerm, DivTerm, ModTerm, SelectTerm, AtTerm, PushTerm, StoreTerm, SetTerm}
use Rattle.axioms.specs.declared.axiom.Equation.{Equation}
use Rattle.axioms.specs.declared.axiom.Equation.TheVariants.{Itself, SelectStored, SelectBlank, LenEmpty, LenPush, AtPushed, LenSet, Remainder, DivByZero, MulTurned, MulByOne, MulByZero}
use Rattle.axioms.specs.Forms.{number}

abbrev pub IsEquation : Equation → TermData → TermData → Type 0
IsEquation Itself l r = l ≡ r
IsEquation SelectStored l r =
    (m : TermData) × (a : TermData) × (v : TermData) × (l ≡ SelectTerm (StoreTerm m a v) a) × (r ≡ v)
IsEquation SelectBlank l r = (a : TermData) × (l ≡ SelectTerm BlankTerm a) × (r ≡ NothingTerm)
IsEquation LenEmpty l r = (l ≡ LenTerm EmptyTerm) × (r ≡ number 0)
IsEquation LenPush l r =
    (v : TermData) × (x : TermData) × (l ≡ LenTerm (PushTerm v x)) × (r ≡ AddTerm (LenTerm v) (number 1))
IsEquation AtPushed l r =
    (v : TermData) × (x : TermData) × (l ≡ AtTerm (PushTerm v x) (LenTerm v)) × (r ≡ x)
IsEquation LenSet l r =
    (v : TermData) × (i : TermData) × (x : TermData) × (l ≡ LenTerm (SetTerm v i x)) × (r ≡ LenTerm v)
IsEquation Remainder l r =
    (t : TermData) × (u : TermData) × (l ≡ ModTerm t u) × (r ≡ SubTerm t (MulTerm u (DivTerm t u)))
IsEquation DivByZero l r = (t : TermData) × (l ≡ DivTerm t (number 0)) × (r ≡ number 0)
IsEquation MulTurned l r = (t : TermData) × (u : TermData) × (l ≡ MulTerm t u) × (r ≡ MulTerm u t)
IsEquation MulByOne l r = (t : TermData) × (l ≡ MulTerm t (number 1)) × (r ≡ AddTerm t (number 0))
IsEquation MulByZero l r = (t : TermData) × (l ≡ MulTerm t (number 0)) × (r ≡ number 0)
