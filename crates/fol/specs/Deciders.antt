-- Why the truth of 'for all values' can be the answer of a test: in classical logic there is exactly one such test.
use Rattle.std.specs.Prelude.{◌≡◌, ℕ, Bool, ◌⊎◌, IsTrue, IsFalse, List}
use Rattle.base.specs.TypeData.{TypeData}
use Rattle.fol.specs.declared.shapes.Shape.{Shape}
use Rattle.fol.specs.Val.{Val}
use Rattle.fol.specs.Truth.{Interpretation}
use Rattle.fol.specs.Validity.{AnswersRight, Reads, is_ground}

-- each test on values holds of all of them or fails of some: an instance of excluded middle
abbrev pub EachTestIsDecided : Type 0
EachTestIsDecided = (f : Val → Bool) → ((v : Val) → IsTrue (f v)) ⊎ ((v : Val) × IsFalse (f v))

-- then there is an interpretation of any shapes in which type parameters name any given ground types
abbrev pub SomeInterpretationReads : Type 0
SomeInterpretationReads =
    EachTestIsDecided → (shapes : List Shape) (named : ℕ → TypeData) → ((n : ℕ) → IsTrue (is_ground (named n))) → (m : Interpretation) × Reads shapes m × ((n : ℕ) → m.named n ≡ named n)

-- two interpretations of the same shapes in which type parameters name the same types are equal
abbrev pub OneInterpretationReads : Type 0
OneInterpretationReads =
    (shapes : List Shape) (m n : Interpretation) → Reads shapes m → Reads shapes n → ((k : ℕ) → m.named k ≡ n.named k) → m ≡ n

-- two tests that decide which properties all values have give the same answers
abbrev pub OneTestAnswersRight : Type 0
OneTestAnswersRight =
    (all other : (Val → Bool) → Bool) → AnswersRight all → AnswersRight other → (f : Val → Bool) → all f ≡ other f
