-- The order of spans: that of the files, which are in the order of the words that name them, and in one file that of
-- the text.
use Rattle.std.specs.Prelude.{◌≡◌, ◌<◌, ◌⊎◌, Option, Some, None}
use Rattle.base.specs.declared.span.Span.{Span}

-- the span p is in an earlier file than q, or begins earlier in the same file
abbrev pub IsBefore : Span → Span → Type 0
IsBefore p q = (p.file < q.file) ⊎ ((p.file ≡ q.file) × (p.start < q.start))

-- this span has the property, and no span with the property is before it
pub record IsFirst (IsSo : Span → Type 0) (span : Span) : Type 0 where
  pub one : IsSo span
  pub first : (other : Span) → IsSo other → ¬ IsBefore other span

-- the first span with the property, or none where no span has it
abbrev pub IsFirstOrNone : (Span → Type 0) → Option Span → Type 0
IsFirstOrNone IsSo None = (span : Span) → ¬ IsSo span
IsFirstOrNone IsSo (Some span) = IsFirst IsSo span

-- of two optional spans, the earlier one
abbrev pub IsEarlier : Option Span → Option Span → Option Span → Type 0
IsEarlier None right found = found ≡ right
IsEarlier (Some p) None found = found ≡ Some p
IsEarlier (Some p) (Some q) found = (IsBefore q p × (found ≡ Some q)) ⊎ ((¬ IsBefore q p) × (found ≡ Some p))
