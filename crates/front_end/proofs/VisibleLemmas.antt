-- The first span where visibility forbids a use by name or a use by type.
use Rattle.std.proofs.Common.{Option, Some, None, inl, inr}
use Rattle.std.specs.Prelude.{All, MatchOption}
use Rattle.std.proofs.lemmas.List.Elements.{All-contains}
use Rattle.base.specs.declared.span.Span.{Span}
use Rattle.program.specs.declared.program.Program.{Program}
use Rattle.program.specs.Order.{IsEarlier, IsFirst, IsFirstOrNone}
use Rattle.program.proofs.Firsts.{first_of_both}
use Rattle.scopes.specs.Visible.{IsBarred, IsVisible, codes_of}
use Rattle.typing_rules.specs.Faults.{BreaksVisibility}
use Rattle.front_end.specs.Bounds.{IsAllVisible, UsesBarred}

-- if all is visible, no span is barred
first_named : (program : Program) (named : Option Span) → MatchOption named (All (IsVisible program) (codes_of program)) (IsFirst (IsBarred program)) → IsFirstOrNone (IsBarred program) named
first_named program None all = λ span h. h.3 (All-contains (IsVisible program) (codes_of program) h.0 all h.1)
first_named program (Some span) first = first

-- nothing is barred, or the earlier of the two first spans is the first of all
pub visible_or_first : (program : Program) (named typed found : Option Span)
    → MatchOption named (All (IsVisible program) (codes_of program)) (IsFirst (IsBarred program)) → IsFirstOrNone (BreaksVisibility program) typed → IsEarlier named typed found
    → MatchOption found (IsAllVisible program) (IsFirst (UsesBarred program))
visible_or_first program named typed (Some span) n t e =
    first_of_both (IsBarred program) (BreaksVisibility program) named typed (Some span) (first_named program named n) t e
visible_or_first program None None None n t e = record { named = n; typed = t }
visible_or_first program None (Some q) None n t e = absurd (cc)
visible_or_first program (Some p) None None n t e = absurd (cc)
visible_or_first program (Some p) (Some q) None n t (inl e) = (let same = e.1 in absurd (cc))
visible_or_first program (Some p) (Some q) None n t (inr e) = (let same = e.1 in absurd (cc))
