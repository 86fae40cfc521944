use Rattle.std.proofs.Common.{subst}
use Rattle.std.specs.Prelude.{MatchOption}
use Rattle.substitution.specs.Numerals.{HasNoWide, IsWideAmong}
use Rattle.substitution.proofs.NumeralLemmas.{either, wide_left}
use Rattle.substitution.proofs.wide_numerals.first.Goals as goal

pub returns-in-Some : goal.returns-in-Some
returns-in-Some c = λ us vs left right. wide_left us vs c.in-Some.number (subst (λ o. MatchOption o (HasNoWide us) (IsWideAmong us)) c.in-Some.is left)

pub returns-in-None : goal.returns-in-None
returns-in-None c = λ us vs left right. either us vs c.args.right (subst (λ o. MatchOption o (HasNoWide us) (IsWideAmong us)) c.in-None.is left) right
