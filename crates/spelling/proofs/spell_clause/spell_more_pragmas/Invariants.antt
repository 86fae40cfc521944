use Rattle.std.proofs.Common.{◌≡◌, ◌++◌, take}
use Rattle.std.specs.List.{flat_map}
use Rattle.spelling.specs.ClauseAfterCommas.{pragma_after_comma}
use Rattle.spelling.proofs.spell_clause.spell_more_pragmas.Given as goal

abbrev pub invariant-loop-one : goal.invariant-loop-one
invariant-loop-one l = l.into ≡ l.initial.into ++ flat_map pragma_after_comma (take l.one-index l.pragmas)
