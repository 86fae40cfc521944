-- The faults of tokens that denote no source.
use Rattle.std.specs.Prelude.{List}
use Rattle.tokens.specs.declared.token.Token.{Token}
use Rattle.parser_base.specs.declared.explain.ParseFault.{ParseFault}
use Rattle.parser_base.specs.declared.explain.ParseFault.TheVariants.{Grammar, LeftOut, NoMemory}
use Rattle.parser_base.specs.Markers.{HoldNone, IsFirstMarker}
use Rattle.syntax_tree.specs.DenotedSources.{AreOfNoSource}

-- `Grammar` if the tokens denote no source and hold no marker, `LeftOut` if they denote none and hold a marker, with
-- the first one; the position in `Grammar` is where the reader stopped
abbrev pub IsCause : List Token → ParseFault → Type 0
IsCause tokens (Grammar span) = AreOfNoSource tokens × HoldNone tokens
IsCause tokens (LeftOut index) = AreOfNoSource tokens × IsFirstMarker tokens index
IsCause tokens NoMemory = Unit {0}
