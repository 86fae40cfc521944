-- The faults of tokens that denote no file.
use Rattle.std.specs.Prelude.{List}
use Rattle.tokens.specs.declared.token.Token.{Token}
use Rattle.syntax_tree.specs.DenotedFiles.{AreOfNoFile}
use Rattle.parser_base.specs.declared.explain.ParseFault.{ParseFault}
use Rattle.parser_base.specs.declared.explain.ParseFault.TheVariants.{Grammar, LeftOut, NoMemory}
use Rattle.parser_base.specs.Markers.{HoldNone, IsFirstMarker}

-- `Grammar` if the tokens denote no file and hold no marker, `LeftOut` if they denote none and hold a marker, with the
-- first one; the position in `Grammar` is where the reader stopped
abbrev pub IsCause : List Token → ParseFault → Type 0
IsCause tokens (Grammar span) = AreOfNoFile tokens × HoldNone tokens
IsCause tokens (LeftOut index) = AreOfNoFile tokens × IsFirstMarker tokens index
IsCause tokens NoMemory = Unit {0}
