-- The faults of tokens that denote no spec block of a slot.
use Rattle.std.specs.Prelude.{List}
use Rattle.tokens.specs.declared.token.Token.{Token}
use Rattle.syntax_tree.specs.declared.slot.Slot.{Slot}
use Rattle.syntax_tree.specs.DenotedClauses.{AreOfNoSpecBlock}
use Rattle.parser_base.specs.declared.explain.ParseFault.{ParseFault}
use Rattle.parser_base.specs.declared.explain.ParseFault.TheVariants.{Grammar, LeftOut, NoMemory}
use Rattle.parser_base.specs.Markers.{HoldNone, IsFirstMarker}

-- `Grammar` if the tokens denote no spec block and hold no marker, `LeftOut` if they denote none and hold a marker,
-- with the first one; the position in `Grammar` is where the reader stopped
abbrev pub IsCause : Slot → List Token → ParseFault → Type 0
IsCause slot tokens (Grammar span) = AreOfNoSpecBlock slot tokens × HoldNone tokens
IsCause slot tokens (LeftOut index) = AreOfNoSpecBlock slot tokens × IsFirstMarker tokens index
IsCause slot tokens NoMemory = Unit {0}
