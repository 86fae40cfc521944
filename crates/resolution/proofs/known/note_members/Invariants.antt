use Rattle.std.proofs.Common.{◌≡◌, take}
use Rattle.std.specs.List.{flat_map}
use Rattle.scopes.specs.Brings.{firsts}
use Rattle.resolution.specs.Setting.{same_schema}
use Rattle.resolution.specs.Known.{schema_of_member}
use Rattle.resolution.proofs.known.note_members.Given as goal

abbrev pub invariant-loop-member : goal.invariant-loop-member
invariant-loop-member l = l.schemas ≡ firsts same_schema l.initial.schemas (flat_map (schema_of_member l.own) (take l.member-index l.members))
