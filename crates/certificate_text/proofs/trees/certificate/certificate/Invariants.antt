use Rattle.std.proofs.Common.{◌≡◌, take}
use Rattle.std.specs.List.{flat_map}
use Rattle.certificate_text.specs.Moves.{moves_of_application}
use Rattle.certificate_text.proofs.trees.certificate.certificate.Given as goal

abbrev pub invariant-loop-application : goal.invariant-loop-application
invariant-loop-application l = l.moves.items ≡ flat_map (moves_of_application l.pool) (take l.application-index l.text)
