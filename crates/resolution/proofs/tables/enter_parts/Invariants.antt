use Rattle.std.proofs.Common.{◌≡◌, length}
use Rattle.std.specs.Vec.Iter.{into_iter_items}
use Rattle.resolution.specs.Items.{Here}
use Rattle.resolution.specs.Owners.{blocks_of, settings_in}
use Rattle.resolution.specs.OwnersSoFar.{AreOwners, blocks_before}
use Rattle.resolution.specs.Parts.{ArePartsFrom}
use Rattle.resolution.proofs.FinishLaws.{PartsSoFar}
use Rattle.resolution.proofs.tables.enter_parts.Given as goal

abbrev pub invariant-loop-part : goal.invariant-loop-part
invariant-loop-part l =
    (w : Here) → ArePartsFrom w 0 w.members l.fn.parts.items → AreOwners w (blocks_before w w.members) l.fn.owners.items → l.of_module ≡ settings_in (blocks_of w.members (length w.members)) →
    PartsSoFar w l.initial.program l.program (into_iter_items l.part-iterator) (into_iter_items l.rest)
