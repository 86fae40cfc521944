use Rattle.std.proofs.Common.{◌≡◌, List, drop, map, ◌||◌}
use Rattle.program.specs.Trees.{at, trees_of}
use Rattle.typing_rules.specs.Jumps.{CodeTree, have_break}
use Rattle.type_constraints.specs.CodeKnown.{TellsBreaks}
use Rattle.type_constraints.proofs.code.breaks.any_break.Given as goal

abbrev pub invariant-loop-part : goal.invariant-loop-part
invariant-loop-part l =
    (ts : List CodeTree) → TellsBreaks l.known ts → (l.found || have_break (trees_of (map (at ts) (drop l.part-index l.parts)))) ≡ have_break (trees_of (map (at ts) l.parts))
