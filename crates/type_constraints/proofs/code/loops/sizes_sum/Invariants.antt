use Rattle.std.proofs.Common.{◌≡◌, ◌+◌, List, drop, map, length}
use Rattle.program.specs.Listed.{inner_all}
use Rattle.program.specs.Trees.{at, trees_of}
use Rattle.typing_rules.specs.Jumps.{CodeTree}
use Rattle.type_constraints.specs.CodeKnown.{TellsSizes}
use Rattle.type_constraints.proofs.code.loops.sizes_sum.Given as goal

abbrev pub invariant-loop-part : goal.invariant-loop-part
invariant-loop-part l =
    (ts : List CodeTree) → TellsSizes l.known ts → l.total + length (inner_all (trees_of (map (at ts) (drop l.part-index l.parts)))) ≡ length (inner_all (trees_of (map (at ts) l.parts)))
