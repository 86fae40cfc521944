-- The loops of a body.
use Rattle.std.specs.Prelude.{◌≡◌, List, length}
use Rattle.program.specs.Trees.{trees}
use Rattle.program.specs.CodeNodes.{CodeNode}
use Rattle.type_constraints.specs.CodeKnown.{TellsBreaks, TellsLoops}
use Rattle.type_constraints.specs.declared.code.body.LoopTables.{LoopTables}

pub record AreTablesOf (nodes : List CodeNode) (tables : LoopTables) : Type 0 where
  pub breaks_length : length tables.breaks.items ≡ length nodes
  pub loops_length : length tables.loops.items ≡ length nodes
  pub breaks : TellsBreaks tables.breaks.items (trees nodes)
  pub loops : TellsLoops tables.loops.items nodes nodes
