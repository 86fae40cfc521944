-- Which nodes are storage operations, each with one type argument.
use Rattle.program.specs.declared.arena.Node.TheVariants.{Many}
use Rattle.program.specs.declared.code.Callee.{Callee}
use Rattle.program.specs.declared.code.Callee.TheVariants.{Storage}
use Rattle.program.specs.declared.code.CodeMany.{CodeMany}
use Rattle.program.specs.declared.code.CodeMany.TheVariants.{Call}
use Rattle.program.specs.CodeNodes.{CodeNode}

abbrev pub IsStorageCall : Callee → Type 0
IsStorageCall (Storage operation) = Unit {0}
IsStorageCall _ = ⊥

abbrev pub IsStorage : CodeMany → Type 0
IsStorage (Call c) = IsStorageCall c.callee
IsStorage _ = ⊥

abbrev pub IsStorageNode : CodeNode → Type 0
IsStorageNode (Many form parts) = IsStorage form
IsStorageNode _ = ⊥
