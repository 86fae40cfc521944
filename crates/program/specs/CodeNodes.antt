-- The nodes of bodies of Move code.
use Rattle.program.specs.declared.arena.Node.{Node}
use Rattle.program.specs.declared.code.CodeLeaf.{CodeLeaf}
use Rattle.program.specs.declared.code.CodeUnary.{CodeUnary}
use Rattle.program.specs.declared.code.CodeBinary.{CodeBinary}
use Rattle.program.specs.declared.code.CodeMany.{CodeMany}

abbrev pub CodeNode : Type 0
CodeNode = Node CodeLeaf CodeUnary CodeBinary CodeMany
