-- Blocks in the program as blocks of the typing rules.
use Rattle.typing_rules.specs.Clauses as C
use Rattle.type_constraints.specs.declared.clauses.block.Block.{Block}
use Rattle.type_constraints.specs.declared.clauses.block.Block.TheVariants.{Function, Struct, Module, Loop}

abbrev pub block_of : Block → C.Block
block_of Function = C.FunctionBlock
block_of Struct = C.StructBlock
block_of Module = C.ModuleBlock
block_of Loop = C.LoopBlock
