use Rattle.axiom_strategy.proofs.reads.read_parts.Goals as goal

pub returns-in-OfMemory : goal.returns-in-OfMemory
returns-in-OfMemory c = rw c.in-OfMemory.is c.select_parts.ensures

pub returns-in-OfVector : goal.returns-in-OfVector
returns-in-OfVector c = rw c.in-OfVector.is c.at_parts.ensures
