-- The concatenation of lists of trees.
use Rattle.program.specs.Trees.{Trees, NoTrees, MoreTrees}

abbrev pub joined : {L U B M : Type 0} → Trees L U B M → Trees L U B M → Trees L U B M
joined NoTrees us = us
joined (MoreTrees t ts) us = MoreTrees t (joined ts us)
