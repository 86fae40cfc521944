use Rattle.std.proofs.Common.{None, take}
use Rattle.tableau.specs.PoolBranches.{branch_in}
use Rattle.ematching.specs.Matches.{AreAdded}
use Rattle.ematching.proofs.TypeLemmas.{HasTyping}
use Rattle.ematching.proofs.types.typed_terms.Given as goal

abbrev pub invariant-loop-formula : goal.invariant-loop-formula
invariant-loop-formula l = AreAdded l.pool None (HasTyping l.pool (branch_in l.pool l.branch) l.type_number (take l.formula-index l.formula-items)) l.fn.found l.found
