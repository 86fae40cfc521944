use Rattle.std.proofs.Common.{◌≡◌, Some, take}
use Rattle.sum_read.specs.Each.{each}
use Rattle.sum_read.specs.Clauses.{clause_of}
use Rattle.sum_read.proofs.clause.read_clauses.Given as goal

abbrev pub invariant-loop-clause : goal.invariant-loop-clause
invariant-loop-clause l = each clause_of (take l.clause-index l.clauses) ≡ Some l.read.items
