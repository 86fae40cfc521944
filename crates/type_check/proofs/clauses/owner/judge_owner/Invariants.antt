use Rattle.type_constraints.specs.SpecSettings.{lets_of, owner_names, owner_types}
use Rattle.type_constraints.specs.Blocks.{block_of}
use Rattle.type_check.specs.Judged.{FirstSay}
use Rattle.type_check.proofs.clauses.owner.judge_owner.Given as goal

abbrev pub invariant-loop-clause : goal.invariant-loop-clause
invariant-loop-clause l = FirstSay l.program (owner_names l.owner) (block_of l.block) (owner_types l.owner) l.clauses (lets_of l.lets.items) l.judged.items l.clause-index
