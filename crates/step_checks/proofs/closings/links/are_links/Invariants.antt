use Rattle.std.proofs.Common.{◌≡◌, ◌+◌, ◌++◌, length, map}
use Rattle.certificates.specs.Branch.{entries_of, IsCounted}
use Rattle.certificates.specs.BranchesBranch.{formulas}
use Rattle.tableau.specs.PoolBranches.{branch_in}
use Rattle.tableau.specs.Numbers.{formula_at, AreFormulas}
use Rattle.explanations.specs.Chains.{step_in}
use Rattle.step_checks.specs.Inside.{AreInsideMarks}
use Rattle.step_checks.specs.Links.{LinksFrom}
use Rattle.step_checks.proofs.closings.links.are_links.Given as goal

-- `line` has the entries and what the steps so far add, and the rest of the steps decides the result
abbrev pub invariant-loop-i : goal.invariant-loop-i
invariant-loop-i l = record {
  inside : AreInsideMarks l.pool l.branch l.inside;
  counted : IsCounted l.line;
  longer : length (entries_of l.line) ≡ length (entries_of l.fn.line) + l.i;
  line : entries_of l.line ≡ formulas (branch_in l.pool l.branch) ++ map (formula_at l.pool) l.added.items;
  added : AreFormulas l.pool l.added.items;
  links : LinksFrom (branch_in l.pool l.branch) (formulas (branch_in l.pool l.branch)) (entries_of l.line) (map (step_in l.pool) l.steps) l.i;
}
