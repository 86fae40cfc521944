use Rattle.std.proofs.Common.{◌≡◌, take}
use Rattle.tableau.proofs.state.shared.Given as goal

abbrev pub invariant-loop-number : goal.invariant-loop-number
invariant-loop-number l = take l.number l.entries ≡ take l.number l.branch.entries
