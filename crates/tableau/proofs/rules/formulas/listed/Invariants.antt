use Rattle.tableau.proofs.NumberLemmas.{IsListing}
use Rattle.tableau.proofs.rules.formulas.listed.Given as goal

abbrev pub invariant-loop-formula : goal.invariant-loop-formula
invariant-loop-formula l = IsListing l.pool l.list l.rest l.numbers.items

abbrev pub decreases-loop-formula : goal.decreases-loop-formula
decreases-loop-formula l = l.rest
