use Rattle.std.proofs.Common.{ℕ, List, subst}
use Rattle.tableau.specs.PoolBranches.{branch_in}
use Rattle.ematching.specs.Numbers.{formula_at}
use Rattle.ematching.specs.Matches.{AreAdded, IsMatchOf}
use Rattle.ematching.proofs.TriggerLemmas.{not_matched, matched_is}
use Rattle.ematching.proofs.matches.matched.Goals as goal

pub returns-in_default : goal.returns-in_default
returns-in_default c = not_matched c.args.pool.now (branch_in c.args.pool.now c.args.branch.now) (formula_at c.args.pool.now c.args.formula) c.args.given c.new-found.result c.in_default.ensures c.new-found.ensures

pub matched_by-requires : goal.matched_by-requires
matched_by-requires c = record { over = c.requires.over; index = c.requires.index; triggers = c.in-Some.ensures.triggers; body = c.in-Some.ensures.body; given = c.requires.given }

pub returns : goal.returns
returns c = matched_is c.args.pool.now (branch_in c.args.pool.now c.args.branch.now) (formula_at c.args.pool.now c.args.formula) c.args.given c.matched_by.new.found c.in-Some.universal c.in-Some.ensures (subst (λ (xs : List ℕ). AreAdded c.args.pool.now c.args.given (IsMatchOf c.args.pool.now (branch_in c.args.pool.now c.args.branch.now) c.in-Some.universal) xs c.matched_by.new.found) c.new-found.ensures c.in_ok-matched_by.ensures)
