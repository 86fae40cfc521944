use Rattle.std.proofs.Common.{refl, sym, subst}
use Rattle.tableau.specs.PoolBranches.{branch_in}
use Rattle.ematching.specs.Numbers.{formula_at}
use Rattle.ematching.specs.Matches.{AreAdded, IsGivenType}
use Rattle.ematching.proofs.JoinLemmas.{on_ok}
use Rattle.ematching.proofs.TypeLemmas.{no_typed, typed_is}
use Rattle.ematching.proofs.types.typed.Goals as goal

pub returns-in_default : goal.returns-in_default
returns-in_default c = no_typed c.args.pool.now (branch_in c.args.pool.now c.args.branch.now) c.args.given (formula_at c.args.pool.now c.args.quantified.body) c.args.quantified.variable c.in_default.ensures c.args.found.now c.args.found.now refl

pub returns-in-Some-given : goal.returns-in-Some-given
returns-in-Some-given c = on_ok c.typed_term.result (λ h. typed_is c.args.pool.now (branch_in c.args.pool.now c.args.branch.now) c.args.given (formula_at c.args.pool.now c.args.quantified.body) c.args.quantified.variable c.in-Some.type_number c.in-Some.ensures c.args.found.now c.typed_term.new.found (subst (λ g. AreAdded c.args.pool.now g (IsGivenType c.args.pool.now (branch_in c.args.pool.now c.args.branch.now) c.in-Some.type_number) c.args.found.now c.typed_term.new.found) (sym c.in-Some-given.is) h)) c.typed_term.ensures

pub returns-in-None : goal.returns-in-None
returns-in-None c = on_ok c.typed_terms.result (λ h. typed_is c.args.pool.now (branch_in c.args.pool.now c.args.branch.now) c.args.given (formula_at c.args.pool.now c.args.quantified.body) c.args.quantified.variable c.in-Some.type_number c.in-Some.ensures c.args.found.now c.typed_terms.new.found (subst (λ g. AreAdded c.args.pool.now g (IsGivenType c.args.pool.now (branch_in c.args.pool.now c.args.branch.now) c.in-Some.type_number) c.args.found.now c.typed_terms.new.found) (sym c.in-None.is) h)) c.typed_terms.ensures
