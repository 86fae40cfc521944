use Rattle.std.proofs.Common.{sym}
use Rattle.ematching.specs.Numbers.{term_at, formula_at}
use Rattle.ematching.proofs.StepLemmas.{nothing_at, not_quantified}
use Rattle.step_checks.proofs.GivenLemmas.{never}
use Rattle.step_checks.proofs.InstanceLemmas.{instance_given}
use Rattle.step_checks.proofs.applications.universals.is_instance_due.Goals as goal

pub returns-in_default-clause-exact : goal.returns-in_default-clause-exact
returns-in_default-clause-exact c =
    let ns = c.args.pool.now in
    never (λ due. (nothing_at ns c.args.branch.now c.requires.over c.args.entry (sym c.in_default.ensures)).none (term_at ns c.args.term) (formula_at ns c.args.formula) c.args.generation due)

pub quantified-requires : goal.quantified-requires
quantified-requires c = c.requires.over.formulas c.args.entry c.in-Some.at (sym c.in-Some.ensures)

pub returns-in_default-quantified-clause-exact : goal.returns-in_default-quantified-clause-exact
returns-in_default-quantified-clause-exact c =
    let ns = c.args.pool.now in
    never (λ due. (not_quantified ns c.args.branch.now c.requires.over c.args.entry c.in-Some.at (sym c.in-Some.ensures) c.in_default-quantified.ensures).none (term_at ns c.args.term) (formula_at ns c.args.formula) c.args.generation due)

pub is_matched-requires-clause-formula : goal.is_matched-requires-clause-formula
is_matched-requires-clause-formula c = c.requires.over.formulas c.args.entry c.in-Some.at (sym c.in-Some.ensures)

pub returns-clause-exact : goal.returns-clause-exact
returns-clause-exact c =
    let ns = c.args.pool.now in
    instance_given ns c.args.branch.now c.args.entry c.in-Some.at (sym c.in-Some.ensures) (term_at ns c.args.term) (formula_at ns c.args.formula) c.args.generation c.in_ok-matched.matched c.is_next-next.result c.in_ok-fresh.fresh c.is_shallow-shallow.result c.are_all.result c.in_ok-matched.ensures c.is_next-next.ensures c.in_ok-fresh.ensures c.is_shallow-shallow.ensures c.are_all.ensures
