use Rattle.std.proofs.Common.{refl}
use Rattle.tableau.specs.Numbers.{formula_at}
use Rattle.closing_rules.proofs.FormLemmas.{denial_is, denial_number}
use Rattle.closing_rules.proofs.FalseLemmas.{holds, no_case, held, denial_answer, no_denial_answer}
use Rattle.closing_rules.proofs.clashes.forms.is_false_form.Goals as goal

pub returns-then-is_no_case : goal.returns-then-is_no_case
returns-then-is_no_case c = holds (no_case (formula_at c.args.pool.now c.args.formula) (c.if-is_no_case.ensures.0 refl))

pub returns-then-holds_false : goal.returns-then-holds_false
returns-then-holds_false c = holds (held (formula_at c.args.pool.now c.args.formula) (c.if-holds_false.ensures.0 refl))

pub is_false_denied-requires : goal.is_false_denied-requires
is_false_denied-requires c = denial_number c.args.pool.now c.args.formula c.in-Some.inner c.in-Some.ensures

pub returns-in-Some : goal.returns-in-Some
returns-in-Some c =
    denial_answer (formula_at c.args.pool.now c.args.formula) (formula_at c.args.pool.now c.in-Some.inner) c.is_false_denied.result c.if-is_no_case.ensures c.if-holds_false.ensures (denial_is c.args.pool.now c.args.formula c.in-Some.inner c.in-Some.ensures) c.is_false_denied.ensures

pub returns-in-None : goal.returns-in-None
returns-in-None c = no_denial_answer (formula_at c.args.pool.now c.args.formula) c.if-is_no_case.ensures c.if-holds_false.ensures c.in-None.ensures
