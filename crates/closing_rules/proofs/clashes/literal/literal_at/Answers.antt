use Rattle.std.proofs.Common.{◌≡◌, false, true, refl, sym}
use Rattle.closing_rules.proofs.FormLemmas.{denial_number}
use Rattle.closing_rules.proofs.ClashLemmas.{false_entry}
use Rattle.closing_rules.proofs.LiteralLemmas.{past_literal, no_denial_literal, contrary, no_contrary}
use Rattle.closing_rules.proofs.clashes.literal.literal_at.Goals as goal

pub is_false_form-requires : goal.is_false_form-requires
is_false_form-requires c = c.requires.formulas c.args.i c.in-Some.entry (sym c.in-Some.ensures)

pub first-requires-clause-formula : goal.first-requires-clause-formula
first-requires-clause-formula c = denial_number c.args.pool.now c.in-Some.entry.formula c.in-Some-denied.inner c.in-Some-denied.ensures

pub returns-in_default : goal.returns-in_default
returns-in_default c = past_literal c.args.pool.now c.args.branch.now c.args.i c.in_default.ensures

pub returns-then-is_false_form : goal.returns-then-is_false_form
returns-then-is_false_form c = false_entry c.args.pool.now c.args.branch.now c.args.i c.in-Some.entry (sym c.in-Some.ensures) (c.if-is_false_form.ensures.0 refl)

pub returns-in_default-denied : goal.returns-in_default-denied
returns-in_default-denied c = no_denial_literal c.args.pool.now c.args.branch.now c.args.i c.in-Some.entry (sym c.in-Some.ensures) (λ f. (let never : false ≡ true = c.if-is_false_form.ensures.1 f in cc)) c.in_default-denied.ensures

pub returns-in-Some-first : goal.returns-in-Some-first
returns-in-Some-first c = contrary c.args.pool.now c.args.branch.now c.args.i c.in-Some.entry (sym c.in-Some.ensures) c.in-Some-denied.inner c.in-Some-denied.ensures c.in-Some-first.said c.in-Some-first.ensures

pub returns-in-None : goal.returns-in-None
returns-in-None c = no_contrary c.args.pool.now c.args.branch.now c.args.i c.in-Some.entry (sym c.in-Some.ensures) c.in-Some-denied.inner c.in-Some-denied.ensures (λ f. (let never : false ≡ true = c.if-is_false_form.ensures.1 f in cc)) c.in-None.ensures
