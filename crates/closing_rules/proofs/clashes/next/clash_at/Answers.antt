use Rattle.std.proofs.Common.{◌≡◌, false, true, nat_eq, refl, sym, ap, ◌∙◌}
use Rattle.indexmap.specs.IndexMap.{get}
use Rattle.closing_rules.proofs.FormLemmas.{denial_number}
use Rattle.closing_rules.proofs.ClashLemmas.{denied_known, past_entries, false_entry, no_denial_at, differing, opposed, unopposed}
use Rattle.closing_rules.proofs.clashes.next.clash_at.Goals as goal

pub is_false_form-requires : goal.is_false_form-requires
is_false_form-requires c = c.requires.over.formulas c.args.i c.in-Some.entry (sym c.in-Some.ensures)

pub equates_joined-requires-clause-formula : goal.equates_joined-requires-clause-formula
equates_joined-requires-clause-formula c = denial_number c.args.pool.now c.in-Some.entry.formula c.in-Some-denied.inner c.in-Some-denied.ensures

pub equates_joined-requires-clause-known : goal.equates_joined-requires-clause-known
equates_joined-requires-clause-known c = denied_known c.args.pool.now c.one_number.ensures c.args.branch.now c.requires.over c.args.classes.now c.requires.classes c.args.i c.in-Some-denied.inner c.in-Some.entry (sym c.in-Some.ensures) c.in-Some-denied.ensures

pub class-requires : goal.class-requires
class-requires c = denied_known c.args.pool.now c.one_number.ensures c.args.branch.now c.requires.over c.args.classes.now c.requires.classes c.args.i c.in-Some-denied.inner c.in-Some.entry (sym c.in-Some.ensures) c.in-Some-denied.ensures

pub returns-in_default : goal.returns-in_default
returns-in_default c = past_entries c.args.pool.now c.args.branch.now c.args.i c.in_default.ensures

pub returns-then-is_false_form : goal.returns-then-is_false_form
returns-then-is_false_form c = false_entry c.args.pool.now c.args.branch.now c.args.i c.in-Some.entry (sym c.in-Some.ensures) (c.if-is_false_form.ensures.0 refl)

pub returns-in_default-denied : goal.returns-in_default-denied
returns-in_default-denied c = no_denial_at c.args.pool.now c.args.branch.now c.args.i c.in-Some.entry (sym c.in-Some.ensures) (λ f. (let never : false ≡ true = c.if-is_false_form.ensures.1 f in cc)) c.in_default-denied.ensures

pub returns-then-equates_joined : goal.returns-then-equates_joined
returns-then-equates_joined c = differing c.args.pool.now c.args.branch.now c.args.i c.in-Some.entry (sym c.in-Some.ensures) c.in-Some-denied.inner c.in-Some-denied.ensures (c.if-equates_joined.ensures.0 refl)

pub returns-in-Some-look_up : goal.returns-in-Some-look_up
returns-in-Some-look_up c =
    opposed c.args.pool.now c.args.branch.now c.args.i c.in-Some.entry (sym c.in-Some.ensures) c.in-Some-denied.inner c.in-Some-denied.ensures c.one_number.ensures c.requires.over c.args.classes.now c.requires.classes c.exact.ensures (get nat_eq c.args.by_class.now) c.requires.by_class c.in-Some-look_up.said (c.in-Some-look_up.ensures ∙ ap (get nat_eq c.args.by_class.now) c.class.ensures)

pub returns-in-None : goal.returns-in-None
returns-in-None c =
    unopposed c.args.pool.now c.args.branch.now c.args.i c.in-Some.entry (sym c.in-Some.ensures) c.in-Some-denied.inner c.in-Some-denied.ensures c.one_number.ensures c.requires.over c.args.classes.now c.requires.classes c.exact.ensures (get nat_eq c.args.by_class.now) c.requires.by_class (λ f. (let never : false ≡ true = c.if-is_false_form.ensures.1 f in cc)) (λ j. (let never : false ≡ true = c.if-equates_joined.ensures.1 j in cc)) (c.in-None.ensures ∙ ap (get nat_eq c.args.by_class.now) c.class.ensures)
