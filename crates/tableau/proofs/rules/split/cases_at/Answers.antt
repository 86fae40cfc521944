use Rattle.std.proofs.Common.{◌≡◌, true, false, length, refl, sym, ap, ◌∙◌}
use Rattle.std.proofs.lemmas.Bool.{eqb-true, eq-eqb}
use Rattle.std.proofs.lemmas.List.{nil_from_length}
use Rattle.tableau.proofs.EntryLemmas.{still_over}
use Rattle.tableau.proofs.SplitLemmas.{no_disjunction, not_some, not_new, not_shallow, cases_due}
use Rattle.tableau.proofs.rules.split.cases_at.Goals as goal
use Rattle.tableau.proofs.rules.split.cases_at.Goals.{else-are_new-via-then-are_new+else-are_shallow, else-are_new-via-else-are_new}

pub cases-requires : goal.cases-requires
cases-requires c = c.requires.formulas c.args.i c.in-Some.entry (sym c.in-Some.ensures)

pub returns-in_default-2-clause-due : goal.returns-in_default-2-clause-due
returns-in_default-2-clause-due c =
    no_disjunction c.args.pool.now c.cases.new.pool c.cases.ensures.extends c.args.branch.now c.requires c.args.i c.in-Some.entry (sym c.in-Some.ensures) (rw c.in_default-2.is at c.in_ok-formulas.ensures.are)

pub returns-then-is_empty-clause-due : goal.returns-then-is_empty-clause-due
returns-then-is_empty-clause-due c =
    let v = c.in-Some-2.formulas in
    not_some c.args.pool.now c.cases.new.pool c.cases.ensures.extends c.args.branch.now c.requires c.args.i c.in-Some.entry (sym c.in-Some.ensures) v.items (rw c.in-Some-2.is at c.in_ok-formulas.ensures.are) (nil_from_length v.items (sym v.ok.0 ∙ eqb-true v.len 0 (sym c.is_empty.ensures ∙ c.if-is_empty.true)))

pub are_new-requires-clause-over : goal.are_new-requires-clause-over
are_new-requires-clause-over c = still_over c.args.pool.now c.cases.new.pool c.cases.ensures.extends c.args.branch.now c.requires

pub returns-then-are_shallow-clause-due : goal.returns-then-are_shallow-clause-due
returns-then-are_shallow-clause-due c =
    cases_due c.args.pool.now c.cases.new.pool c.cases.ensures.extends c.args.branch.now c.requires c.args.i c.in-Some.entry (sym c.in-Some.ensures) c.in-Some-2.formulas.items (rw c.in-Some-2.is at c.in_ok-formulas.ensures.are)
    (λ e. (let both : true ≡ false = sym (eq-eqb c.in-Some-2.formulas.len 0 (c.in-Some-2.formulas.ok.0 ∙ ap length e)) ∙ sym c.is_empty.ensures ∙ c.if-is_empty.false in absurd (cc)))
    (rw c.as_slice.ensures.value at (c.if-are_new.ensures.0 refl))
    (rw c.as_slice-then-are_new.ensures.value at (c.if-are_shallow.ensures.0 refl))

pub returns-clause-due : goal.returns-clause-due
returns-clause-due c =
    elim c.else-are_new.branch [ else-are_new-via-then-are_new+else-are_shallow w ↦ not_shallow c.args.pool.now c.cases.new.pool c.cases.ensures.extends c.args.branch.now c.requires c.args.i c.in-Some.entry (sym c.in-Some.ensures) c.in-Some-2.formulas.items (rw c.in-Some-2.is at c.in_ok-formulas.ensures.are) (λ all. (let both : false ≡ true = w.if-are_shallow.ensures.1 (rw w.as_slice-then-are_new.ensures.value all) in absurd (cc))) | else-are_new-via-else-are_new w ↦ not_new c.args.pool.now c.cases.new.pool c.cases.ensures.extends c.args.branch.now c.requires c.args.i c.in-Some.entry (sym c.in-Some.ensures) c.in-Some-2.formulas.items (rw c.in-Some-2.is at c.in_ok-formulas.ensures.are) (λ has. (let both : false ≡ true = w.if-are_new.ensures.1 (rw c.as_slice.ensures.value has) in absurd (cc))) ]
