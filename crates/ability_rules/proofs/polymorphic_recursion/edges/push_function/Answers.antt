use Rattle.std.proofs.Common.{◌≡◌, Some, refl, sym, subst, ◌∙◌, ap, arith}
use Rattle.std.proofs.lemmas.Option.{slice_get-get_or}
use Rattle.ability_rules.specs.declared.polymorphic_recursion.rows.Row.{Row}
use Rattle.ability_rules.specs.declared.polymorphic_recursion.known.VariableTypes.{VariableTypes}
use Rattle.ability_rules.specs.Edges.{is_number}
use Rattle.ability_rules.specs.Rows.{PartsAreBelow}
use Rattle.ability_rules.proofs.Making.{with_body, without_body}
use Rattle.ability_rules.proofs.polymorphic_recursion.edges.push_function.Goals as goal

pub push_nodes-requires-clause-known : goal.push_nodes-requires-clause-known
push_nodes-requires-clause-known c =
    let known = c.args.all.known.now in
    let at = slice_get-get_or known c.args.number c.index-all-number.result c.requires.number in
    c.requires.all.known.each c.args.number _ at c.in-Some.id.now c.in-Some.function.now (sym c.in-Some.ensures)

pub push_nodes-requires-clause-within : goal.push_nodes-requires-clause-within
push_nodes-requires-clause-within c =
    let known = c.args.all.known.now in
    let rows = c.args.all.rows.now in
    let lt = c.requires.number in
    let long = c.requires.all.rows.same_length in
    let none : Row = record { first = 0; parameters = 0 } in
    c.requires.all.rows.within c.args.number _ _ (slice_get-get_or rows c.args.number none (omega (arith, lt, long))) (slice_get-get_or known c.args.number c.index-all-number.result lt)

pub returns-in_ok-push_nodes-clause-edges : goal.returns-in_ok-push_nodes-clause-edges
returns-in_ok-push_nodes-clause-edges c =
    let known = c.args.all.known.now in
    let rows = c.args.all.rows.now in
    let lt = c.requires.number in
    let long = c.requires.all.rows.same_length in
    let none : Row = record { first = 0; parameters = 0 } in
    with_body c.args.all.program.now rows known c.args.number _ _ c.in-Some.id.now c.in-Some.function.now
    (slice_get-get_or rows c.args.number none (omega (arith, lt, long))) (slice_get-get_or known c.args.number c.index-all-number.result lt) (sym c.in-Some.ensures)
    c.args.into.now.items c.push_entries.new.into.items c.push_nodes.new.into.items c.in_ok-push_entries.ensures.edges
    (ap (is_number c.args.number) (sym c.number.ensures) ∙ sym c.if-is_number.ensures) c.in_ok-push_nodes.ensures

pub returns-in_ok-push_nodes-clause-below : goal.returns-in_ok-push_nodes-clause-below
returns-in_ok-push_nodes-clause-below c p at =
    let there = slice_get-get_or c.args.all.known.now c.args.number c.index-all-number.result c.requires.number in
    subst (λ (q : VariableTypes). PartsAreBelow q.pool.now) (same _ p (sym there ∙ at)) c.in_ok-push_entries.ensures.below
  where
    same : (a b : VariableTypes) → Some a ≡ Some b → a ≡ b
    same a b h = cc

pub returns-else-is_number-clause-edges : goal.returns-else-is_number-clause-edges
returns-else-is_number-clause-edges c =
    let known = c.args.all.known.now in
    let rows = c.args.all.rows.now in
    let lt = c.requires.number in
    let long = c.requires.all.rows.same_length in
    let none : Row = record { first = 0; parameters = 0 } in
    without_body c.args.all.program.now rows known c.args.number _ _ c.in-Some.id.now c.in-Some.function.now
    (slice_get-get_or rows c.args.number none (omega (arith, lt, long))) (slice_get-get_or known c.args.number c.index-all-number.result lt) (sym c.in-Some.ensures)
    c.args.into.now.items c.push_entries.new.into.items c.push_entries.new.into.items c.in_ok-push_entries.ensures.edges
    (ap (is_number c.args.number) (sym c.number.ensures) ∙ sym c.if-is_number.ensures) refl

pub returns-else-is_number-clause-below : goal.returns-else-is_number-clause-below
returns-else-is_number-clause-below c p at =
    let there = slice_get-get_or c.args.all.known.now c.args.number c.index-all-number.result c.requires.number in
    subst (λ (q : VariableTypes). PartsAreBelow q.pool.now) (same _ p (sym there ∙ at)) c.in_ok-push_entries.ensures.below
  where
    same : (a b : VariableTypes) → Some a ≡ Some b → a ≡ b
    same a b h = cc
