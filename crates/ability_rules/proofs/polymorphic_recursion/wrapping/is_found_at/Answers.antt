use Rattle.std.proofs.Common.{sym, ◌∙◌, arith}
use Rattle.std.proofs.lemmas.Bool.{ltb-true}
use Rattle.ability_rules.proofs.Making.{any_at, got, none_at, row_within, same_key}
use Rattle.ability_rules.proofs.polymorphic_recursion.wrapping.is_found_at.Goals as goal

pub is_any_found-requires : goal.is_any_found-requires
is_any_found-requires c =
    let all = c.args.all in
    let at = got all.rows.now c.in-Some-number.first c.in-Some-get.row.now (ltb-true _ _ (sym c.in-Some-get.ensures.lookup.0)) c.in-Some-get.ensures.lookup.1 in
    let within = row_within all.program.now all.known.now all.rows.now all.count c.requires.all.rows c.in-Some-number.first c.in-Some-get.row.now at in
    let found = c.requires.found in
    omega (arith, within, found)

pub returns-in-Some-get : goal.returns-in-Some-get
returns-in-Some-get c id f at =
    let all = c.args.all in
    let row_at = got all.rows.now c.in-Some-number.first c.in-Some-get.row.now (ltb-true _ _ (sym c.in-Some-get.ensures.lookup.0)) c.in-Some-get.ensures.lookup.1 in
    any_at all.program.now all.rows.now c.args.found.now id c.in-Some.id.now c.in-Some-number.first c.in-Some-get.row.now c.is_any_found.result
    (same_key c.in-Some.id.now id _ f (c.in-Some.ensures ∙ at)) (sym c.in-Some-number.ensures) row_at c.is_any_found.ensures

pub returns-in_default-number : goal.returns-in_default-number
returns-in_default-number c id f at =
    let all = c.args.all in
    none_at all.program.now all.rows.now c.args.found.now id c.in-Some.id.now (same_key c.in-Some.id.now id _ f (c.in-Some.ensures ∙ at)) (sym c.number.ensures ∙ c.in_default-number.is)
