use Rattle.std.proofs.Common.{◌++◌, ℕ, sym, ◌∙◌, ap, arith}
use Rattle.std.specs.Prelude.{slice_get}
use Rattle.program.specs.declared.code.Callee.{Callee}
use Rattle.typing_rules.specs.Settings.{arity_of, callee_signature}
use Rattle.std.proofs.lemmas.Bool.{ltb-true}
use Rattle.ability_rules.specs.Edges.{argument_edges, callee_edges, number, of_option}
use Rattle.ability_rules.proofs.Pieces.{option_some}
use Rattle.ability_rules.proofs.Making.{called_parameters, got, row_within}
use Rattle.ability_rules.proofs.polymorphic_recursion.edges.push_callee.Goals as goal

pub push_arguments-requires-clause-variables : goal.push_arguments-requires-clause-variables
push_arguments-requires-clause-variables c =
    let all = c.args.all in
    let arity = called_parameters all.program.now all.known.now all.rows.now all.count c.requires.all.rows c.in-Function.id c.in-Some.number c.in-Some-get.to.now (sym c.in-Some.ensures) (got c.args.all.rows.now c.in-Some.number c.in-Some-get.to.now (ltb-true _ _ (sym c.in-Some-get.ensures.lookup.0)) c.in-Some-get.ensures.lookup.1) in
    let same = ap (λ (x : Callee). arity_of (callee_signature all.program.now x)) c.in-Function.is in
    let variables = c.requires.variables in
    omega (arith, arity, same, variables)

pub push_arguments-requires-clause-called : goal.push_arguments-requires-clause-called
push_arguments-requires-clause-called c =
    let all = c.args.all in
    row_within all.program.now all.known.now all.rows.now all.count c.requires.all.rows c.in-Some.number c.in-Some-get.to.now (got c.args.all.rows.now c.in-Some.number c.in-Some-get.to.now (ltb-true _ _ (sym c.in-Some-get.ensures.lookup.0)) c.in-Some-get.ensures.lookup.1)

pub returns-in_ok-push_arguments : goal.returns-in_ok-push_arguments
returns-in_ok-push_arguments c =
    let rows = c.args.all.rows.now in
    let program = c.args.all.program.now in
    let row = c.args.row in
    let types = c.args.given.types.now in
    let first = c.args.first in
    let start = c.args.into.now.items in
    let new = c.push_arguments.new.into.items in
    option_some (λ (j : ℕ). of_option (argument_edges row types first) (slice_get rows j)) start new (number program c.in-Function.id) c.in-Some.number (sym c.in-Some.ensures)
    (option_some (argument_edges row types first) start new (slice_get rows c.in-Some.number) c.in-Some-get.to.now (got c.args.all.rows.now c.in-Some.number c.in-Some-get.to.now (ltb-true _ _ (sym c.in-Some-get.ensures.lookup.0)) c.in-Some-get.ensures.lookup.1) c.in_ok-push_arguments.ensures)
    ∙ ap (λ (x : Callee). start ++ callee_edges program rows row types first x) (sym c.in-Function.is)
