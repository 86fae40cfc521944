use Rattle.std.proofs.Common.{◌≡◌, ◌≤◌, slice_get, Some, length, refl, sym, ◌∙◌}
use Rattle.std.proofs.lemmas.Bool.{ltb-true}
use Rattle.std.proofs.lemmas.Option.{slice_get_past, slice_get_read}
use Rattle.type_solver.proofs.Stated.{argument_none, argument_some}
use Rattle.type_solver.proofs.read.type_argument.Goals as goal

pub returns-in-Some-clause-is : goal.returns-in-Some-clause-is
returns-in-Some-clause-is c t e =
    let types = c.args.types.now in
    let found : slice_get types c.args.number ≡ Some c.in-Some.found.now =
    slice_get_read types (length types) c.args.number c.in-Some.found.now refl (ltb-true c.args.number (length types) (sym c.in-Some.ensures.lookup.0)) c.in-Some.ensures.lookup.1 in
    sym (argument_some types c.args.number c.in-Some.found.now found)

pub returns-in-None-clause-is : goal.returns-in-None-clause-is
returns-in-None-clause-is c t e =
    let types = c.args.types.now in
    let past : length types ≤ c.args.number = c.in-None.ensures.lookup.3 in
    e ∙ sym (argument_none types c.args.number (slice_get_past types c.args.number past))
