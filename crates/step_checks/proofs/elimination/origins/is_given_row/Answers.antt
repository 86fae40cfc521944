use Rattle.std.proofs.Common.{◌≡◌, refl, sym, length, Some}
use Rattle.std.specs.Prelude.{slice_get}
use Rattle.std.proofs.lemmas.Bool.{ltb-true}
use Rattle.std.proofs.lemmas.Option.{slice_get_read}
use Rattle.step_checks.proofs.CheckLemmas.{given_row}
use Rattle.step_checks.proofs.elimination.origins.is_given_row.Goals as goal

pub returns : goal.returns
returns c =
    let rows = c.args.rows.now in
    let at : slice_get rows c.args.i ≡ Some c.in-Some.given.now = slice_get_read rows (length rows) c.args.i c.in-Some.given.now refl (ltb-true c.args.i (length rows) (sym c.in-Some.ensures.lookup.0)) c.in-Some.ensures.lookup.1 in
    given_row c.args.width rows c.args.i c.args.row.now c.in-Some.given.now c.in_ok-padded.padded c.are_same.result at c.in_ok-padded.ensures.padded c.are_same.ensures
