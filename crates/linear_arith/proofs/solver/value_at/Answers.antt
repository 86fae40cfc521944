use Rattle.std.proofs.Common.{pos, ◌^◌, ◌-◌, FitsSigned, List, arith, sym, subst}
use Rattle.std.specs.Prelude.{All, Contains}
use Rattle.std.specs.Int.{w128}
use Rattle.std.proofs.lemmas.Int.{ints}
use Rattle.std.proofs.lemmas.Result.{err_from_is_err_and}
use Rattle.linear_arith.specs.Fits.{IsFitting}
use Rattle.linear_arith.specs.declared.elimination.Derived.{Derived}
use Rattle.linear_arith.proofs.BoundsPutLemmas.{stage_all_met, stage_met}
use Rattle.linear_arith.proofs.ChosenLemmas.{stage_chosen}
use Rattle.linear_arith.proofs.ValueLemmas.{upper_found, lower_found}
use Rattle.linear_arith.proofs.solver.value_at.Goals as goal

pub unreachable-requires : goal.unreachable-requires
unreachable-requires c =
    let f : FitsSigned w128 (pos (2 ^ 127 - 1)) = omega (arith, ints) in
    c.in-None.ensures.none (pos (2 ^ 127 - 1)) f (rw c.as_slice-3.ensures.value c.in_ok-put_bounds-2.ensures.reached)

pub returns-in_err-put_bounds-clause-err : goal.returns-in_err-put_bounds-clause-err
returns-in_err-put_bounds-clause-err c = λ rows choosing before whole.
    let p = err_from_is_err_and c.from_residual.result c.from_residual.ensures.1 in
    rw (p.1, p.2) (c.in_err-put_bounds.ensures.err rows choosing (subst (λ (ds : List Derived). All (λ (made : Derived). Contains choosing.complete.found made.row) ds) (sym c.as_slice.ensures.value) (upper_found choosing.complete.found before c.args.stage.now whole)))

pub returns-in_err-put_bounds-2-clause-err : goal.returns-in_err-put_bounds-2-clause-err
returns-in_err-put_bounds-2-clause-err c = λ rows choosing before whole.
    let p = err_from_is_err_and c.from_residual-in_err-put_bounds-2.result c.from_residual-in_err-put_bounds-2.ensures.1 in
    rw (p.1, p.2) (c.in_err-put_bounds-2.ensures.err rows choosing (subst (λ (ds : List Derived). All (λ (made : Derived). Contains choosing.complete.found made.row) ds) (sym c.as_slice-2.ensures.value) (lower_found choosing.complete.found before c.args.stage.now whole)))

pub put_bounds-requires-clause-fits : goal.put_bounds-requires-clause-fits
put_bounds-requires-clause-fits c = subst (λ (ds : List Derived). All (λ (made : Derived). IsFitting made.row) ds) (sym c.as_slice.ensures.value) c.requires.fits.upper

pub put_bounds-requires-2-clause-fits : goal.put_bounds-requires-2-clause-fits
put_bounds-requires-2-clause-fits c = subst (λ (ds : List Derived). All (λ (made : Derived). IsFitting made.row) ds) (sym c.as_slice-2.ensures.value) c.requires.fits.lower

pub returns-clause-chosen : goal.returns-clause-chosen
returns-clause-chosen c = λ found before whole.
    let stage = c.args.stage.now in
    let values = c.args.values.now in
    let first = c.put_bounds.new.bounds.items in
    let second = c.put_bounds-2.new.bounds.items in
    let a = rw (c.as_slice.ensures.value, c.new-bounds.ensures.items) at c.in_ok-put_bounds.ensures.from in
    let b = rw c.as_slice-2.ensures.value at c.in_ok-put_bounds-2.ensures.from in
    let upper = rw c.as_slice.ensures.value at c.in_ok-put_bounds.ensures.put in
    let lower = rw c.as_slice-2.ensures.value at c.in_ok-put_bounds-2.ensures.put in
    let met = rw c.as_slice-3.ensures.value at c.in-Some.ensures.met in
    let between = rw c.as_slice-3.ensures.value at c.in-Some.ensures.between in
    let all = stage_all_met stage values first second c.in-Some.value c.requires.compatible a b met in
    stage_chosen found before stage values first second c.in-Some.value c.requires.values whole c.in_ok-put_bounds-2.ensures.ok a b c.in_ok-put_bounds-2.ensures.kept upper lower c.in-Some.ensures.positive all between c.in-Some.ensures.unknown

pub returns-clause-met : goal.returns-clause-met
returns-clause-met c =
    let stage = c.args.stage.now in
    let values = c.args.values.now in
    let first = c.put_bounds.new.bounds.items in
    let second = c.put_bounds-2.new.bounds.items in
    let a = rw (c.as_slice.ensures.value, c.new-bounds.ensures.items) at c.in_ok-put_bounds.ensures.from in
    let b = rw c.as_slice-2.ensures.value at c.in_ok-put_bounds-2.ensures.from in
    let upper = rw c.as_slice.ensures.value at c.in_ok-put_bounds.ensures.put in
    let lower = rw c.as_slice-2.ensures.value at c.in_ok-put_bounds-2.ensures.put in
    let met = rw c.as_slice-3.ensures.value at c.in-Some.ensures.met in
    stage_met stage values first second c.in-Some.value c.requires.compatible a b c.in_ok-put_bounds-2.ensures.kept upper lower met c.in-Some.ensures.unknown
