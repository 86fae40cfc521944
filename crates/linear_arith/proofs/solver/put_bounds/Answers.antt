use Rattle.std.proofs.Common.{rules, ◌≡◌, ◌≢◌, ◌<◌, length, sym, ◌∙◌, subst, arith, pos, ℤ, FitsSigned}
use Rattle.std.specs.Prelude.{Contains}
use Rattle.std.proofs.lemmas.Int.{ints, to_z-of_z}
use Rattle.std.proofs.lemmas.List.Elements.{All-push}
use Rattle.std.specs.Int.{w128}
use Rattle.std.proofs.lemmas.Result.{err_from_is_err_and}
use Rattle.linear_arith.specs.Fits.{Fits, IsFitting}
use Rattle.linear_arith.specs.Bounds.{IsReached}
use Rattle.linear_arith.specs.declared.bounds.Bound.{Bound}
use Rattle.linear_arith.specs.declared.elimination.Derived.{Derived}
use Rattle.linear_arith.proofs.BoundLemmas.{reached}
use Rattle.linear_arith.proofs.BoundsPutLemmas.{put_none, put_one, put_skip, have_bounds}
use Rattle.linear_arith.proofs.RestLemmas.{rest_fits, rest_ratio}
use Rattle.linear_arith.proofs.solver.put_bounds.Goals as goal
use Rattle.linear_arith.proofs.solver.put_bounds.Goals.{then-bound-ne0+in_ok-push, else-bound-ne0}

pub returns-in_err-left-clause-err : goal.returns-in_err-left-clause-err
returns-in_err-left-clause-err c = λ given choosing found.
    let p = err_from_is_err_and c.from_residual.result c.from_residual.ensures.1 in
    let i = c.loop-made.made-index in
    let lt : i < length c.args.rows.now = omega arith in
    let is_found = subst (λ (m : Derived). Contains choosing.complete.found m.row) (sym c.made-item.is) (found i c.made-item.result lt) in
    rw (p.1, p.2) (c.in_err-left.ensures.err given choosing is_found)

pub loop-made-preserved : goal.loop-made-preserved
loop-made-preserved c =
    let fc : FitsSigned w128 c.coefficient.result = search rules in
    let fb : FitsSigned w128 c.bound.result = search rules in
    let now : Bound = record { coefficient = c.coefficient.result; bound = c.bound.result } in
    let rows = c.args.rows.now in
    let values = c.args.values.now in
    let unknown = c.args.unknown in
    let old = c.args.bounds.now.items in
    let i = c.loop-made.made-index in
    let inv = c.loop-made.invariant in
    let lt : i < length rows = omega arith in
    let made = c.made-item.result in
    let left = c.in_ok-left.left in
    let rest = c.in_ok-left.ensures.ok in
    let ratio = rest_ratio made.row values left c.requires.values rest in
    let fits = rest_fits made.row values left (subst (λ (m : Derived). IsFitting m.row) (sym c.made-item.is) (c.requires.fits i made lt)) rest in
    let is_reached : IsReached now = reached now (subst (λ (z : ℤ). Fits z) (sym c.coefficient.ensures) (fits.0 unknown), subst (λ (z : ℤ). Fits z) (sym c.bound.ensures) fits.1) in
    elim c.if-bound-ne0.branch [
      | then-bound-ne0+in_ok-push w ↦
          let pushed = simp to_z-of_z at w.in_ok-push.ensures.items in
          let nonzero : c.coefficient.result ≢ pos 0 = omega (arith, ints) in
          rw (w.bounds-is, pushed) record {
            nonzero = All-push (λ (b : Bound). b.coefficient ≢ pos 0) c.loop-made.bounds.items now inv.nonzero nonzero;
            reached = All-push IsReached c.loop-made.bounds.items now inv.reached is_reached;
            put = put_one rows values unknown old c.loop-made.bounds.items i made left now lt c.made-item.is rest ratio c.coefficient.ensures c.bound.ensures inv.put;
          }
      | else-bound-ne0 w ↦
          let zero : c.coefficient.result ≡ pos 0 = omega (arith, ints) in
          rw w.bounds-is record {
            nonzero = inv.nonzero;
            reached = inv.reached;
            put = put_skip rows values unknown old c.loop-made.bounds.items i made left lt c.made-item.is ratio (sym c.coefficient.ensures ∙ zero) inv.put;
          }
    ]

pub loop-made-init : goal.loop-made-init
loop-made-init c = record { nonzero = c.requires.bounds; reached = c.requires.reached; put = put_none c.args.rows.now c.args.values.now c.args.unknown c.args.bounds.now.items }

pub returns-clause-kept : goal.returns-clause-kept
returns-clause-kept c = c.loop-made.invariant.put.kept

pub returns-clause-put : goal.returns-clause-put
returns-clause-put c = have_bounds c.args.rows.now c.args.values.now c.args.unknown c.args.bounds.now.items c.loop-made.bounds.items c.loop-made.made-index c.loop-made.invariant.put (omega arith)

pub returns-clause-from : goal.returns-clause-from
returns-clause-from c = c.loop-made.invariant.put.from
