use Rattle.std.proofs.Common.{ℕ, get_or, ◌∙◌, subst, arith, below_more}
use Rattle.std.specs.Prelude.{Contains}
use Rattle.std.proofs.lemmas.Result.{err_from_is_err_and}
use Rattle.linear_arith.specs.Inequality.{Inequality, padded}
use Rattle.linear_arith.specs.Stages.{IsDerived}
use Rattle.linear_arith.proofs.GrowthLemmas.{keeps_extended, caught_up_first, begun}
use Rattle.linear_arith.proofs.WholeLemmas.{no_stages}
use Rattle.linear_arith.proofs.elimination.Elimination.new.Goals as goal

pub loop-i-preserved : goal.loop-i-preserved
loop-i-preserved c =
    let inv = c.loop-i.invariant in
    let width = c.args.system.now.width in
    let rows = c.args.system.now.rows.now in
    let old = c.loop-i.elimination in
    let new = c.add.new.self in
    let derived : IsDerived width rows old.unknowns.items c.in_ok-given.field-0 = rw inv.unknowns c.in_ok-given.ensures.ok in
    let grown = c.in_ok-add.ensures.grown width rows inv.under_way derived in
    record {
      stages = grown.stages ∙ inv.stages;
      unknowns = c.in_ok-add.ensures.unknowns ∙ inv.unknowns;
      under_way = c.in_ok-add.ensures.ok width rows inv.under_way derived;
      keeps = keeps_extended old new grown inv.keeps;
      begins = λ k d l. below_more (λ (k : ℕ). (d : Inequality) → Contains new.found (padded width (get_or rows k d))) c.loop-i.i (λ k l d. grown.found (padded width (get_or rows k d)) (inv.begins k d l)) (λ d. subst (λ (r : Inequality). Contains new.found r) (c.in_ok-given.ensures.row d) (c.in_ok-add.ensures.added width rows inv.under_way)) k l d;
    }

pub returns-clause-caught_up : goal.returns-clause-caught_up
returns-clause-caught_up c =
    let inv = c.loop-i.invariant in
    caught_up_first c.args.system.now.width c.args.system.now.rows.now c.loop-i.elimination inv.unknowns inv.keeps (λ k d l. inv.begins k d (omega (arith, l)))

pub returns-clause-stages : goal.returns-clause-stages
returns-clause-stages c =
    let inv = c.loop-i.invariant in
    no_stages c.loop-i.elimination inv.stages inv.unknowns

pub returns-in_err-given-clause-err : goal.returns-in_err-given-clause-err
returns-in_err-given-clause-err c =
    let inv = c.loop-i.invariant in
    let p = err_from_is_err_and c.from_residual.result c.from_residual.ensures.1 in
    rw (p.1, p.2) (c.in_err-given.ensures.err (begun c.args.system.now.width c.args.system.now.rows.now c.loop-i.i c.loop-i.elimination inv.under_way inv.unknowns inv.begins))
