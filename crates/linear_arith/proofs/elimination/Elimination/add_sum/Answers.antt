use Rattle.std.proofs.Common.{sym, ◌∙◌}
use Rattle.std.proofs.lemmas.Result.{err_from_is_err_and}
use Rattle.linear_arith.specs.Stages.{HasKey}
use Rattle.linear_arith.proofs.GrowthLemmas.{row_above, row_below}
use Rattle.linear_arith.proofs.ListLemmas.{on_ok}
use Rattle.linear_arith.proofs.elimination.Elimination.add_sum.Goals as goal

pub returns-clause-err : goal.returns-clause-err
returns-clause-err c =
    let system = c.args.system.now in
    c.add.ensures.err system.width system.rows.now c.requires.under_way (c.in_ok-sum_without.ensures.ok c.args.self.now.found c.args.self.now.unknowns.items c.requires.before)

pub returns-in_err-sum_without-clause-err : goal.returns-in_err-sum_without-clause-err
returns-in_err-sum_without-clause-err c =
    let p = err_from_is_err_and c.from_residual-in_err-sum_without.result c.from_residual-in_err-sum_without.ensures.1 in
    rw (p.1, p.2) (c.in_err-sum_without.ensures.err c.args.self.now.found c.args.self.now.unknowns.items c.requires.before)

pub returns-clause-grown : goal.returns-clause-grown
returns-clause-grown c =
    let system = c.args.system.now in
    c.add.ensures.grown system.width system.rows.now c.requires.under_way (c.in_ok-sum_without.ensures.ok c.args.self.now.found c.args.self.now.unknowns.items c.requires.before)

pub returns-clause-sum : goal.returns-clause-sum
returns-clause-sum c =
    let system = c.args.system.now in
    let is_sum = c.in_ok-sum_without.ensures.sum c.args.self.now.found c.args.self.now.unknowns.items c.requires.before in
    on_ok c.add.result _ _ (λ found. record { row = c.in_ok-sum_without.field-0.row; is_found = found; is_sum = is_sum }) (c.add.ensures.added system.width system.rows.now c.requires.under_way)

pub returns-clause-ok : goal.returns-clause-ok
returns-clause-ok c =
    let system = c.args.system.now in
    c.add.ensures.ok system.width system.rows.now c.requires.under_way (c.in_ok-sum_without.ensures.ok c.args.self.now.found c.args.self.now.unknowns.items c.requires.before)

pub returns-then-branch-clause-sum : goal.returns-then-branch-clause-sum
returns-then-branch-clause-sum c =
    let system = c.args.system.now in
    let b = c.requires.before in
    let unknown = c.args.unknown in
    let upper = c.args.upper.now in
    let lower = c.args.lower.now in
    let sums = c.in_ok-sum.ensures (b.upper_of_stage.same_width ∙ sym b.lower_of_stage.same_width) (row_above system.width system.rows.now b.before unknown upper b.upper_of_stage b.above) (row_below system.width system.rows.now b.before unknown lower b.lower_of_stage b.below) in
    let is_sum = rw c.in-Some.is at sums in
    let has : HasKey c.args.self.now.keys c.in-Some.sum = c.in_ok-stands.ensures c.if-branch.true in
    record { row = c.in-Some.sum; is_found = c.requires.under_way.are_found.no_other c.in-Some.sum has; is_sum = is_sum }
