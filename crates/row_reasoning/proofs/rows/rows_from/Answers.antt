use Rattle.std.proofs.Common.{◌∙◌, ◌+◌, ◌<◌, length, take, refl, sym, subst, arith}
use Rattle.certificates.specs.BranchesBranch.{formulas}
use Rattle.tableau.specs.PoolBranches.{branch_in}
use Rattle.row_reasoning.specs.Rows.{AreRowsSoFar}
use Rattle.row_reasoning.proofs.StateLemmas.{none_so_far, branch_rows_made, classes_made}
use Rattle.row_reasoning.proofs.NameLemmas.{named_entry, one_formula_more, prefix_length, not_past, all_rows}
use Rattle.row_reasoning.proofs.rows.rows_from.Goals as goal
use Rattle.row_reasoning.proofs.rows.rows_from.Goals.{in-Some+in_ok-take_entry, in_default}

pub loop-number-init : goal.loop-number-init
loop-number-init c = λ class names. none_so_far class c.args.classes.keys _ c.requires.different refl c.new.ensures c.new-2.ensures.items

pub loop-number-preserved : goal.loop-number-preserved
loop-number-preserved c = λ class names. (let less : c.loop-number.number < length c.args.branch.now.entries = omega (arith, c.len-number-end.ensures) in
    elim c.match-entry.branch [
      | in-Some+in_ok-take_entry w ↦
          subst (AreRowsSoFar class c.args.classes.keys (take (c.loop-number.number + 1) (formulas (branch_in c.args.pool.now c.args.branch.now)))) (sym w.made-is)
          (subst (λ ps. AreRowsSoFar class c.args.classes.keys ps w.take_entry.new.made) (sym (one_formula_more c.args.pool.now c.args.branch.now c.requires.over c.loop-number.number w.in-Some.entry (sym w.in-Some.ensures)))
          (w.in_ok-take_entry.ensures class c.args.classes.keys (take c.loop-number.number (formulas (branch_in c.args.pool.now c.args.branch.now))) (prefix_length c.args.pool.now c.args.branch.now.entries c.loop-number.number less) (named_entry c.args.pool.now c.args.branch.now c.requires.over c.loop-number.number w.in-Some.entry (sym w.in-Some.ensures) class c.args.names.now names) (c.loop-number.invariant class names)))
      | in_default w ↦ absurd (not_past c.args.branch.now.entries c.loop-number.number less (sym w.in_default.is ∙ c.entry.ensures))
    ])

pub returns-clause-rows : goal.returns-clause-rows
returns-clause-rows c = λ class classing names. branch_rows_made (branch_in c.args.pool.now c.args.branch.now) class c.args.classes.keys c.loop-number.made classing (all_rows c.args.pool.now c.args.branch.now class c.args.classes.keys c.loop-number.made c.loop-number.number (omega (arith, c.len-number-end.ensures)) (c.loop-number.invariant class names))

pub returns-clause-origins : goal.returns-clause-origins
returns-clause-origins c = λ class classing names. (let whole : AreRowsSoFar class c.args.classes.keys (formulas (branch_in c.args.pool.now c.args.branch.now)) c.loop-number.made = all_rows c.args.pool.now c.args.branch.now class c.args.classes.keys c.loop-number.made c.loop-number.number (omega (arith, c.len-number-end.ensures)) (c.loop-number.invariant class names) in whole.origins)

pub returns-clause-spoken : goal.returns-clause-spoken
returns-clause-spoken c = λ class classing names. classes_made (branch_in c.args.pool.now c.args.branch.now) class c.args.classes.keys c.loop-number.made (all_rows c.args.pool.now c.args.branch.now class c.args.classes.keys c.loop-number.made c.loop-number.number (omega (arith, c.len-number-end.ensures)) (c.loop-number.invariant class names))
