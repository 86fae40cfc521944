use Rattle.std.proofs.Common.{refl}
use Rattle.fol.specs.FormulaData.{NotFormula}
use Rattle.term_pool.specs.declared.node.One.TheVariants.{Not}
use Rattle.term_pool.proofs.GrowthLemmas.{one_made}
use Rattle.tableau.specs.PoolBranches.{branch_in}
use Rattle.tableau.specs.Numbers.{formula_at}
use Rattle.tableau.proofs.NumberLemmas.{number_of_item}
use Rattle.search.specs.Applications.{term_at}
use Rattle.strategy.proofs.GrowthLemmas.{cut_terms, cut_in_more}
use Rattle.strategy.proofs.due.late.cut_application.Goals as goal

pub returns-clause-due : goal.returns-clause-due
returns-clause-due c = λ shapes late. (
    let ns = c.args.pool.now in
    let ms = c.insert.new.self in
    let b = branch_in ns c.args.branch.now in
    let cut = c.requires.cut in
    let terms = cut_terms shapes ns b (term_at ns c.args.step.left) (term_at ns c.args.step.right) cut.due in
    let denied = number_of_item ms (NotFormula (formula_at ns c.args.step.equation)) c.in_ok-denial.denial (one_made Not c.insert.ensures.extends (record { earlier = cut.equation.number.within; sort = cut.equation.number.sort }) c.in_ok-denial.ensures.is) in
    cut_in_more ns ms c.insert.ensures.extends shapes b c.args.step cut _ c.in_ok-denial.denial c.generation_of-left.result c.generation_of-right.result refl c.max.ensures c.in_ok-formulas.ensures denied (c.generation_of-left.ensures terms.is_term) (c.generation_of-right.ensures terms.is_other_term) late)
