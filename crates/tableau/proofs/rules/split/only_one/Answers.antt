use Rattle.std.proofs.Common.{◌∷◌, [], sym, subst}
use Rattle.fol.specs.FormulaData.{NotFormula}
use Rattle.certificates.specs.Parts.{both_of}
use Rattle.term_pool.proofs.GrowthLemmas.{extends_then}
use Rattle.tableau.specs.Numbers.{formula_at, AreNumbersOf}
use Rattle.tableau.proofs.NumberLemmas.{number_stays, number_of_stays, number_itself, numbers_pair, both_given, denied, vec_ok}
use Rattle.tableau.proofs.rules.split.only_one.Goals as goal

pub denial-requires-2 : goal.denial-requires-2
denial-requires-2 c = number_stays c.args.pool.now c.denial.new.pool c.denial.ensures.extends c.args.right c.requires.right

pub both-requires-clause-left : goal.both-requires-clause-left
both-requires-clause-left c = (number_of_stays c.args.pool.now c.denial-2.new.pool (extends_then c.denial.ensures.extends c.denial-2.ensures.extends) (formula_at c.args.pool.now c.args.left) c.args.left (number_itself c.args.pool.now c.args.left c.requires.left)).number

pub both-requires-clause-right : goal.both-requires-clause-right
both-requires-clause-right c = (denied c.args.pool.now c.denial.new.pool c.denial-2.new.pool c.denial.ensures.extends c.args.right c.in_ok-not_right.not_right c.requires.right c.in_ok-not_right.ensures.is).number

pub both-requires-2-clause-left : goal.both-requires-2-clause-left
both-requires-2-clause-left c = (number_of_stays c.denial-2.new.pool c.both.new.pool c.both.ensures.extends (NotFormula (formula_at c.args.pool.now c.args.left)) c.in_ok-not_left.not_left (number_of_stays c.denial.new.pool c.denial-2.new.pool c.denial-2.ensures.extends (NotFormula (formula_at c.args.pool.now c.args.left)) c.in_ok-not_left.not_left c.in_ok-not_left.ensures.is)).number

pub both-requires-2-clause-right : goal.both-requires-2-clause-right
both-requires-2-clause-right c = (number_of_stays c.denial-2.new.pool c.both.new.pool c.both.ensures.extends (formula_at c.args.pool.now c.args.right) c.args.right (number_of_stays c.args.pool.now c.denial-2.new.pool (extends_then c.denial.ensures.extends c.denial-2.ensures.extends) (formula_at c.args.pool.now c.args.right) c.args.right (number_itself c.args.pool.now c.args.right c.requires.right))).number

pub returns-clause-are : goal.returns-clause-are
returns-clause-are c =
    let first_case = both_given c.denial-2.new.pool c.both.new.pool (formula_at c.args.pool.now c.args.left) (NotFormula (formula_at c.args.pool.now c.args.right)) c.args.left c.in_ok-not_right.not_right c.in_ok-first.first (number_of_stays c.args.pool.now c.denial-2.new.pool (extends_then c.denial.ensures.extends c.denial-2.ensures.extends) (formula_at c.args.pool.now c.args.left) c.args.left (number_itself c.args.pool.now c.args.left c.requires.left)) (denied c.args.pool.now c.denial.new.pool c.denial-2.new.pool c.denial.ensures.extends c.args.right c.in_ok-not_right.not_right c.requires.right c.in_ok-not_right.ensures.is) c.in_ok-first.ensures.is in
    let second_case = both_given c.both.new.pool c.both-2.new.pool (NotFormula (formula_at c.args.pool.now c.args.left)) (formula_at c.args.pool.now c.args.right) c.in_ok-not_left.not_left c.args.right c.in_ok-second.second (number_of_stays c.denial-2.new.pool c.both.new.pool c.both.ensures.extends (NotFormula (formula_at c.args.pool.now c.args.left)) c.in_ok-not_left.not_left (number_of_stays c.denial.new.pool c.denial-2.new.pool c.denial-2.ensures.extends (NotFormula (formula_at c.args.pool.now c.args.left)) c.in_ok-not_left.not_left c.in_ok-not_left.ensures.is)) (number_of_stays c.denial-2.new.pool c.both.new.pool c.both.ensures.extends (formula_at c.args.pool.now c.args.right) c.args.right (number_of_stays c.args.pool.now c.denial-2.new.pool (extends_then c.denial.ensures.extends c.denial-2.ensures.extends) (formula_at c.args.pool.now c.args.right) c.args.right (number_itself c.args.pool.now c.args.right c.requires.right))) c.in_ok-second.ensures.is in
    let first_formula = both_of (formula_at c.args.pool.now c.args.left) (NotFormula (formula_at c.args.pool.now c.args.right)) in
    let second_formula = both_of (NotFormula (formula_at c.args.pool.now c.args.left)) (formula_at c.args.pool.now c.args.right) in
    vec_ok c.pair.result
    (λ v e. subst (AreNumbersOf c.both-2.new.pool (first_formula ∷ second_formula ∷ [])) (sym e) (numbers_pair c.both-2.new.pool first_formula second_formula c.in_ok-first.first c.in_ok-second.second (number_of_stays c.both.new.pool c.both-2.new.pool c.both-2.ensures.extends first_formula c.in_ok-first.first first_case) second_case))
    c.pair.ensures
