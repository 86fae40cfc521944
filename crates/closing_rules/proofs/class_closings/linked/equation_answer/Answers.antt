use Rattle.std.proofs.lemmas.Option.{slice_get_within}
use Rattle.fol.specs.FormulaData.{EqFormula}
use Rattle.congruence_closure.specs.Numbers.{number_at}
use Rattle.explanations.specs.Chains.{term_at}
use Rattle.closing_rules.proofs.AnswerLemmas.{equation_denied, longer_chain}
use Rattle.closing_rules.proofs.class_closings.linked.equation_answer.Goals as goal

pub clash_answer-requires-clause-said : goal.clash_answer-requires-clause-said
clash_answer-requires-clause-said c =
    let at = c.in_ok-said.ensures.at.at in
    slice_get_within c.derive.new.chain.formulas c.in_ok-said.said at.number at.found

pub clash_answer-requires-clause-denied : goal.clash_answer-requires-clause-denied
clash_answer-requires-clause-denied c = longer_chain c.args.chain.now c.derive.new.chain c.in_ok-said.ensures.keeps c.args.denied c.requires.denied

pub returns-clause-shown : goal.returns-clause-shown
returns-clause-shown c = λ shapes b chain can at. (
    let ns = c.args.pool.now in
    let ms = c.derive.new.pool in
    let numbers = c.args.graph.numbers.now in
    let left = number_at numbers c.args.one in
    let right = number_at numbers c.args.other in
    c.in_ok-answer.ensures shapes ms b (EqFormula (term_at ms left) (term_at ms right)) (c.in_ok-said.ensures.chain b chain can) c.in_ok-said.ensures.at.at
    (equation_denied ns ms c.derive.ensures.extends c.args.chain.now c.derive.new.chain c.in_ok-said.ensures.keeps c.args.denied left right (c.requires.graph.inside c.args.one c.requires.within) (c.requires.graph.inside c.args.other c.requires.other_within) at))
