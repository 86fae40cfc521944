use Rattle.std.proofs.lemmas.Option.{slice_get_within}
use Rattle.congruence_closure.specs.Numbers.{number_at}
use Rattle.explanations.specs.Chains.{formula_at}
use Rattle.closing_rules.proofs.AnswerLemmas.{denial_grown, longer_chain}
use Rattle.closing_rules.proofs.class_closings.linked.alike_answer.Goals as goal

pub clash_answer-requires-clause-said : goal.clash_answer-requires-clause-said
clash_answer-requires-clause-said c =
    let at = c.in_ok-position.ensures.at in
    slice_get_within c.derive_alike.new.chain.formulas c.in_ok-position.position at.number at.found

pub clash_answer-requires-clause-denied : goal.clash_answer-requires-clause-denied
clash_answer-requires-clause-denied c = longer_chain c.args.chain.now c.derive_alike.new.chain c.in_ok-position.ensures.keeps c.args.denied c.requires.denied

pub returns-clause-shown : goal.returns-clause-shown
returns-clause-shown c = λ shapes b chain can denies. (
    let ms = c.derive_alike.new.pool in
    let q = formula_at c.args.pool.now (number_at c.args.graph.numbers.now c.args.other) in
    c.in_ok-answer.ensures shapes ms b q (c.in_ok-position.ensures.chain b chain can) c.in_ok-position.ensures.at
    (denial_grown c.args.pool.now ms c.derive_alike.ensures.extends c.args.chain.now c.derive_alike.new.chain c.in_ok-position.ensures.keeps c.args.denied q denies))
