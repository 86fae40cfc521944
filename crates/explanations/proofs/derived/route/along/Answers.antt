use Rattle.std.proofs.Common.{sym, subst, refl, arith}
use Rattle.std.proofs.lemmas.List.{take_all}
use Rattle.term_pool.proofs.GrowthLemmas.{extends_then}
use Rattle.explanations.specs.Chains.{term_at, CanBegin}
use Rattle.congruence_closure.specs.Numbers.{number_at}
use Rattle.explanations.specs.Routes.{IsEquation, end_of}
use Rattle.explanations.proofs.GrowthLemmas.{keeps_then}
use Rattle.explanations.proofs.RouteLemmas.{at_index, term_of, begun_at, source_at, passed_at, pass_at}
use Rattle.explanations.proofs.derived.route.along.Goals as goal

pub itself-requires-clause-term : goal.itself-requires-clause-term
itself-requires-clause-term c = term_of c.args.pool.now c.number_of-left.result (number_at c.args.numbers.now c.args.from) c.number_of-left.ensures c.requires.route.begins

pub loop-join-init : goal.loop-join-init
loop-join-init c = record {
  extends = c.itself.ensures.extends;
  positions = c.in_ok-position.ensures.positions;
  keeps = c.in_ok-position.ensures.keeps;
  at = begun_at c.args.pool.now c.itself.new.pool c.itself.ensures.extends c.itself.new.self c.args.numbers.now c.in_ok-position.position c.number_of-left.result c.args.from c.args.route.now c.number_of-left.ensures c.requires.route.begins c.in_ok-position.ensures.at;
  chain = c.in_ok-position.ensures.chain;
}

pub pass-requires-clause-source : goal.pass-requires-clause-source
pass-requires-clause-source c =
    source_at c.loop-join.pool c.loop-join.chain c.args.numbers.now c.loop-join.position c.number_of-left.result c.args.from c.args.route.now c.requires.route.leads c.loop-join.join-index _ (at_index c.args.route.now c.loop-join.join-index _ _ c.loop-join-test.true refl) c.loop-join.invariant.at

pub pass-requires-clause-pass : goal.pass-requires-clause-pass
pass-requires-clause-pass c =
    pass_at c.args.pool.now c.loop-join.pool c.loop-join.invariant.extends c.args.chain.now c.loop-join.chain c.loop-join.invariant.keeps c.args.numbers.now c.args.equations.now c.number_of-left.result c.args.from c.args.route.now c.number_of-left.ensures c.requires.route c.loop-join.join-index _ (at_index c.args.route.now c.loop-join.join-index _ _ c.loop-join-test.true refl)

pub pass-requires-clause-positions : goal.pass-requires-clause-positions
pass-requires-clause-positions c = c.loop-join.invariant.positions

pub loop-join-preserved : goal.loop-join-preserved
loop-join-preserved c = record {
  extends = extends_then c.loop-join.invariant.extends c.pass.ensures.extends;
  positions = c.in_ok-next.ensures.positions;
  keeps = keeps_then c.args.chain.now c.loop-join.chain c.pass.new.chain c.loop-join.invariant.keeps c.in_ok-next.ensures.keeps;
  at = passed_at c.pass.new.pool c.pass.new.chain c.args.numbers.now c.in_ok-next.next c.number_of-left.result c.args.from c.args.route.now c.loop-join.join-index _ _ (at_index c.args.route.now c.loop-join.join-index _ _ c.loop-join-test.true refl) (omega arith) c.in_ok-next.ensures.at;
  chain = λ b h can. c.in_ok-next.ensures.chain b (c.loop-join.invariant.chain b h can);
}

pub returns-clause-at : goal.returns-clause-at
returns-clause-at c =
    subst (λ left. IsEquation c.loop-join.pool c.loop-join.chain c.loop-join.position left (number_at c.args.numbers.now (end_of c.args.from c.args.route.now))) c.number_of-left.ensures
    (subst (λ way. IsEquation c.loop-join.pool c.loop-join.chain c.loop-join.position c.number_of-left.result (number_at c.args.numbers.now (end_of c.args.from way))) (take_all c.loop-join.join-index c.args.route.now c.loop-join-test.false) c.loop-join.invariant.at)

pub returns-clause-chain : goal.returns-clause-chain
returns-clause-chain c = λ b h can. c.loop-join.invariant.chain b h (subst (λ left. CanBegin b c.args.chain.now (term_at c.args.pool.now left)) (sym c.number_of-left.ensures) can)
