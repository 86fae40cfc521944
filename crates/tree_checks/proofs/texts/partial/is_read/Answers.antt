use Rattle.std.proofs.Common.{◌≡◌, ◌+◌, sym, ◌∙◌, ◌-◌, subst, arith}
use Rattle.std.specs.Prelude.{All}
use Rattle.std.proofs.lemmas.List.Elements.{All-head, All-tail}
use Rattle.term_pool.proofs.GrowthLemmas.{extends_itself, extends_then}
use Rattle.tree_checks.proofs.TakenLemmas.{chain_later}
use Rattle.tree_checks.specs.Numbers.{IsApplicationNumbered}
use Rattle.tree_checks.specs.Texts.{steps_of}
use Rattle.tree_checks.proofs.TextsTextLemmas.{application_later, none_of, read_begun, read_on, read_through}
use Rattle.tree_checks.proofs.texts.partial.is_read.Goals as goal

pub loop-application-init : goal.loop-application-init
loop-application-init c =
    let ns = c.args.pool.now in
    let all = c.into_iter-application-iterator.ensures.into_iter_gives.0 in
    record {
      extends = extends_itself ns;
      walk = c.requires.walk;
      numbers = subst (All (IsApplicationNumbered ns)) (sym all) c.requires.numbers;
      read = λ n number is. read_begun c.args.shapes.now ns n c.args.text.items c.args.budget number c.requires.numbers c.args.walk.now c.requires.walk is c.into_iter-application-iterator.result.rest.items all;
    }

pub take_turn-requires-clause-numbers : goal.take_turn-requires-clause-numbers
take_turn-requires-clause-numbers c =
    let ns = c.args.pool.now in
    let l = c.loop-application in
    let first = All-head (IsApplicationNumbered ns) c.in-Some.application c.next.new.self.rest.items (subst (All (IsApplicationNumbered ns)) c.in-Some.ensures.steps.0 l.invariant.numbers) in
    application_later c.args.shapes.now ns l.pool l.invariant.extends c.in-Some.application first

pub returns-in_err-known-clause-extends : goal.returns-in_err-known-clause-extends
returns-in_err-known-clause-extends c = extends_then c.loop-application.invariant.extends c.take_turn.ensures.extends

pub returns-then-not-known-clause-extends : goal.returns-then-not-known-clause-extends
returns-then-not-known-clause-extends c = extends_then c.loop-application.invariant.extends c.take_turn.ensures.extends

pub loop-application-preserved : goal.loop-application-preserved
loop-application-preserved c =
    let ns = c.args.pool.now in
    let l = c.loop-application in
    let next = c.in-Some.ensures.steps.0 in
    let less : steps_of c.in-Some.application + (l.left - c.steps_of-steps.result) ≡ l.left = omega arith in
    record {
      extends = extends_then l.invariant.extends c.take_turn.ensures.extends;
      walk = c.in_ok-known.ensures.walk;
      numbers = All-tail (IsApplicationNumbered ns) c.in-Some.application c.next.new.self.rest.items (subst (All (IsApplicationNumbered ns)) next l.invariant.numbers);
      read = λ n number is. read_on c.args.shapes.now ns n c.args.text.items c.args.budget l.pool l.walk l.left l.application-iterator.rest.items c.next.new.self.rest.items c.in-Some.application (l.invariant.read n number is) next c.take_turn.new.pool c.take_turn.new.walk (c.in_ok-known.ensures.taken c.if-not-known.false) c.take_turn.ensures.extends c.in_ok-known.ensures.walk (l.left - c.steps_of-steps.result) less;
    }

pub ends-requires-clause-named : goal.ends-requires-clause-named
ends-requires-clause-named c = chain_later c.args.shapes.now c.args.pool.now c.loop-application.pool c.loop-application.invariant.extends c.args.chain.now c.requires.named

pub returns-clause-partial : goal.returns-clause-partial
returns-clause-partial c = λ n p number is e t. (
    let l = c.loop-application in
    let none = none_of l.application-iterator.rest.items (sym l.application-iterator.rest.ok.0 ∙ c.in-None.ensures.steps.0) in
    read_through c.args.shapes.now c.args.pool.now n c.args.text.items c.args.budget l.pool l.walk l.left l.application-iterator.rest.items none (l.invariant.read n number is) c.args.chain.now c.requires.named ((c.in_ok-ended.ensures c.args.shapes.now).0 t) p e)
