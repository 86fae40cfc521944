use Rattle.std.proofs.Common.{◌↔◌, ◌-◌, ◌<◌, IsTrue, false, ◌∷◌, [], sym, subst, arith}
use Rattle.std.specs.Prelude.{All}
use Rattle.term_pool.proofs.GrowthLemmas.{extends_then}
use Rattle.tree_checks.specs.Steps.{first_branch}
use Rattle.tree_checks.specs.Partial.{IsNumbered, steps_of, ArePartial}
use Rattle.tree_checks.proofs.TakenLemmas.{chain_later}
use Rattle.tree_checks.proofs.PartialTextLemmas.{shows}
use Rattle.tree_checks.proofs.ReadingLemmas.{reading_begun, read_through, application_numbers, steps_lack, stuck, read_on}
use Rattle.tree_checks.proofs.partial.is_partial_tree.Goals as goal

pub loop-application-init : goal.loop-application-init
loop-application-init c = reading_begun c.args.shapes.now c.args.pool.now c.args.denial c.as_slice-applications.result.now c.args.tree.now.chain c.args.budget c.requires.denial c.in_ok-walk.walk c.in_ok-walk.ensures.walk c.in_ok-walk.ensures.now_open

pub take-requires-clause-walk : goal.take-requires-clause-walk
take-requires-clause-walk c = c.loop-application.invariant.walk

pub take-requires-clause-numbers : goal.take-requires-clause-numbers
take-requires-clause-numbers c =
    let ns = c.args.pool.now in
    let l = c.loop-application in
    let numbers = subst (All (IsNumbered ns)) (sym c.as_slice-applications.ensures.value) c.requires.numbers.applications in
    application_numbers c.args.shapes.now ns c.args.denial c.as_slice-applications.result.now c.args.tree.now.chain c.args.budget l.pool l.application-index l.walk l.left l.invariant c.application-item.result c.loop-application-test.true c.application-item.is numbers

pub returns-then-steps-left-clause-extends : goal.returns-then-steps-left-clause-extends
returns-then-steps-left-clause-extends c = c.loop-application.invariant.extends

pub returns-then-steps-left-clause-exact : goal.returns-then-steps-left-clause-exact
returns-then-steps-left-clause-exact c =
    let ns = c.args.pool.now in
    let l = c.loop-application in
    let numbers = subst (All (IsNumbered ns)) (sym c.as_slice-applications.ensures.value) c.requires.numbers.applications in
    let few : l.left < steps_of c.application-item.result = omega arith in
    subst (λ ts. IsTrue false ↔ ArePartial c.args.shapes.now ns (first_branch ns c.args.denial ∷ []) ts c.args.tree.now.chain c.args.budget) c.as_slice-applications.ensures.value
    (steps_lack c.args.shapes.now ns c.args.denial c.as_slice-applications.result.now c.args.tree.now.chain c.args.budget l.pool l.application-index l.walk l.left l.invariant c.application-item.result c.loop-application-test.true c.application-item.is numbers few)

pub returns-then-not-known-clause-extends : goal.returns-then-not-known-clause-extends
returns-then-not-known-clause-extends c = extends_then c.loop-application.invariant.extends c.take.ensures.extends

pub returns-then-not-known-clause-exact : goal.returns-then-not-known-clause-exact
returns-then-not-known-clause-exact c =
    let ns = c.args.pool.now in
    let l = c.loop-application in
    let numbers = subst (All (IsNumbered ns)) (sym c.as_slice-applications.ensures.value) c.requires.numbers.applications in
    subst (λ ts. IsTrue false ↔ ArePartial c.args.shapes.now ns (first_branch ns c.args.denial ∷ []) ts c.args.tree.now.chain c.args.budget) c.as_slice-applications.ensures.value
    (stuck c.args.shapes.now ns c.args.denial c.as_slice-applications.result.now c.args.tree.now.chain c.args.budget l.pool l.application-index l.walk l.left l.invariant c.application-item.result c.loop-application-test.true c.application-item.is numbers c.one_number.ensures (rw c.if-not-known.true at c.in_ok-known.ensures.exact))

pub loop-application-preserved : goal.loop-application-preserved
loop-application-preserved c =
    let ns = c.args.pool.now in
    let l = c.loop-application in
    let numbers = subst (All (IsNumbered ns)) (sym c.as_slice-applications.ensures.value) c.requires.numbers.applications in
    read_on c.args.shapes.now ns c.args.denial c.as_slice-applications.result.now c.args.tree.now.chain c.args.budget l.pool l.application-index l.walk l.left l.invariant c.application-item.result c.loop-application-test.true c.application-item.is numbers c.one_number.ensures c.take.new.pool c.take.new.walk (l.left - c.steps_of-steps.result) c.take.ensures.extends c.in_ok-known.ensures.walk (omega arith) (rw c.if-not-known.false at c.in_ok-known.ensures.exact)

pub ends-requires-clause-walk : goal.ends-requires-clause-walk
ends-requires-clause-walk c = c.loop-application.invariant.walk

pub ends-requires-clause-named : goal.ends-requires-clause-named
ends-requires-clause-named c = chain_later c.args.shapes.now c.args.pool.now c.loop-application.pool c.loop-application.invariant.extends c.args.tree.now.chain c.requires.numbers.chain

pub returns-clause-extends : goal.returns-clause-extends
returns-clause-extends c = c.loop-application.invariant.extends

pub returns-clause-exact : goal.returns-clause-exact
returns-clause-exact c =
    let ns = c.args.pool.now in
    let l = c.loop-application in
    subst (λ ts. IsTrue c.in_ok-ended.ended ↔ ArePartial c.args.shapes.now ns (first_branch ns c.args.denial ∷ []) ts c.args.tree.now.chain c.args.budget) c.as_slice-applications.ensures.value
    (read_through c.args.shapes.now ns c.args.denial c.as_slice-applications.result.now c.args.tree.now.chain c.args.budget l.pool l.application-index l.walk l.left l.invariant c.loop-application-test.false c.requires.numbers.chain c.in_ok-ended.ended (c.in_ok-ended.ensures c.args.shapes.now))

pub returns-clause-partial : goal.returns-clause-partial
returns-clause-partial c = λ p e t. (
    let ns = c.args.pool.now in
    let l = c.loop-application in
    let exact = subst (λ ts. IsTrue c.in_ok-ended.ended ↔ ArePartial c.args.shapes.now ns (first_branch ns c.args.denial ∷ []) ts c.args.tree.now.chain c.args.budget) c.as_slice-applications.ensures.value (read_through c.args.shapes.now ns c.args.denial c.as_slice-applications.result.now c.args.tree.now.chain c.args.budget l.pool l.application-index l.walk l.left l.invariant c.loop-application-test.false c.requires.numbers.chain c.in_ok-ended.ended (c.in_ok-ended.ensures c.args.shapes.now)) in
    shows c.args.shapes.now ns p c.args.denial e c.args.tree.now c.args.budget c.requires.numbers (exact.0 t))

pub returns-in_err-known-clause-extends : goal.returns-in_err-known-clause-extends
returns-in_err-known-clause-extends c = extends_then c.loop-application.invariant.extends c.take.ensures.extends
