use Rattle.std.proofs.Common.{subst}
use Rattle.certificates.specs.ProofTraces.{OpenBranches}
use Rattle.tree_checks.specs.Partial.{IsTakenBy}
use Rattle.tree_checks.specs.Walks.{opened}
use Rattle.tree_checks.proofs.TakenLemmas.{numbered_later}
use Rattle.tree_checks.proofs.WalkLemmas.{opened_same}
use Rattle.tree_checks.proofs.TextsTextLemmas.{walk_still, numbers_given}
use Rattle.tree_checks.proofs.texts.partial.take_turn.Goals as goal

pub returns-in_default-clause-walk : goal.returns-in_default-clause-walk
returns-in_default-clause-walk c = walk_still c.args.pool.now c.with_grounds.new.pool c.with_grounds.ensures.extends c.args.walk.now c.requires.walk

pub take-requires-clause-walk : goal.take-requires-clause-walk
take-requires-clause-walk c = walk_still c.args.pool.now c.with_grounds.new.pool c.with_grounds.ensures.extends c.args.walk.now c.requires.walk

pub take-requires-clause-numbers : goal.take-requires-clause-numbers
take-requires-clause-numbers c =
    let same = rw c.in-Some.is at c.in_ok-given.ensures.same in
    numbered_later c.args.shapes.now c.args.pool.now c.with_grounds.new.pool c.with_grounds.ensures.extends c.in-Some.given (numbers_given c.args.pool.now c.in-Some.given c.args.application same c.requires.numbers)

pub returns-clause-taken : goal.returns-clause-taken
returns-clause-taken c = λ t. (
    let ns = c.args.pool.now in
    let ms = c.with_grounds.new.pool in
    let w = c.args.walk.now in
    let later = opened c.take.new.pool c.take.new.walk in
    let same = opened_same ns ms c.with_grounds.ensures.extends w c.requires.walk in
    let there = rw t at c.in_ok-known.ensures.exact in
    record {
      pool = ms;
      extends = c.with_grounds.ensures.extends;
      one = c.one_number.ensures;
      given = c.in-Some.given;
      same = rw c.in-Some.is at c.in_ok-given.ensures.same;
      taken = subst (λ (os : OpenBranches). IsTakenBy c.args.shapes.now ms os c.in-Some.given later) same there;
    })
