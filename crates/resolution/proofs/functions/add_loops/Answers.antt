use Rattle.std.proofs.Common.{◌<◌, ◌+◌, List, drop, length, zip, subst, arith}
use Rattle.syntax_tree.specs.declared.clause.Spec.{Spec as SpecTree}
use Rattle.body_names.specs.declared.code.loops.LoopScope.{LoopScope}
use Rattle.resolution.specs.Setting.{scope_of}
use Rattle.resolution.proofs.LoopLaws.{LoopsSoFar, loops_end, loops_fault, loops_next, zip_one, zip_second_over}
use Rattle.resolution.proofs.functions.add_loops.Goals as goal

pub returns-in-Err-clause-unknown : goal.returns-in-Err-clause-unknown
returns-in-Err-clause-unknown c = λ w f e g.
    let xs = c.args.scopes.now in
    let ys = c.args.loops.now in
    let i = c.loop-index.index in
    let x = c.index-scopes-index.result in
    let y = c.index-loops-index.result in
    let h : i < length xs = omega arith in
    let split = zip_one xs ys i x y h c.loop-index-test.true c.index-scopes-index.is c.index-loops-index.is in
    let there = loops_fault (scope_of c.args.context.now) c.args.outcome.now (zip xs ys) (zip (drop i xs) (drop i ys)) (zip (drop (i + 1) xs) (drop (i + 1) ys)) x y c.args.into.now c.loop-index.into c.in-Err.fault c.spec_span.result c.loop-index.invariant split c.spec_span.ensures c.in-Err.ensures.unknown w f e g in
    rw c.fault_at.ensures there

pub loop-index-preserved : goal.loop-index-preserved
loop-index-preserved c =
    let xs = c.args.scopes.now in
    let ys = c.args.loops.now in
    let i = c.loop-index.index in
    let x = c.index-scopes-index.result in
    let y = c.index-loops-index.result in
    let h : i < length xs = omega arith in
    let split = zip_one xs ys i x y h c.loop-index-test.true c.index-scopes-index.is c.index-loops-index.is in
    let S : List (LoopScope × SpecTree) → Type 0 = λ rest. LoopsSoFar (scope_of c.args.context.now) c.args.outcome.now (zip xs ys) rest c.args.into.now c.loop-index.into in
    loops_next (scope_of c.args.context.now) c.args.outcome.now (zip xs ys) (zip (drop (i + 1) xs) (drop (i + 1) ys)) x y c.args.into.now c.loop-index.into c.add_loop.new.into (subst S split c.loop-index.invariant) c.in-Ok.ensures.added

pub returns-clause-added : goal.returns-clause-added
returns-clause-added c =
    let xs = c.args.scopes.now in
    let ys = c.args.loops.now in
    let i = c.loop-index.index in
    loops_end (scope_of c.args.context.now) c.args.outcome.now (zip xs ys) (zip (drop i xs) (drop i ys)) c.args.into.now c.loop-index.into c.loop-index.invariant (zip_second_over (drop i xs) ys i c.loop-index-test.false)
