use Rattle.std.proofs.Common.{◌≡◌, ℕ, zero, ◌+◌, ◌-◌, ◌<◌, length, sym, ◌∙◌, subst, arith}
use Rattle.std.proofs.lemmas.List.{length-map}
use Rattle.type_check.specs.Judged.{instance_of}
use Rattle.type_check.specs.Closed.{IsClosedTo}
use Rattle.type_check.specs.Closing.{AreShallow}
use Rattle.type_check.specs.Known.{listed}
use Rattle.type_check.proofs.Closures.{closed_begins, depth_next}
use Rattle.type_check.proofs.SchemasLists.{at_contained}
use Rattle.type_check.proofs.LevelLaws.{grows_not, grows_twice, none_left, reached_next, reached_not, shallow_next}
use Rattle.type_check.proofs.schemas.closing.close.Goals as goal

pub loop-init : goal.loop-init
loop-init c = record {
  closed = closed_begins c.args.program.now _ c.requires.keyed c.new.ensures.items c.new-2.ensures.items c.new-3.ensures.items c.new-4.ensures.items;
  grows = grows_not (listed c.args.known);
  reached = reached_not c.args.program.now (listed c.args.known);
  shallow = subst (λ (d : ℕ). AreShallow c.args.program.now d (listed c.args.known) 0) (let e : length c.args.program.now.schemas ≡ length c.args.program.now.schemas - 0 = omega arith in e) c.requires.shallow;
}

pub close_level-requires-clause-closed : goal.close_level-requires-clause-closed
close_level-requires-clause-closed c = c.loop.invariant.closed

pub close_level-requires-clause-order : goal.close_level-requires-clause-order
close_level-requires-clause-order c =
    let within = c.loop.invariant.closed.within in
    let size = length-map c.loop.closure.known.entries (λ e. instance_of e.1) in
    let is = c.len-end-in-loop.ensures in
    omega (arith, within, size, is)

pub close_level-requires-clause-end : goal.close_level-requires-clause-end
close_level-requires-clause-end c = c.len-end-in-loop.ensures ∙ sym (length-map c.loop.closure.known.entries (λ e. instance_of e.1))

pub loop-preserved : goal.loop-preserved
loop-preserved c =
    let program = c.args.program.now in
    let level = c.in_ok-close_level.ensures in
    let total = length program.schemas in
    let below : c.loop.counter < total = (let t = c.loop-test.true in let is = c.len-end.ensures in omega (arith, t, is)) in
    record {
      closed = level.closed;
      grows = grows_twice (listed c.args.known) (listed c.loop.closure.known) (listed c.close_level.new.closure.known) c.loop.invariant.grows level.grows;
      reached = reached_next program (listed c.args.known) (listed c.loop.closure.known) (listed c.close_level.new.closure.known) c.loop.invariant.reached level.grows
          (λ n j le at.
          let size = c.len-end-in-loop.ensures ∙ sym (length-map c.loop.closure.known.entries (λ e. instance_of e.1)) in
          let w = level.added n j (omega (arith, le, size)) at in
          (w.1.2.0, at_contained (listed c.loop.closure.known) w.0 w.1.2.0 w.1.2.1.0, w.1.2.1.1));
      shallow = shallow_next program (total - (c.loop.counter + 1)) c.loop.closure c.close_level.new.closure c.loop.done c.len-end-in-loop.result
          (c.len-end-in-loop.ensures ∙ sym (length-map c.loop.closure.known.entries (λ e. instance_of e.1))) level
          (subst (λ (d : ℕ). AreShallow program d (listed c.loop.closure.known) c.loop.done) (depth_next total c.loop.counter below) c.loop.invariant.shallow);
    }

pub returns-clause-grows : goal.returns-clause-grows
returns-clause-grows c = c.loop.invariant.grows

pub returns-clause-reached : goal.returns-clause-reached
returns-clause-reached c = c.loop.invariant.reached

pub returns-clause-closed : goal.returns-clause-closed
returns-clause-closed c =
    let program = c.args.program.now in
    let total = length program.schemas in
    let past = c.loop-test.false in
    let is = c.len-end.ensures in
    let none : total - c.loop.counter ≡ zero = omega (arith, past, is) in
    let le = none_left program (listed c.loop.closure.known) c.loop.done (subst (λ (d : ℕ). AreShallow program d (listed c.loop.closure.known) c.loop.done) none c.loop.invariant.shallow) in
    let within = c.loop.invariant.closed.within in
    subst (λ (n : ℕ). IsClosedTo program c.loop.closure n) (omega (arith, le, within)) c.loop.invariant.closed
