use Rattle.std.proofs.Common.{ℕ, sym, subst, arith, add-one}
use Rattle.type_check.specs.Known.{listed}
use Rattle.type_check.proofs.LevelLaws.{LevelTo, level_begins, level_ends, level_goes}
use Rattle.type_check.proofs.SchemasLists.{longer}
use Rattle.type_check.proofs.schemas.closing.close_level.Goals as goal

pub loop-number-init : goal.loop-number-init
loop-number-init c = level_begins c.args.program.now c.args.closure.now c.args.first c.args.end c.requires.closed c.requires.order c.requires.end

pub close_next-requires-clause-closed : goal.close_next-requires-clause-closed
close_next-requires-clause-closed c = c.loop-number.invariant.closed

pub close_next-requires-clause-within : goal.close_next-requires-clause-within
close_next-requires-clause-within c =
    let grows = c.loop-number.invariant.grows in
    let more = longer (listed c.args.closure.now.known) (listed c.loop-number.closure.known) grows.0 grows.1 in
    let below = c.loop-number-test.true in
    let size = c.requires.end in
    omega (arith, more, below, size)

pub loop-number-preserved : goal.loop-number-preserved
loop-number-preserved c =
    let n = c.loop-number.number in
    subst (λ (k : ℕ). LevelTo c.args.program.now c.args.closure.now c.close_next.new.closure c.args.first c.args.end k) (sym (add-one n))
    (level_goes c.args.program.now c.args.closure.now c.loop-number.closure c.close_next.new.closure c.args.first c.args.end n c.requires.end c.loop-number-test.true
    c.loop-number.invariant c.in_ok-close_next.ensures)

pub returns : goal.returns
returns c = level_ends c.args.program.now c.args.closure.now c.loop-number.closure c.args.first c.args.end c.loop-number.number c.loop-number-test.false c.loop-number.invariant
