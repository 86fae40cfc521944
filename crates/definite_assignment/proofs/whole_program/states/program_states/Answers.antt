use Rattle.std.proofs.Common.{◌+◌, Vec, length, refl, sym, ◌∙◌, ap, subst, arith}
use Rattle.std.specs.Option.{option_map}
use Rattle.std.specs.Map.Iter.{deref_pair}
use Rattle.std.proofs.lemmas.Option.{slice_get_read}
use Rattle.definite_assignment.specs.declared.points.states.LocalStates.{LocalStates}
use Rattle.definite_assignment.proofs.Firsts.{nothing_there}
use Rattle.definite_assignment.proofs.Gathering.{HaveFirst, all_first, more_first, none_first}
use Rattle.definite_assignment.proofs.whole_program.states.program_states.Goals as goal
use Rattle.definite_assignment.proofs.whole_program.states.program_states.Goals.{in-Some+in_ok-own+in_ok-push, in_default}

pub function_states-requires : goal.function_states-requires
function_states-requires c =
    let n = c.loop-number.number in
    let known = c.args.known.now in
    let at = slice_get_read known (length known) n c.index-known-number.result refl c.loop-number-test.true c.index-known-number.is in
    c.requires.each n _ at _ c.in-Some.function.now (sym c.in-Some.ensures)

pub loop-number-init : goal.loop-number-init
loop-number-init c = none_first c.args.program.now _ c.new-states.ensures.items

pub loop-number-preserved : goal.loop-number-preserved
loop-number-preserved c =
    let program = c.args.program.now in
    let n = c.loop-number.number in
    let below = c.loop-number-test.true in
    let same = c.requires.same_length in
    elim c.match-entry.branch [
      | in-Some+in_ok-own+in_ok-push w ↦
          subst (λ (v : Vec LocalStates _). HaveFirst program v.items (n + 1)) (sym w.states-is)
          (more_first program c.loop-number.states.items w.push.new.self.items w.in_ok-own.own n _ w.in-Some.function.now c.loop-number.invariant w.in_ok-push.ensures.items (sym w.in-Some.ensures) w.in_ok-own.ensures)
      | in_default w ↦ absurd (nothing_there program.functions n (omega (arith, below, same)) (sym (ap (option_map deref_pair) w.in_default.is) ∙ c.entry.ensures))
    ]

pub returns : goal.returns
returns c =
    let end = c.loop-number-test.false in
    let last = c.loop-number.auto.number-end in
    let same = c.requires.same_length in
    all_first c.args.program.now c.loop-number.states.items c.loop-number.number (omega (arith, end, last, same)) c.loop-number.invariant
