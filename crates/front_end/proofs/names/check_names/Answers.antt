use Rattle.std.proofs.Common.{refl}
use Rattle.front_end.specs.Chain.{at_first, at_second, ◌▷◌}
use Rattle.front_end.specs.Bounds.{visible_stage}
use Rattle.front_end.specs.Named.{known_stage, named}
use Rattle.front_end.specs.Program.{name_stages}
use Rattle.front_end.specs.Twice.{twice_stage}
use Rattle.front_end.proofs.FaultLemmas.{hands_on}
use Rattle.front_end.proofs.names.check_names.Goals as goal

pub returns-in_err-program : goal.returns-in_err-program
returns-in_err-program c =
    hands_on c.from_residual.result _ _ _ (name_stages.Stops c.args.sources.now) c.from_residual.ensures.1 (λ file fault stops. at_first (at_first (at_first stops))) c.in_err-program.ensures

pub returns-in_err-check_twice : goal.returns-in_err-check_twice
returns-in_err-check_twice c =
    let given = named c.args.sources.now c.in_ok-program.program in
    hands_on c.from_residual-in_err-check_twice.result _ _ _ (name_stages.Stops c.args.sources.now) c.from_residual-in_err-check_twice.ensures.1
    (λ file fault stops. at_first (at_first (at_second given c.in_ok-program.ensures stops))) c.in_err-check_twice.ensures

pub returns-in_err-check_visible : goal.returns-in_err-check_visible
returns-in_err-check_visible c =
    let given = named c.args.sources.now c.in_ok-program.program in
    let once : (known_stage ▷ twice_stage).Gives c.args.sources.now given = record { between = given; first = c.in_ok-program.ensures; second = (refl, c.in_ok-check_twice.ensures) } in
    hands_on c.from_residual-in_err-check_visible.result _ _ _ (name_stages.Stops c.args.sources.now) c.from_residual-in_err-check_visible.ensures.1
    (λ file fault stops. at_first (at_second given once stops)) c.in_err-check_visible.ensures

pub returns-in_err-check_cycles : goal.returns-in_err-check_cycles
returns-in_err-check_cycles c =
    let given = named c.args.sources.now c.in_ok-program.program in
    let once : (known_stage ▷ twice_stage).Gives c.args.sources.now given = record { between = given; first = c.in_ok-program.ensures; second = (refl, c.in_ok-check_twice.ensures) } in
    let seen : (known_stage ▷ twice_stage ▷ visible_stage).Gives c.args.sources.now given = record { between = given; first = once; second = (refl, c.in_ok-check_visible.ensures) } in
    hands_on c.from_residual-in_err-check_cycles.result _ _ _ (name_stages.Stops c.args.sources.now) c.from_residual-in_err-check_cycles.ensures.1
    (λ file fault stops. at_second given seen stops) c.in_err-check_cycles.ensures

pub returns : goal.returns
returns c =
    let given = named c.args.sources.now c.in_ok-program.program in
    let once : (known_stage ▷ twice_stage).Gives c.args.sources.now given = record { between = given; first = c.in_ok-program.ensures; second = (refl, c.in_ok-check_twice.ensures) } in
    let seen : (known_stage ▷ twice_stage ▷ visible_stage).Gives c.args.sources.now given = record { between = given; first = once; second = (refl, c.in_ok-check_visible.ensures) } in
    record { between = given; first = seen; second = (refl, c.in_ok-check_cycles.ensures) }
