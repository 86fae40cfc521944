use Rattle.std.proofs.Common.{arith, subst}
use Rattle.front_end.specs.Chain.{at_first, at_second}
use Rattle.front_end.specs.Modules.{AreNoSums, AreSumsOf}
use Rattle.front_end.specs.Named.{named}
use Rattle.front_end.specs.Program.{program_stages}
use Rattle.front_end.proofs.FaultLemmas.{hands_all, hands_on}
use Rattle.front_end.proofs.StageLaws.{named_count}
use Rattle.front_end.proofs.files.read_program.Goals as goal

pub returns-in_err-read : goal.returns-in_err-read
returns-in_err-read c =
    hands_on c.from_residual.result _ _ _ (program_stages.Stops c.args.files.now) c.from_residual.ensures.1 (λ file fault stops. at_first stops) c.in_err-read.ensures.rules

pub read_modules-requires : goal.read_modules-requires
read_modules-requires c =
    let given = named c.in_ok-read.read.sources.items c.in_ok-read.read.typed.program in
    record { few = omega (arith, c.requires.few, c.as_slice.ensures.len, named_count c.args.files.now given c.in_ok-read.ensures.rules) }

pub returns : goal.returns
returns c =
    let given = named c.in_ok-read.read.sources.items c.in_ok-read.read.typed.program in
    hands_all c.read_modules.result _ (λ program. program_stages.Gives c.args.files.now program.items) _ (program_stages.Stops c.args.files.now)
    (λ program gives. record { between = given; first = c.in_ok-read.ensures.rules; second = subst (λ sources. AreSumsOf sources program.items) c.as_slice.ensures.value gives })
    (λ file fault stops. at_second given c.in_ok-read.ensures.rules (subst (λ sources. AreNoSums sources file fault) c.as_slice.ensures.value stops))
    c.read_modules.ensures
