use Rattle.std.proofs.lemmas.Result.{err_from_is_err_and}
use Rattle.resolution.specs.Faults.{IsFaultOf}
use Rattle.resolution.specs.Known.{known_of}
use Rattle.resolution.proofs.ProgramLaws.{begun_known, begun_within, program_made}
use Rattle.resolution.proofs.resolve.resolve.Goals as goal

pub returns-in_err-enter_sources-clause-unknown : goal.returns-in_err-enter_sources-clause-unknown
returns-in_err-enter_sources-clause-unknown c =
    let sources = c.args.sources.now in
    let env = c.in_ok-environment.environment in
    let within = begun_within sources env c.in_ok-environment.ensures in
    let known = begun_known sources env c.in_ok-known.known c.in_ok-environment.ensures c.in_ok-known.ensures.modules c.in_ok-known.ensures.schemas in
    let g : IsFaultOf sources c.in_err-enter_sources.field-0.0 = c.in_err-enter_sources.ensures.unknown (known_of sources) within known in
    let p = err_from_is_err_and c.from_residual-in_err-enter_sources.result c.from_residual-in_err-enter_sources.ensures.1 in
    rw (p.1, p.2) g

pub returns-clause-program : goal.returns-clause-program
returns-clause-program c =
    let sources = c.args.sources.now in
    let env = c.in_ok-environment.environment in
    let within = begun_within sources env c.in_ok-environment.ensures in
    let known = begun_known sources env c.in_ok-known.known c.in_ok-environment.ensures c.in_ok-known.ensures.modules c.in_ok-known.ensures.schemas in
    let none = c.new-program.ensures in
    program_made sources c.new-program.result c.enter_sources.new.program none.modules none.structs none.constants none.functions none.spec_functions none.schemas (c.in_ok-enter_sources.ensures.entered (known_of sources) within known)

pub returns-clause-known : goal.returns-clause-known
returns-clause-known c =
    let sources = c.args.sources.now in
    let env = c.in_ok-environment.environment in
    let within = begun_within sources env c.in_ok-environment.ensures in
    let known = begun_known sources env c.in_ok-known.known c.in_ok-environment.ensures c.in_ok-known.ensures.modules c.in_ok-known.ensures.schemas in
    c.in_ok-enter_sources.ensures.known (known_of sources) within known
