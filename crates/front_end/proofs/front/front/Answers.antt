use Rattle.std.proofs.Common.{arith, subst}
use Rattle.front_end.specs.Chain.{at_first, at_second, ◌▷◌}
use Rattle.front_end.specs.FileFault.{IfInFile}
use Rattle.front_end.specs.Named.{named}
use Rattle.front_end.specs.Program.{name_stages, rule_stages, source_stages}
use Rattle.front_end.proofs.FaultLemmas.{gives_none, hands_on}
use Rattle.front_end.proofs.NameLaws.{no_schema_cycle}
use Rattle.front_end.proofs.StageLaws.{source_keeps}
use Rattle.front_end.proofs.front.front.Goals as goal

pub returns-in_err-sources-clause-rules : goal.returns-in_err-sources-clause-rules
returns-in_err-sources-clause-rules c =
    hands_on c.from_residual.result _ _ _ (rule_stages.Stops c.args.files.now) c.from_residual.ensures.1 (λ file fault stops. at_first (at_first stops)) c.in_err-sources.ensures

pub returns-in_err-sources-clause-typed : goal.returns-in_err-sources-clause-typed
returns-in_err-sources-clause-typed c = gives_none c.from_residual.result _ _ c.from_residual.ensures.1

pub check_names-requires : goal.check_names-requires
check_names-requires c = record { few = omega (arith, c.requires.few, c.as_slice.ensures.len, source_keeps c.args.files.now c.in_ok-sources.sources.items c.in_ok-sources.ensures) }

pub returns-in_err-program-clause-rules : goal.returns-in_err-program-clause-rules
returns-in_err-program-clause-rules c =
    hands_on c.from_residual-in_err-program.result _ _ _ (rule_stages.Stops c.args.files.now) c.from_residual-in_err-program.ensures.1
    (λ file fault stops. at_first (at_second c.in_ok-sources.sources.items c.in_ok-sources.ensures stops))
    (subst (λ sources. IfInFile c.in_err-program.field-0.0 (name_stages.Stops sources)) c.as_slice.ensures.value c.in_err-program.ensures)

pub returns-in_err-program-clause-typed : goal.returns-in_err-program-clause-typed
returns-in_err-program-clause-typed c = gives_none c.from_residual-in_err-program.result _ _ c.from_residual-in_err-program.ensures.1

pub typed_program_of-requires : goal.typed_program_of-requires
typed_program_of-requires c = no_schema_cycle c.as_slice.result.now (named c.as_slice.result.now c.in_ok-program.program) c.in_ok-program.ensures

pub returns-in_err-typed-clause-rules : goal.returns-in_err-typed-clause-rules
returns-in_err-typed-clause-rules c =
    let given = named c.in_ok-sources.sources.items c.in_ok-program.program in
    let kept : (source_stages ▷ name_stages).Gives c.args.files.now given = record { between = c.in_ok-sources.sources.items; first = c.in_ok-sources.ensures; second = subst (λ sources. name_stages.Gives sources (named sources c.in_ok-program.program)) c.as_slice.ensures.value c.in_ok-program.ensures } in
    hands_on c.from_residual-in_err-typed.result _ _ _ (rule_stages.Stops c.args.files.now) c.from_residual-in_err-typed.ensures.1 (λ file fault stops. at_second given kept stops) (c.in_err-typed.ensures.rules c.in_ok-sources.sources.items)

pub returns-in_err-typed-clause-typed : goal.returns-in_err-typed-clause-typed
returns-in_err-typed-clause-typed c = gives_none c.from_residual-in_err-typed.result _ _ c.from_residual-in_err-typed.ensures.1

pub returns : goal.returns
returns c =
    let given = named c.in_ok-sources.sources.items c.in_ok-program.program in
    let kept : (source_stages ▷ name_stages).Gives c.args.files.now given = record { between = c.in_ok-sources.sources.items; first = c.in_ok-sources.ensures; second = subst (λ sources. name_stages.Gives sources (named sources c.in_ok-program.program)) c.as_slice.ensures.value c.in_ok-program.ensures } in
    record {
      rules = record { between = given; first = kept; second = c.in_ok-typed.ensures.rules c.in_ok-sources.sources.items };
      typed = c.in_ok-typed.ensures.typed;
    }
