use Rattle.std.proofs.Common.{subst, sym}
use Rattle.front_end.specs.Named.{named}
use Rattle.front_end.specs.TypeFaults.{fault_of}
use Rattle.front_end.specs.Typed.{type_stages}
use Rattle.type_check.specs.TypedPrograms.{IsTypedProgram}
use Rattle.front_end.proofs.FaultLemmas.{gives_none, hands_on}
use Rattle.front_end.proofs.TypeLemmas.{keeps_all, stops_first}
use Rattle.front_end.proofs.types.typed_program_of.Goals as goal

pub returns-in_err-type_program-clause-rules : goal.returns-in_err-type_program-clause-rules
returns-in_err-type_program-clause-rules c sources =
    let given = named sources c.args.program in
    hands_on c.from_residual.result (fault_of c.in_err-type_program.field-0.0) _ (type_stages.Stops given) (type_stages.Stops given) c.from_residual.ensures.1
    (λ file fault stops. stops) (stops_first given c.in_err-type_program.field-0.0 c.in_err-type_program.ensures.well)

pub returns-in_err-type_program-clause-typed : goal.returns-in_err-type_program-clause-typed
returns-in_err-type_program-clause-typed c = gives_none c.from_residual.result _ _ c.from_residual.ensures.1

pub returns : goal.returns
returns c =
    let typed = c.in_ok-type_program.field-0 in
    let same = c.in_ok-type_program.ensures.typed.same in
    record {
      rules = λ sources. subst (λ p. type_stages.Gives (named sources c.args.program) (named sources p)) (sym same) (keeps_all (named sources c.args.program) c.in_ok-type_program.ensures.well);
      typed = subst (λ p. IsTypedProgram p typed) (sym same) c.in_ok-type_program.ensures.typed;
    }
