use Rattle.std.proofs.Common.{List, Some, None, sym, subst}
use Rattle.std.specs.Option.{option_map}
use Rattle.base.specs.TypeData.{TypeData}
use Rattle.typing_rules.specs.Faults.{IsOfLoop}
use Rattle.type_check.proofs.Placing.{if_ok_map}
use Rattle.type_check.specs.declared.clauses.judged.JudgedClause.{JudgedClause}
use Rattle.type_check.specs.Roots.{LocalsSay, LoopsSay, TellsOf}
use Rattle.type_check.proofs.RootLaws.{loops_tell, no_local, tells_none}
use Rattle.type_check.proofs.spec.loops.judge_loops.Goals as goal

pub returns-in-None : goal.returns-in-None
returns-in-None c =
    let program = c.args.program.now in
    let f = c.args.function.now in
    let says : LocalsSay program f None = subst (λ o. LocalsSay program f (option_map (λ terms. terms.items) o)) c.in-None.is c.in_ok-local_types.ensures in
    subst (λ (js : List JudgedClause). TellsOf program (IsOfLoop program f) js) (sym c.new-in-None.ensures.items) (tells_none program (IsOfLoop program f) (no_local program f says))

pub returns-in-Some : goal.returns-in-Some
returns-in-Some c =
    let program = c.args.program.now in
    let f = c.args.function.now in
    let says : LocalsSay program f (Some c.in-Some.locals.items) = subst (λ o. LocalsSay program f (option_map (λ terms. terms.items) o)) c.in-Some.is c.in_ok-local_types.ensures in
    if_ok_map c.judge_with.result (λ judged loops.
    loops_tell program f c.in-Some.locals.items judged.items says (subst (λ (ts : List TypeData). LoopsSay program f ts judged.items) c.deref.ensures.value loops))
    c.judge_with.ensures
