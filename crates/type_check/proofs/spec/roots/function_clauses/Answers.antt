use Rattle.std.proofs.Common.{List, sym, subst}
use Rattle.base.specs.TypeData.{NoTypes}
use Rattle.program.specs.declared.clause.Clause.{Clause}
use Rattle.typing_rules.specs.Clauses as C
use Rattle.typing_rules.specs.Faults.{IsOwned, IsOfLoop}
use Rattle.type_check.specs.Judged.{OwnerSays}
use Rattle.type_check.specs.declared.clauses.judged.JudgedClause.{JudgedClause}
use Rattle.type_check.specs.Roots.{IsOfFunction, TellsOf}
use Rattle.type_check.proofs.RootLaws.{owner_tells, tells_both}
use Rattle.type_check.proofs.spec.roots.function_clauses.Goals as goal

pub returns : goal.returns
returns c =
    let program = c.args.program.now in
    let f = c.args.function.now in
    subst (λ (js : List JudgedClause). TellsOf program (IsOfFunction program f) js) (sym c.in_ok-append.ensures.items)
    (tells_both program (IsOwned program C.FunctionBlock (C.function_names f) f.clauses) (IsOfLoop program f) c.in_ok-judged.judged.items c.in_ok-of_loops.of_loops.items
    (owner_tells program C.FunctionBlock (C.function_names f) f.clauses c.in_ok-judged.judged.items
    (subst (λ (cs : List Clause). OwnerSays program (C.function_names f) C.FunctionBlock NoTypes cs c.in_ok-judged.judged.items) c.as_slice-clauses.ensures c.in_ok-judged.ensures))
    c.in_ok-of_loops.ensures)
