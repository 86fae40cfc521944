use Rattle.std.proofs.Common.{List, sym, subst}
use Rattle.base.specs.TypeData.{NoTypes}
use Rattle.program.specs.declared.clause.Clause.{Clause}
use Rattle.typing_rules.specs.Clauses.{FunctionBlock, function_names}
use Rattle.type_check.specs.Clauses.{AreClauseTables, AreSettled}
use Rattle.type_check.proofs.Owners.{function_settled}
use Rattle.type_check.proofs.typed_program.clauses.clauses_of.Goals as goal

pub owner_tables-requires-clause-settled : goal.owner_tables-requires-clause-settled
owner_tables-requires-clause-settled c =
    let program = c.args.program.now in
    let f = c.args.function.now in
    let d = c.requires.declared in
    subst (λ (cs : List Clause). AreSettled program (function_names f) FunctionBlock NoTypes cs) (sym c.as_slice-clauses.ensures) (function_settled program c.requires.determined d.0 f d.1)

pub returns : goal.returns
returns c =
    let program = c.args.program.now in
    let f = c.args.function.now in
    record {
      own = subst (λ (cs : List Clause). AreClauseTables program (function_names f) FunctionBlock NoTypes cs c.in_ok-own.own) c.as_slice-clauses.ensures c.in_ok-own.ensures;
      loops = c.in_ok-loops.ensures;
    }
