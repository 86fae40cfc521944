use Rattle.std.proofs.Common.{List, refl, sym, subst}
use Rattle.base.specs.Pairs.{Paired}
use Rattle.typing_rules.specs.CodeSystems.{function_system}
use Rattle.type_check.specs.Tables.{IsTable}
use Rattle.type_check.specs.declared.typed_program.TypeTable.{TypeTable}
use Rattle.type_check.proofs.typed_program.with_tables.Goals as goal

pub clause_tables-requires-clause-tables : goal.clause_tables-requires-clause-tables
clause_tables-requires-clause-tables c =
    subst (λ (ts : List TypeTable). Paired (λ f t. IsTable (function_system c.args.program f.1) t) c.args.program.functions ts) (sym c.deref.ensures.value) c.in_ok-declarations.ensures.functions

pub returns : goal.returns
returns c = record {
  same = refl;
  functions = c.in_ok-declarations.ensures.functions;
  constants = c.in_ok-declarations.ensures.constants;
  spec_functions = c.in_ok-declarations.ensures.spec_functions;
  function_clauses = c.in_ok-clauses.ensures.functions;
  struct_clauses = c.in_ok-clauses.ensures.structs;
  module_clauses = c.in_ok-clauses.ensures.modules;
  instances = c.in_ok-instances.ensures;
  fields = c.in_ok-fields.ensures;
}
