use Rattle.std.proofs.Common.{Option, subst, arith}
use Rattle.std.specs.Prelude.{MatchOption}
use Rattle.base.specs.declared.span.Span.{Span}
use Rattle.program.specs.Order.{IsFirst}
use Rattle.declaration_cycles.specs.Circular.{HaveNoCycles, IsCircular, kinds_of, schema_kind}
use Rattle.cases.proofs.table_lines.typed.Goals as goal

pub type_program-requires : goal.type_program-requires
type_program-requires c =
    let program = c.args.program in
    let kinds = kinds_of program c.as_slice.result.now in
    let clear = subst (λ (found : Option Span). MatchOption found (HaveNoCycles kinds) (IsFirst (IsCircular kinds))) c.in-None.is c.in_ok-first_cycle.ensures in
    clear 3 (schema_kind program) (omega arith)
