use Rattle.std.proofs.Common.{take}
use Rattle.base.specs.Pairs.{Paired}
use Rattle.base.specs.TypeData.{NoTypes}
use Rattle.typing_rules.specs.Clauses.{StructBlock, struct_names}
use Rattle.type_check.specs.Clauses.{AreClauseTables}
use Rattle.type_check.proofs.typed_program.clauses.struct_clauses.Given as goal

abbrev pub invariant-loop-number : goal.invariant-loop-number
invariant-loop-number l = Paired (λ e t. AreClauseTables l.program (struct_names e.1) StructBlock NoTypes e.1.clauses t) (take l.number l.program.structs) l.all.items
