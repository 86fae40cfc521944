use Rattle.std.proofs.Common.{take}
use Rattle.base.specs.Pairs.{Paired}
use Rattle.base.specs.TypeData.{NoTypes}
use Rattle.typing_rules.specs.Clauses.{ModuleBlock, module_names}
use Rattle.type_check.specs.Clauses.{AreClauseTables}
use Rattle.type_check.proofs.typed_program.clauses.module_clauses.Given as goal

abbrev pub invariant-loop-number : goal.invariant-loop-number
invariant-loop-number l = Paired (λ e t. AreClauseTables l.program module_names ModuleBlock NoTypes e.1.clauses t) (take l.number l.program.modules) l.all.items
