use Rattle.std.proofs.Common.{◌∙◌, List, Option, subst}
use Rattle.std.specs.Prelude.{MatchOption}
use Rattle.base.specs.declared.span.Span.{Span}
use Rattle.program.specs.declared.program.ModuleId.{ModuleId}
use Rattle.program.specs.Order.{IsFirst}
use Rattle.declaration_cycles.specs.Circular.{HaveNoCycles, IsCircular, kinds_of}
use Rattle.front_end.proofs.bounds.check_cycles.Goals as goal

pub returns-in-None : goal.returns-in-None
returns-in-None c =
    subst (λ (uses : List (List ModuleId)). HaveNoCycles (kinds_of c.args.program.now uses)) (c.as_slice.ensures.value ∙ c.in_ok-uses.ensures.uses)
    (subst (λ (found : Option Span). MatchOption found (HaveNoCycles (kinds_of c.args.program.now c.as_slice.result.now)) (IsFirst (IsCircular (kinds_of c.args.program.now c.as_slice.result.now)))) c.in-None.is c.in_ok-first_cycle.ensures)
