-- Which spans of specifications break a typing rule.
use Rattle.std.specs.Prelude.{◌≡◌, ◌⊎◌, false, Contains}
use Rattle.base.specs.declared.span.Span.{Span}
use Rattle.base.specs.declared.types.FunctionId.{FunctionId}
use Rattle.program.specs.declared.declaration.SpecFunction.{SpecFunction}
use Rattle.program.specs.declared.program.Program.{Program}
use Rattle.typing_rules.specs.Answers.{IsUntypable, IsAmbiguous}
use Rattle.typing_rules.specs.Clauses.{spec_function_system}
use Rattle.typing_rules.specs.Faults.{Stated, IsStated, spec_signature_is_proper}
use Rattle.type_check.specs.Judged.{ClauseBreaks}
use Rattle.type_check.specs.declared.clauses.judged.ClauseRule.{ClauseRule}
use Rattle.type_check.specs.declared.clauses.judged.ClauseRule.TheVariants.{Typing, Settling}

-- a clause of the block with this span breaks the rule, or one of a schema that it includes does
abbrev pub StatedBreaks : Program → ClauseRule → Span → Type 0
StatedBreaks program rule span = (c : Stated) × (IsStated program c × (c.span ≡ span) × ClauseBreaks program rule c)

abbrev pub SpecFunctionBreaks : Program → ClauseRule → SpecFunction → Type 0
SpecFunctionBreaks program Typing f = IsUntypable (spec_function_system program f) ⊎ (spec_signature_is_proper program f ≡ false)
SpecFunctionBreaks program Settling f = IsAmbiguous (spec_function_system program f)

-- a spec function with this span breaks the rule
abbrev pub FunctionBreaksAt : Program → ClauseRule → Span → Type 0
FunctionBreaksAt program rule span =
    (d : FunctionId × SpecFunction) × (Contains program.spec_functions d × (d.1.span ≡ span) × SpecFunctionBreaks program rule d.1)

-- a specification with this span breaks the rule
abbrev pub SpecBreaks : Program → ClauseRule → Span → Type 0
SpecBreaks program rule span = StatedBreaks program rule span ⊎ FunctionBreaksAt program rule span
