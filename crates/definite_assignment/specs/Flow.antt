-- Which functions break a rule on locals, and which fault is reported. Source: The Move Book, "Local Variables and
-- Scope": a local is used only where it has a value; "Abilities": a value without drop is not left behind.
use Rattle.std.specs.Prelude.{◌≡◌, List, length, Contains, Option, Some, None}
use Rattle.base.specs.declared.span.Span.{Span}
use Rattle.base.specs.declared.types.FunctionId.{FunctionId}
use Rattle.program.specs.declared.declaration.AbilitySet.{AbilitySet}
use Rattle.program.specs.declared.declaration.Function.{Function}
use Rattle.program.specs.declared.program.Program.{Program}
use Rattle.program.specs.Order.{IsFirst}
use Rattle.typing_rules.specs.Events.{Rule, Unassigned, Undropped}
use Rattle.typing_rules.specs.LocalRules.{BodyFacts, IsUnassigned, IsUndropped}
use Rattle.ability_rules.specs.Locals.{AreLocalAbilities}
use Rattle.definite_assignment.specs.declared.whole_program.flow.FlowFault.{FlowFault}
use Rattle.definite_assignment.specs.declared.whole_program.flow.FlowFault.TheVariants.{Unassigned as unassigned_at, Undropped as undropped_at}

-- the body of a function, where the types of its locals have these abilities
abbrev pub body_of : Function → List AbilitySet → BodyFacts
body_of f sets = record { types = sets; parameters = length f.parameters; nodes = f.body.nodes }

-- a body breaks the rule on some control path
abbrev pub BodyBreaks : Rule → BodyFacts → Type 0
BodyBreaks Unassigned body = IsUnassigned body
BodyBreaks Undropped body = IsUndropped body

-- the function's locals have types, and with the abilities of these its body breaks the rule
pub record FunctionBreaks (program : Program) (rule : Rule) (f : Function) : Type 0 where
  pub sets : List AbilitySet
  pub are : AreLocalAbilities program f sets
  pub breaks : BodyBreaks rule (body_of f sets)

-- one of these functions, with this span, breaks the rule
abbrev pub BreaksAmong : Program → Rule → List (FunctionId × Function) → Span → Type 0
BreaksAmong program rule functions span =
    (d : FunctionId × Function) × Contains functions d × (d.1.span ≡ span) × FunctionBreaks program rule d.1

-- a function of the program, with this span, breaks the rule
abbrev pub BreaksLocals : Program → Rule → Span → Type 0
BreaksLocals program rule = BreaksAmong program rule program.functions

-- The fault is the first function that may use a local without a value; where there is none, the first one that may
-- leave a value behind; and none where there is none of these either.
abbrev pub FlowSays : Program → Option FlowFault → Type 0
FlowSays program None = (rule : Rule) (span : Span) → ¬ BreaksLocals program rule span
FlowSays program (Some (unassigned_at span)) = IsFirst (BreaksLocals program Unassigned) span
FlowSays program (Some (undropped_at span)) =
    ((other : Span) → ¬ BreaksLocals program Unassigned other) × IsFirst (BreaksLocals program Undropped) span

-- the fault, from the first spans of functions that break the two rules
abbrev pub fault_of : Option Span → Option Span → Option FlowFault
fault_of (Some span) undropped = Some (unassigned_at span)
fault_of None (Some span) = Some (undropped_at span)
fault_of None None = None
