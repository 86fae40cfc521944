-- Each rule on types and locals is kept, or broken at one span.
use Rattle.std.proofs.Common.{◌≡◌, ◌∙◌}
use Rattle.typing_rules.specs.Events.{Unassigned, Undropped}
use Rattle.base.specs.declared.rule.Rule.{Rule}
use Rattle.base.specs.declared.rule.Rule.TheVariants.{NoTyping, Ambiguous, Ability, Acquires, Unassigned as no_value, Undropped as no_drop}
use Rattle.base.specs.declared.span.Span.{Span}
use Rattle.program.specs.declared.program.Program.{Program}
use Rattle.typing_rules.specs.Faults.{BreaksAbility, BreaksAcquires, BreaksNone, BreaksTyping, IsUnsettled}
use Rattle.definite_assignment.specs.Flow.{BreaksLocals}
use Rattle.front_end.specs.Bounds.{StopsAt}
use Rattle.front_end.specs.Chain.{allows, ◌▷◌}
use Rattle.front_end.specs.Named.{NamedData}
use Rattle.front_end.specs.Typed.{ability_stage, acquires_stage, settled_stage, type_stages, typing_stage, unassigned_stage, undropped_stage}
use Rattle.front_end.proofs.ChainLaws.{Laws, allows_laws, behind_laws}
use Rattle.front_end.proofs.NameLaws.{span_known}

-- a rule that no span of the program breaks, or that stops at the first span that does
rule_laws : (rule : Rule) (Breaks : Program → Span → Type 0) → Laws (allows (λ (given : NamedData). BreaksNone (Breaks given.program)) (λ given. StopsAt rule (Breaks given.program)))
rule_laws rule Breaks =
    allows_laws (λ (given : NamedData). BreaksNone (Breaks given.program)) (λ given. StopsAt rule (Breaks given.program))
    (λ given file fault none stops. none stops.span stops.first.one) (λ given. span_known rule (Breaks given.program))

settled_laws : Laws (typing_stage ▷ settled_stage)
settled_laws = behind_laws typing_stage settled_stage (rule_laws NoTyping BreaksTyping) (rule_laws Ambiguous IsUnsettled)

acquires_laws : Laws (typing_stage ▷ settled_stage ▷ ability_stage ▷ acquires_stage)
acquires_laws =
    behind_laws (typing_stage ▷ settled_stage ▷ ability_stage) acquires_stage
    (behind_laws (typing_stage ▷ settled_stage) ability_stage settled_laws (rule_laws Ability BreaksAbility))
    (rule_laws Acquires BreaksAcquires)

pub type_laws : Laws type_stages
type_laws =
    behind_laws (typing_stage ▷ settled_stage ▷ ability_stage ▷ acquires_stage ▷ unassigned_stage) undropped_stage
    (behind_laws (typing_stage ▷ settled_stage ▷ ability_stage ▷ acquires_stage) unassigned_stage acquires_laws (rule_laws no_value (λ program. BreaksLocals program Unassigned)))
    (rule_laws no_drop (λ program. BreaksLocals program Undropped))

-- the rules pass on their input
pub given_kept : (given made : NamedData) → type_stages.Gives given made → made ≡ given
given_kept given made g = g.second.0 ∙ g.first.second.0 ∙ g.first.first.second.0 ∙ g.first.first.first.second.0 ∙ g.first.first.first.first.second.0 ∙ g.first.first.first.first.first.0
