-- Typed declarations that break a rule, as the rules on abilities and on acquires name them.
use Rattle.std.proofs.Common.{◌⊎◌, inl, inr, Option}
use Rattle.base.specs.declared.span.Span.{Span}
use Rattle.program.specs.declared.program.Program.{Program}
use Rattle.program.specs.Order.{IsFirstOrNone}
use Rattle.program.proofs.Firsts.{first_renamed}
use Rattle.typing_rules.specs.Acquires.{LacksAcquires}
use Rattle.typing_rules.specs.Required.{FunctionLacksAbility, StructLacksAbility}
use Rattle.typing_rules.specs.Faults.{BreaksAbility, LackingFunction, LackingStruct, BreaksAcquires}
use Rattle.type_check.specs.Split.{FunctionAt, StructAt}

abbrev Lacking : Program → Span → Type 0
Lacking program span = FunctionAt program (λ id f. FunctionLacksAbility program f) span ⊎ StructAt program (StructLacksAbility program) span

lacking : (program : Program) (span : Span) → Lacking program span → BreaksAbility program span
lacking program span (inl h) = LackingFunction h.0.0 h.0.1 h.1 h.2 h.3
lacking program span (inr h) = LackingStruct h.0.0 h.0.1 h.1 h.2 h.3

of_lacking : (program : Program) (span : Span) → BreaksAbility program span → Lacking program span
of_lacking program span (LackingFunction id f d p l) = inl ((id, f), d, p, l)
of_lacking program span (LackingStruct id s d p l) = inr ((id, s), d, p, l)

pub abilities_named : (program : Program) (found : Option Span) → IsFirstOrNone (Lacking program) found → IsFirstOrNone (BreaksAbility program) found
abilities_named program found first = first_renamed (Lacking program) (BreaksAbility program) found (lacking program) (of_lacking program) first

pub acquires_named : (program : Program) (found : Option Span) → IsFirstOrNone (FunctionAt program (LacksAcquires program)) found → IsFirstOrNone (BreaksAcquires program) found
acquires_named program found first =
    first_renamed (FunctionAt program (LacksAcquires program)) (BreaksAcquires program) found
    (λ span h. record { id = h.0.0; function = h.0.1; declared = h.1; span_is = h.2; lacks = h.3 })
    (λ span b. ((b.id, b.function), b.declared, b.span_is, b.lacks))
    first
