-- Broken typing rules, from the judgments of code and of specifications.
use Rattle.std.proofs.Common.{◌⊎◌, inl, inr, Option, refl}
use Rattle.base.specs.declared.span.Span.{Span}
use Rattle.program.specs.declared.program.Program.{Program}
use Rattle.program.specs.Order.{IsEarlier, IsFirstOrNone}
use Rattle.program.proofs.Firsts.{first_of_both, first_renamed}
use Rattle.typing_rules.specs.Faults.{BreaksTyping, NoFunction, IsUnsettled, OpenFunction}
use Rattle.type_check.specs.declared.clauses.judged.ClauseRule.TheVariants.{Typing, Settling}
use Rattle.type_check.specs.Split.{CodeBreaksTyping, CodeIsUnsettled, SpecBreaksTyping, SpecIsUnsettled, NoSpecFunction, BadSpecFunction, NoClause, BadSchema, OpenSpecFunction, OpenClause}
use Rattle.type_check.specs.Typed.{HasUntyped}
use Rattle.type_check.proofs.Splits.{joined, joined_open, split, split_open}
use Rattle.type_check.specs.SpecFaults.{SpecBreaks}
use Rattle.type_check.specs.Answers.{IsDetermined}

-- ---- of specifications

breaks_typing : (program : Program) (span : Span) → SpecBreaks program Typing span → SpecBreaksTyping program span
breaks_typing program span (inl h) = elim h.1.2 [
  | inl untypable ↦ NoClause h.0 h.1.0 h.1.1 untypable
  | inr i ↦ BadSchema h.0 i.schema i.types i.given i.declared h.1.0 h.1.1 i.form_is i.lookup_is i.improper
]
breaks_typing program span (inr h) = elim h.1.2 [
  | inl untypable ↦ NoSpecFunction h.0.0 h.0.1 h.1.0 h.1.1 untypable
  | inr improper ↦ BadSpecFunction h.0.0 h.0.1 h.1.0 h.1.1 improper
]

typing_breaks : (program : Program) (span : Span) → SpecBreaksTyping program span → SpecBreaks program Typing span
typing_breaks program span (NoSpecFunction id f d p u) = inr ((id, f), (d, p, inl u))
typing_breaks program span (BadSpecFunction id f d p b) = inr ((id, f), (d, p, inr b))
typing_breaks program span (NoClause c d p u) = inl (c, (d, p, inl u))
typing_breaks program span (BadSchema c schema types given s d p is found bad) = inl (
  c,
  (d, p, inr (record { schema = schema; types = types; given = given; form_is = is; declared = s; lookup_is = found; improper = bad })),
)

is_unsettled : (program : Program) (span : Span) → SpecBreaks program Settling span → SpecIsUnsettled program span
is_unsettled program span (inl h) = OpenClause h.0 h.1.0 h.1.1 h.1.2
is_unsettled program span (inr h) = OpenSpecFunction h.0.0 h.0.1 h.1.0 h.1.1 h.1.2

unsettled_is : (program : Program) (span : Span) → SpecIsUnsettled program span → SpecBreaks program Settling span
unsettled_is program span (OpenSpecFunction id f d p a) = inr ((id, f), (d, p, a))
unsettled_is program span (OpenClause c d p a) = inl (c, (d, p, a))

-- ---- of both

module _ (program : Program) (code spec found : Option Span) where
  pub first_untyped : IsFirstOrNone (CodeBreaksTyping program) code → IsFirstOrNone (SpecBreaks program Typing) spec → IsEarlier code spec found
      → IsFirstOrNone (BreaksTyping program) found
  first_untyped of_code of_spec earlier =
      first_renamed (λ span. CodeBreaksTyping program span ⊎ SpecBreaksTyping program span) (BreaksTyping program) found (joined program) (split program)
      (first_of_both (CodeBreaksTyping program) (SpecBreaksTyping program) code spec found of_code
      (first_renamed (SpecBreaks program Typing) (SpecBreaksTyping program) spec (breaks_typing program) (typing_breaks program) of_spec)
      earlier)

  pub first_unsettled : IsFirstOrNone (CodeIsUnsettled program) code → IsFirstOrNone (SpecBreaks program Settling) spec → IsEarlier code spec found
      → IsFirstOrNone (IsUnsettled program) found
  first_unsettled of_code of_spec earlier =
      first_renamed (λ span. CodeIsUnsettled program span ⊎ SpecIsUnsettled program span) (IsUnsettled program) found (joined_open program) (split_open program)
      (first_of_both (CodeIsUnsettled program) (SpecIsUnsettled program) code spec found of_code
      (first_renamed (SpecBreaks program Settling) (SpecIsUnsettled program) spec (is_unsettled program) (unsettled_is program) of_spec)
      earlier)

-- if all types are determined, each function is typed
pub all_typed : (program : Program) → IsDetermined program → HasUntyped program → ⊥
all_typed program determined h = elim h.untyped [
  | inl untypable ↦ determined.typed h.function.span (NoFunction h.id h.function h.declared refl untypable)
  | inr ambiguous ↦ determined.settled h.function.span (OpenFunction h.id h.function h.declared refl ambiguous)
]
