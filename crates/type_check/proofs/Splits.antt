-- A declaration that breaks a typing rule is code or a specification.
use Rattle.std.proofs.Common.{◌⊎◌, inl, inr}
use Rattle.base.specs.declared.span.Span.{Span}
use Rattle.program.specs.declared.program.Program.{Program}
use Rattle.typing_rules.specs.Faults.{BreaksTyping, NoFunction, MisfitFunction, WrappingFunction, NoConstant, MisfitConstant, FailingConstant, BadStruct, NoSpecFunction, BadSpecFunction, NoClause, BadSchema, IsUnsettled, OpenFunction, OpenConstant, OpenSpecFunction, OpenClause}
use Rattle.type_check.specs.Split.{CodeBreaksTyping, CodeIsUnsettled, SpecBreaksTyping, SpecIsUnsettled, NoSpecFunction as spec_function, BadSpecFunction as bad_spec_function, NoClause as clause, BadSchema as bad_schema, OpenSpecFunction as open_spec_function, OpenClause as open_clause}

pub split : (program : Program) (span : Span) → BreaksTyping program span → CodeBreaksTyping program span ⊎ SpecBreaksTyping program span
split program span (NoFunction id f d p u) = inl (inl ((id, f), d, p, inl (inl u)))
split program span (MisfitFunction id f d p m) = inl (inl ((id, f), d, p, inl (inr m)))
split program span (WrappingFunction id f d p w) = inl (inl ((id, f), d, p, inr w))
split program span (NoConstant id c d p u) = inl (inr (inl ((id, c), d, p, inl (inl u))))
split program span (MisfitConstant id c d p m) = inl (inr (inl ((id, c), d, p, inl (inr m))))
split program span (FailingConstant id c d p r) = inl (inr (inl ((id, c), d, p, inr r)))
split program span (BadStruct id s d p b) = inl (inr (inr ((id, s), d, p, b)))
split program span (NoSpecFunction id f d p u) = inr (spec_function id f d p u)
split program span (BadSpecFunction id f d p b) = inr (bad_spec_function id f d p b)
split program span (NoClause c d p u) = inr (clause c d p u)
split program span (BadSchema c schema types given s d p is found bad) = inr (bad_schema c schema types given s d p is found bad)

code_joined : (program : Program) (span : Span) → CodeBreaksTyping program span → BreaksTyping program span
code_joined program span (inl h) = elim h.3 [
  | inl ill ↦ elim ill [
    | inl u ↦ NoFunction h.0.0 h.0.1 h.1 h.2 u
    | inr m ↦ MisfitFunction h.0.0 h.0.1 h.1 h.2 m
  ]
  | inr w ↦ WrappingFunction h.0.0 h.0.1 h.1 h.2 w
]
code_joined program span (inr (inl h)) = elim h.3 [
  | inl ill ↦ elim ill [
    | inl u ↦ NoConstant h.0.0 h.0.1 h.1 h.2 u
    | inr m ↦ MisfitConstant h.0.0 h.0.1 h.1 h.2 m
  ]
  | inr r ↦ FailingConstant h.0.0 h.0.1 h.1 h.2 r
]
code_joined program span (inr (inr h)) = BadStruct h.0.0 h.0.1 h.1 h.2 h.3

spec_joined : (program : Program) (span : Span) → SpecBreaksTyping program span → BreaksTyping program span
spec_joined program span (spec_function id f d p u) = NoSpecFunction id f d p u
spec_joined program span (bad_spec_function id f d p b) = BadSpecFunction id f d p b
spec_joined program span (clause c d p u) = NoClause c d p u
spec_joined program span (bad_schema c schema types given s d p is found bad) = BadSchema c schema types given s d p is found bad

pub joined : (program : Program) (span : Span) → CodeBreaksTyping program span ⊎ SpecBreaksTyping program span → BreaksTyping program span
joined program span (inl h) = code_joined program span h
joined program span (inr h) = spec_joined program span h

pub split_open : (program : Program) (span : Span) → IsUnsettled program span → CodeIsUnsettled program span ⊎ SpecIsUnsettled program span
split_open program span (OpenFunction id f d p a) = inl (inl ((id, f), d, p, a))
split_open program span (OpenConstant id c d p a) = inl (inr ((id, c), d, p, a))
split_open program span (OpenSpecFunction id f d p a) = inr (open_spec_function id f d p a)
split_open program span (OpenClause c d p a) = inr (open_clause c d p a)

spec_joined_open : (program : Program) (span : Span) → SpecIsUnsettled program span → IsUnsettled program span
spec_joined_open program span (open_spec_function id f d p a) = OpenSpecFunction id f d p a
spec_joined_open program span (open_clause c d p a) = OpenClause c d p a

pub joined_open : (program : Program) (span : Span) → CodeIsUnsettled program span ⊎ SpecIsUnsettled program span → IsUnsettled program span
joined_open program span (inl (inl h)) = OpenFunction h.0.0 h.0.1 h.1 h.2 h.3
joined_open program span (inl (inr h)) = OpenConstant h.0.0 h.0.1 h.1 h.2 h.3
joined_open program span (inr h) = spec_joined_open program span h
