-- Each rule on names is kept, or broken at one span.
use Rattle.std.proofs.Common.{◌≡◌, ℕ, List, Option, Some, None, inl, inr, sym, ap, subst, ◌∙◌, arith}
use Rattle.std.proofs.lemmas.Bool.{cases_lt}
use Rattle.std.proofs.lemmas.List.Elements.{All-contains}
use Rattle.base.specs.declared.rule.Rule.{Rule}
use Rattle.base.specs.declared.rule.Rule.TheVariants.{UnknownName, TwiceDeclared}
use Rattle.base.specs.declared.span.Span.{Span}
use Rattle.syntax_tree.specs.SourceModuleData.{SourceModuleData}
use Rattle.program.specs.declared.program.Program.{Program}
use Rattle.resolution.specs.Known.{known_of}
use Rattle.resolution.specs.Programs.{IsProgramOf}
use Rattle.program.specs.Order.{IsBefore}
use Rattle.scopes.specs.Visible.{IsVisible, codes_of}
use Rattle.declaration_cycles.specs.Circular.{HasNoCycle as HasNone, IsKindCircular, Kind, schema_kind}
use Rattle.front_end.specs.Bounds.{HasBarred, HasCycle, HasNoCycle, IsAllVisible, StopsAt, cycle_stage, kinds_in, visible_stage}
use Rattle.front_end.specs.Chain.{◌▷◌}
use Rattle.front_end.specs.FileFault.{IsSameStop, breaks, without_offset}
use Rattle.front_end.specs.Named.{HasUnknown, IsNamed, NamedData, known_stage, named}
use Rattle.front_end.specs.Program.{name_stages}
use Rattle.front_end.specs.Twice.{HasNoneTwice, HasTwice, twice_stage}
use Rattle.front_end.specs.declared.fault.FileFault.{FileFault}
use Rattle.front_end.proofs.ChainLaws.{Laws, allows_laws, behind_laws}
use Rattle.front_end.proofs.UnknownLaws.{known_apart, unknown_once}

-- sources have at most one program
abbrev pub HaveOneProgram : Type 0
HaveOneProgram = (sources : List (List SourceModuleData)) (one other : Program) → IsProgramOf sources one → IsProgramOf sources other → one ≡ other

-- ---- each use means something

named_once : HaveOneProgram → (sources : List (List SourceModuleData)) (one other : NamedData) → IsNamed sources one → IsNamed sources other → one ≡ other
named_once single sources one other p q =
    ap (λ s. named s one.program) (p.sources_are ∙ sym q.sources_are) ∙ ap (named other.sources) (single sources one.program other.program p.is_program q.is_program)

unknown_known : (sources : List (List SourceModuleData)) (file other_file : ℕ) (fault other : FileFault) → HasUnknown sources file fault → HasUnknown sources other_file other → IsSameStop file other_file fault other
unknown_known sources file other_file fault other p q =
    let same = unknown_once (known_of sources) 0 sources file other_file p.span q.span p.first q.first in
    record { file_is = same.file_is; fault_is = ap without_offset (p.fault_is ∙ ap (λ (s : Span). breaks UnknownName s.start) same.span_is ∙ sym q.fault_is) }

known_laws : HaveOneProgram → Laws known_stage
known_laws single = record {
  one = named_once single;
  either = λ sources made file fault p stops. known_apart (known_of sources) 0 sources file stops.span p.known stops.first;
  stop = unknown_known;
}

-- ---- nothing is declared twice

none_is_some : {A : Type 0} {a : A} → None ≡ Some a → ⊥
none_is_some e = absurd (cc)

abbrev file_of : Option (ℕ × ℕ) → ℕ
file_of None = 0
file_of (Some at) = at.0

abbrev span_of : Option (ℕ × ℕ) → ℕ
span_of None = 0
span_of (Some at) = at.1

twice_known : (given : NamedData) (file other_file : ℕ) (fault other : FileFault) → HasTwice given.sources file fault → HasTwice given.sources other_file other → IsSameStop file other_file fault other
twice_known given file other_file fault other p q =
    let same = sym p.first ∙ q.first in
    record { file_is = ap file_of same; fault_is = ap without_offset (p.fault_is ∙ ap (breaks TwiceDeclared) (ap span_of same) ∙ sym q.fault_is) }

twice_laws : Laws twice_stage
twice_laws = allows_laws (λ given. HasNoneTwice given.sources) (λ given. HasTwice given.sources) (λ given file fault none stops. none_is_some (sym none ∙ stops.first)) twice_known

-- ---- the first span with a property

record SameSpan (p q : Span) : Type 0 where
  file_is : p.file ≡ q.file
  start_is : p.start ≡ q.start

same_span : (p q : Span) → (IsBefore p q → ⊥) → (IsBefore q p → ⊥) → SameSpan p q
same_span p q h g =
    elim (cases_lt p.file q.file) [
      | inl a ↦ absurd (h (inl a))
      | inr a ↦ elim (cases_lt q.file p.file) [
        | inl b ↦ absurd (g (inl b))
        | inr b ↦ (let f : p.file ≡ q.file = omega (arith, a, b) in
            elim (cases_lt p.start q.start) [
              | inl c ↦ absurd (h (inr (f, c)))
              | inr c ↦ elim (cases_lt q.start p.start) [
                | inl d ↦ absurd (g (inr (sym f, d)))
                | inr d ↦ record { file_is = f; start_is = omega (arith, c, d) }
              ]
            ])
      ]
    ]

pub span_known : (rule : Rule) (IsSo : Span → Type 0) (file other_file : ℕ) (fault other : FileFault) → StopsAt rule IsSo file fault → StopsAt rule IsSo other_file other → IsSameStop file other_file fault other
span_known rule IsSo file other_file fault other p q =
    let same = same_span p.span q.span (q.first.first p.span p.first.one) (p.first.first q.span q.first.one) in
    record { file_is = p.file_is ∙ same.file_is ∙ sym q.file_is; fault_is = ap without_offset (p.fault_is ∙ ap (breaks rule) same.start_is ∙ sym q.fault_is) }

-- ---- visibility

visible_apart : (given : NamedData) (file : ℕ) (fault : FileFault) → IsAllVisible given.program → HasBarred given.program file fault → ⊥
visible_apart given file fault all stops = elim stops.first.one [
  | inl h ↦ h.3 (All-contains (IsVisible given.program) (codes_of given.program) h.0 all.named h.1)
  | inr h ↦ all.typed stops.span h
]

visible_laws : Laws visible_stage
visible_laws = allows_laws (λ given. IsAllVisible given.program) (λ given. HasBarred given.program) visible_apart (λ given. span_known _ _)

-- ---- cycles

kind_apart : (kind : Kind) (span : Span) → HasNone kind → IsKindCircular kind span → ⊥
kind_apart kind span none f = none f.0 f.2

cycles_apart : (given : NamedData) (file : ℕ) (fault : FileFault) → HasNoCycle given.sources given.program → HasCycle given.sources given.program file fault → ⊥
cycles_apart given file fault none stops =
    let h = stops.first.one in
    kind_apart h.0 stops.span (All-contains HasNone (kinds_in given.sources given.program) h.0 none h.1) h.2

cycle_laws : Laws cycle_stage
cycle_laws = allows_laws (λ given. HasNoCycle given.sources given.program) (λ given. HasCycle given.sources given.program) cycles_apart (λ given. span_known _ _)

-- ---- all of them

pub name_laws : HaveOneProgram → Laws name_stages
name_laws single =
    behind_laws (known_stage ▷ twice_stage ▷ visible_stage) cycle_stage
    (behind_laws (known_stage ▷ twice_stage) visible_stage (behind_laws known_stage twice_stage (known_laws single) twice_laws) visible_laws)
    cycle_laws

-- the rules pass the sources on
pub sources_kept : (sources : List (List SourceModuleData)) (given : NamedData) → name_stages.Gives sources given → given.sources ≡ sources
sources_kept sources given g = ap (λ (n : NamedData). n.sources) (g.second.0 ∙ g.first.second.0 ∙ g.first.first.second.0) ∙ g.first.first.first.sources_are

-- no schema includes itself
pub no_schema_cycle : (sources : List (List SourceModuleData)) (given : NamedData) → name_stages.Gives sources given → HasNone (schema_kind given.program)
no_schema_cycle sources given g =
    subst (λ (n : NamedData). HasNone (schema_kind n.program)) (sym g.second.0) (g.second.1 3 (schema_kind g.between.program) (omega arith))
