use Rattle.std.proofs.Common.{ℕ, List, length, sym, ◌∙◌, subst}
use Rattle.std.specs.Prelude.{All}
use Rattle.program.specs.Same.{same_schema}
use Rattle.std.proofs.lemmas.List.{length-map}
use Rattle.declaration_cycles.specs.declared.edges.Edge.{Edge}
use Rattle.declaration_cycles.specs.Circular.{schema_kind}
use Rattle.declaration_cycles.specs.Naming.{schemas_included}
use Rattle.declaration_cycles.specs.Within.{IsWithin}
use Rattle.declaration_cycles.proofs.Bounds.{kind_within}
use Rattle.declaration_cycles.proofs.FirstSpans.{verdict}
use Rattle.declaration_cycles.proofs.first.first_schema.Goals as goal

pub all_back-requires : goal.all_back-requires
all_back-requires c =
    let table = c.args.program.now.schemas in
    subst (λ (n : ℕ). All (IsWithin n) c.as_slice.result.now) (sym c.len.ensures)
    (subst (λ (edges : List Edge). All (IsWithin (length table)) edges) (sym (c.as_slice.ensures.value ∙ c.in_ok-edges.ensures))
    (kind_within same_schema table schemas_included table))

pub returns : goal.returns
returns c =
    let p = c.args.program.now in
    verdict (schema_kind p) (length p.schemas) c.as_slice.result.now c.in_ok-numbers.numbers.items c.as_slice-2.result.now c.first_span.result
    (kind_within same_schema p.schemas schemas_included p.schemas)
    (length-map p.schemas _)
    (c.as_slice.ensures.value ∙ c.in_ok-edges.ensures)
    c.as_slice-2.ensures.value
    c.in_ok-numbers.ensures
    c.first_span.ensures
