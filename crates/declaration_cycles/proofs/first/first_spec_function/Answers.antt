use Rattle.std.proofs.Common.{ℕ, List, length, sym, ◌∙◌, subst}
use Rattle.std.specs.Prelude.{All}
use Rattle.program.specs.Same.{same_function}
use Rattle.std.proofs.lemmas.List.{length-map}
use Rattle.declaration_cycles.specs.declared.edges.Edge.{Edge}
use Rattle.declaration_cycles.specs.Circular.{spec_function_kind}
use Rattle.declaration_cycles.specs.Naming.{functions_called}
use Rattle.declaration_cycles.specs.Within.{IsWithin}
use Rattle.declaration_cycles.proofs.Bounds.{kind_within}
use Rattle.declaration_cycles.proofs.FirstSpans.{verdict}
use Rattle.declaration_cycles.proofs.first.first_spec_function.Goals as goal

pub all_back-requires : goal.all_back-requires
all_back-requires c =
    let table = c.args.program.now.spec_functions in
    subst (λ (n : ℕ). All (IsWithin n) c.as_slice.result.now) (sym c.len.ensures)
    (subst (λ (edges : List Edge). All (IsWithin (length table)) edges) (sym (c.as_slice.ensures.value ∙ c.in_ok-edges.ensures))
    (kind_within same_function table functions_called table))

pub returns : goal.returns
returns c =
    let p = c.args.program.now in
    verdict (spec_function_kind p) (length p.spec_functions) c.as_slice.result.now c.in_ok-numbers.numbers.items c.as_slice-2.result.now c.first_span.result
    (kind_within same_function p.spec_functions functions_called p.spec_functions)
    (length-map p.spec_functions _)
    (c.as_slice.ensures.value ∙ c.in_ok-edges.ensures)
    c.as_slice-2.ensures.value
    c.in_ok-numbers.ensures
    c.first_span.ensures
