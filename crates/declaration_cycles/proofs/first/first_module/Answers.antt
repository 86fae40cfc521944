use Rattle.std.proofs.Common.{ℕ, List, length, sym, ◌∙◌, subst}
use Rattle.std.specs.Prelude.{All}
use Rattle.std.proofs.lemmas.List.{length-map}
use Rattle.declaration_cycles.specs.declared.edges.Edge.{Edge}
use Rattle.declaration_cycles.specs.Circular.{module_kind}
use Rattle.declaration_cycles.specs.Within.{IsWithin}
use Rattle.declaration_cycles.proofs.Bounds.{modules_within}
use Rattle.declaration_cycles.proofs.FirstSpans.{verdict}
use Rattle.declaration_cycles.proofs.first.first_module.Goals as goal

pub all_back-requires : goal.all_back-requires
all_back-requires c =
    subst (λ (n : ℕ). All (IsWithin n) c.as_slice.result.now) (sym c.len.ensures)
    (subst (λ (edges : List Edge). All (IsWithin (length c.args.program.now.modules)) edges) (sym (c.as_slice.ensures.value ∙ c.in_ok-edges.ensures))
    (modules_within c.args.program.now c.args.uses.now c.requires))

pub returns : goal.returns
returns c =
    let p = c.args.program.now in
    verdict (module_kind p c.args.uses.now) (length p.modules) c.as_slice.result.now c.in_ok-numbers.numbers.items c.as_slice-2.result.now c.first_span.result
    (modules_within p c.args.uses.now c.requires)
    (length-map p.modules _)
    (c.as_slice.ensures.value ∙ c.in_ok-edges.ensures)
    c.as_slice-2.ensures.value
    c.in_ok-numbers.ensures
    c.first_span.ensures
