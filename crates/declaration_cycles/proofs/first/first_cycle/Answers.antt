use Rattle.std.proofs.Common.{[], ◌∷◌}
use Rattle.declaration_cycles.specs.Circular.{kinds_of, module_kind, schema_kind, spec_function_kind, struct_kind}
use Rattle.declaration_cycles.proofs.FirstSpans.{of_one, of_both, answered}
use Rattle.declaration_cycles.proofs.first.first_cycle.Goals as goal

pub returns : goal.returns
returns c =
    let p = c.args.program.now in
    let u = c.args.uses.now in
    let m = module_kind p u in
    let s = struct_kind p in
    let f = spec_function_kind p in
    let h = schema_kind p in
    answered (kinds_of p u) c.earlier-3.result
    (of_both (m ∷ s ∷ []) (f ∷ h ∷ []) c.earlier.result c.earlier-2.result c.earlier-3.result
    (of_both (m ∷ []) (s ∷ []) c.in_ok-modules.modules c.in_ok-structs.structs c.earlier.result (of_one m c.in_ok-modules.modules c.in_ok-modules.ensures) (of_one s c.in_ok-structs.structs c.in_ok-structs.ensures) c.earlier.ensures)
    (of_both (f ∷ []) (h ∷ []) c.in_ok-spec_functions.spec_functions c.in_ok-schemas.schemas c.earlier-2.result (of_one f c.in_ok-spec_functions.spec_functions c.in_ok-spec_functions.ensures) (of_one h c.in_ok-schemas.schemas c.in_ok-schemas.ensures) c.earlier-2.ensures)
    c.earlier-3.ensures)
