use Rattle.std.proofs.Common.{◌++◌, List, ◌∙◌, ap, sym}
use Rattle.std.specs.List.{flat_map}
use Rattle.std.proofs.lemmas.List.{append-nil}
use Rattle.program.specs.declared.clause.ClauseForm.{ClauseForm}
use Rattle.program.specs.Same.{same_schema}
use Rattle.declaration_cycles.specs.declared.edges.Edge.{Edge}
use Rattle.declaration_cycles.specs.Naming.{included_by}
use Rattle.declaration_cycles.specs.Edges.{edge, number}
use Rattle.declaration_cycles.proofs.kinds.push_included_by.Goals as goal

pub returns-in_ok-push_edge : goal.returns-in_ok-push_edge
returns-in_ok-push_edge c =
    let schemas = c.args.program.now.schemas in
    let old = c.args.into.now.items in
    c.in_ok-push_edge.ensures
    ∙ (λ i. old ++ edge c.args.from (c.number.ensures i))
    ∙ ap (λ (xs : List Edge). old ++ xs) (sym (append-nil (edge c.args.from (number same_schema schemas c.in-Include.schema))))
    ∙ ap (λ (form : ClauseForm). old ++ flat_map (λ id. edge c.args.from (number same_schema schemas id)) (included_by form)) (sym c.in-Include.is)
