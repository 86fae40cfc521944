use Rattle.std.proofs.Common.{◌++◌, [], Vec, sym, ◌∙◌, ap, arith}
use Rattle.std.specs.List.{flat_map}
use Rattle.std.specs.Option.{option_map}
use Rattle.std.specs.Map.Iter.{deref_pair}
use Rattle.program.specs.declared.program.SchemaId.{SchemaId}
use Rattle.program.specs.declared.declaration.Schema.{Schema}
use Rattle.program.specs.Same.{same_schema}
use Rattle.declaration_cycles.specs.declared.edges.Edge.{Edge}
use Rattle.declaration_cycles.specs.Naming.{schemas_included}
use Rattle.declaration_cycles.specs.Edges.{edges_to, edge, number}
use Rattle.declaration_cycles.specs.Naming.{included_in}
use Rattle.declaration_cycles.proofs.Naming.{pushed, nothing_there}
use Rattle.declaration_cycles.proofs.kinds.schema_edges.Goals as goal
use Rattle.declaration_cycles.proofs.kinds.schema_edges.Goals.{in-Some+in_ok-push_included, in_default}

pub loop-number-preserved : goal.loop-number-preserved
loop-number-preserved c =
    let entries = c.args.program.now.schemas in
    let n = c.loop-number.number in
    let piece = λ (e : SchemaId × Schema). edges_to same_schema entries e.0 (schemas_included e.1) in
    elim c.match-entry.branch [
      | in-Some+in_ok-push_included w ↦
          ap (λ (v : Vec Edge _). v.items) w.edges-is
          ∙ pushed piece entries n (w.in-Some.id.now, w.in-Some.declaration.now) [] c.loop-number.edges.items w.push_included.new.into.items
          (sym w.in-Some.ensures) c.loop-number.invariant
          (w.in_ok-push_included.ensures ∙ (λ i. c.loop-number.edges.items ++ flat_map (λ id. edge (w.number-from.ensures i) (number same_schema entries id)) (flat_map included_in (w.as_slice.ensures i))))
      | in_default w ↦ absurd (nothing_there entries n (omega arith) (sym (ap (option_map deref_pair) w.in_default.is) ∙ c.entry.ensures))
    ]
