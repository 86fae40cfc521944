use Rattle.std.proofs.Common.{[], Vec, sym, ◌∙◌, ap, arith}
use Rattle.std.specs.Option.{option_map}
use Rattle.std.specs.Map.Iter.{deref_pair}
use Rattle.base.specs.declared.types.StructId.{StructId}
use Rattle.program.specs.declared.declaration.Struct.{Struct}
use Rattle.program.specs.Same.{same_struct}
use Rattle.declaration_cycles.specs.declared.edges.Edge.{Edge}
use Rattle.declaration_cycles.specs.Naming.{structs_of_fields}
use Rattle.declaration_cycles.specs.Edges.{edges_to}
use Rattle.declaration_cycles.proofs.Naming.{pushed, nothing_there}
use Rattle.declaration_cycles.proofs.kinds.struct_edges.Goals as goal
use Rattle.declaration_cycles.proofs.kinds.struct_edges.Goals.{in-Some+in_ok-push_struct_edges, in_default}

pub loop-number-preserved : goal.loop-number-preserved
loop-number-preserved c =
    let entries = c.args.program.now.structs in
    let n = c.loop-number.number in
    let piece = λ (e : StructId × Struct). edges_to same_struct entries e.0 (structs_of_fields e.1) in
    elim c.match-entry.branch [
      | in-Some+in_ok-push_struct_edges w ↦
          ap (λ (v : Vec Edge _). v.items) w.edges-is
          ∙ pushed piece entries n (w.in-Some.id.now, w.in-Some.declaration.now) [] c.loop-number.edges.items w.push_struct_edges.new.into.items
          (sym w.in-Some.ensures) c.loop-number.invariant w.in_ok-push_struct_edges.ensures
      | in_default w ↦ absurd (nothing_there entries n (omega arith) (sym (ap (option_map deref_pair) w.in_default.is) ∙ c.entry.ensures))
    ]
