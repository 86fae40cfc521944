use Rattle.std.proofs.Common.{◌++◌, ℕ, [], Option, Vec, sym, ◌∙◌, ap, arith}
use Rattle.std.specs.List.{flat_map}
use Rattle.std.specs.Option.{option_map}
use Rattle.std.specs.Map.Iter.{deref_pair}
use Rattle.base.specs.declared.types.FunctionId.{FunctionId}
use Rattle.program.specs.declared.declaration.SpecFunction.{SpecFunction}
use Rattle.program.specs.Same.{same_function}
use Rattle.declaration_cycles.specs.declared.edges.Edge.{Edge}
use Rattle.declaration_cycles.specs.Naming.{functions_called}
use Rattle.declaration_cycles.specs.Edges.{edges_to, edge, number}
use Rattle.declaration_cycles.proofs.Naming.{pushed, nothing_there}
use Rattle.declaration_cycles.proofs.kinds.spec_function_edges.Goals as goal
use Rattle.declaration_cycles.proofs.kinds.spec_function_edges.Goals.{in-Some+in_ok-push_all_called, in_default}

pub loop-number-preserved : goal.loop-number-preserved
loop-number-preserved c =
    let entries = c.args.program.now.spec_functions in
    let n = c.loop-number.number in
    let piece = λ (e : FunctionId × SpecFunction). edges_to same_function entries e.0 (functions_called e.1) in
    elim c.match-entry.branch [
      | in-Some+in_ok-push_all_called w ↦
          ap (λ (v : Vec Edge _). v.items) w.edges-is
          ∙ pushed piece entries n (w.in-Some.id.now, w.in-Some.declaration.now) [] c.loop-number.edges.items w.push_all_called.new.into.items
          (sym w.in-Some.ensures) c.loop-number.invariant
          (w.in_ok-push_all_called.ensures ∙ ap (λ (o : Option ℕ). c.loop-number.edges.items ++ flat_map (λ id. edge o (number same_function entries id)) (functions_called w.in-Some.declaration.now)) w.number-from.ensures)
      | in_default w ↦ absurd (nothing_there entries n (omega arith) (sym (ap (option_map deref_pair) w.in_default.is) ∙ c.entry.ensures))
    ]
