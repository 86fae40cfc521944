use Rattle.std.proofs.Common.{◌≡◌, ◌++◌, Vec, sym, ◌∙◌, ap, arith}
use Rattle.std.specs.Option.{option_map}
use Rattle.std.specs.Map.Iter.{deref_pair}
use Rattle.program.specs.declared.declaration.Module.{Module}
use Rattle.program.specs.declared.program.ModuleId.{ModuleId}
use Rattle.scopes.specs.MemberNames.{same_module}
use Rattle.declaration_cycles.specs.declared.edges.Edge.{Edge}
use Rattle.declaration_cycles.specs.Naming.{homes_in_clauses}
use Rattle.declaration_cycles.specs.Edges.{edges_apart, number, homes_in_module}
use Rattle.declaration_cycles.proofs.Naming.{pushed, nothing_there}
use Rattle.declaration_cycles.proofs.members.push_module_members.Goals as goal
use Rattle.declaration_cycles.proofs.members.push_module_members.Goals.{in-Some+in_ok-push_clauses+in_ok-push_apart, in_default}

pub loop-number-preserved : goal.loop-number-preserved
loop-number-preserved c =
    let modules = c.args.program.now.modules in
    let n = c.loop-number.number in
    let piece = λ (e : ModuleId × Module). edges_apart modules (number same_module modules e.0) (homes_in_module e.1) in
    elim c.match-entry.branch [
      | in-Some+in_ok-push_clauses+in_ok-push_apart w ↦
          let homes : w.as_slice-in-Some.result.now ≡ homes_in_module w.in-Some.declaration.now =
          w.as_slice-in-Some.ensures.value ∙ w.in_ok-push_clauses.ensures ∙ (λ i. w.new-homes.ensures.items i ++ homes_in_clauses (w.as_slice.ensures i)) in
          ap (λ (v : Vec Edge _). v.items) w.into-is
          ∙ pushed piece modules n (w.in-Some.id.now, w.in-Some.declaration.now) c.args.into.now.items c.loop-number.into.items w.push_apart.new.into.items
          (sym w.in-Some.ensures) c.loop-number.invariant
          (w.in_ok-push_apart.ensures ∙ (λ i. c.loop-number.into.items ++ edges_apart modules (w.number-from.ensures i) (homes i)))
      | in_default w ↦ absurd (nothing_there modules n (omega arith) (sym (ap (option_map deref_pair) w.in_default.is) ∙ c.entry.ensures))
    ]
