use Rattle.std.proofs.Common.{◌≡◌, ◌++◌, List, Vec, sym, ◌∙◌, ap, arith}
use Rattle.std.specs.Option.{option_map}
use Rattle.std.specs.Map.Iter.{deref_pair}
use Rattle.base.specs.declared.types.StructId.{StructId}
use Rattle.program.specs.declared.declaration.Struct.{Struct}
use Rattle.program.specs.declared.program.ModuleId.{ModuleId}
use Rattle.scopes.specs.MemberNames.{same_module}
use Rattle.program.specs.Homes.{struct_home}
use Rattle.declaration_cycles.specs.declared.edges.Edge.{Edge}
use Rattle.declaration_cycles.specs.Naming.{homes_in_struct}
use Rattle.declaration_cycles.specs.Edges.{edges_apart, number}
use Rattle.declaration_cycles.proofs.Naming.{pushed, nothing_there}
use Rattle.declaration_cycles.proofs.members.push_struct_members.Goals as goal
use Rattle.declaration_cycles.proofs.members.push_struct_members.Goals.{in-Some+in_ok-push_struct+in_ok-from+in_ok-push_apart, in_default}

pub loop-number-preserved : goal.loop-number-preserved
loop-number-preserved c =
    let modules = c.args.program.now.modules in
    let entries = c.args.program.now.structs in
    let n = c.loop-number.number in
    let piece = λ (e : StructId × Struct). edges_apart modules (number same_module modules (struct_home e.0)) (homes_in_struct e.1) in
    elim c.match-entry.branch [
      | in-Some+in_ok-push_struct+in_ok-from+in_ok-push_apart w ↦
          let from : w.in_ok-from.from ≡ number same_module modules (struct_home w.in-Some.id.now) = w.in_ok-from.ensures ∙ ap (λ (m : ModuleId). number same_module modules m) w.of_struct.ensures in
          let homes : w.as_slice.result.now ≡ homes_in_struct w.in-Some.declaration.now =
          w.as_slice.ensures.value ∙ w.in_ok-push_struct.ensures ∙ ap (λ (xs : List ModuleId). xs ++ homes_in_struct w.in-Some.declaration.now) w.new-homes.ensures.items in
          ap (λ (v : Vec Edge _). v.items) w.into-is
          ∙ pushed piece entries n (w.in-Some.id.now, w.in-Some.declaration.now) c.args.into.now.items c.loop-number.into.items w.push_apart.new.into.items
          (sym w.in-Some.ensures) c.loop-number.invariant
          (w.in_ok-push_apart.ensures ∙ (λ i. c.loop-number.into.items ++ edges_apart modules (from i) (homes i)))
      | in_default w ↦ absurd (nothing_there entries n (omega arith) (sym (ap (option_map deref_pair) w.in_default.is) ∙ c.entry.ensures))
    ]
