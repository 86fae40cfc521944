use Rattle.std.proofs.Common.{◌≡◌, ◌++◌, List, Vec, sym, ◌∙◌, ap, arith}
use Rattle.std.specs.Option.{option_map}
use Rattle.std.specs.Map.Iter.{deref_pair}
use Rattle.program.specs.declared.program.ConstantId.{ConstantId}
use Rattle.program.specs.declared.declaration.Constant.{Constant}
use Rattle.program.specs.declared.program.ModuleId.{ModuleId}
use Rattle.scopes.specs.MemberNames.{same_module}
use Rattle.program.specs.Homes.{constant_home}
use Rattle.declaration_cycles.specs.declared.edges.Edge.{Edge}
use Rattle.declaration_cycles.specs.Naming.{homes_in_constant}
use Rattle.declaration_cycles.specs.Edges.{edges_apart, number}
use Rattle.declaration_cycles.proofs.Naming.{pushed, nothing_there}
use Rattle.declaration_cycles.proofs.members.push_constant_members.Goals as goal
use Rattle.declaration_cycles.proofs.members.push_constant_members.Goals.{in-Some+in_ok-push_constant+in_ok-from+in_ok-push_apart, in_default}

pub loop-number-preserved : goal.loop-number-preserved
loop-number-preserved c =
    let modules = c.args.program.now.modules in
    let entries = c.args.program.now.constants in
    let n = c.loop-number.number in
    let piece = λ (e : ConstantId × Constant). edges_apart modules (number same_module modules (constant_home e.0)) (homes_in_constant e.1) in
    elim c.match-entry.branch [
      | in-Some+in_ok-push_constant+in_ok-from+in_ok-push_apart w ↦
          let from : w.in_ok-from.from ≡ number same_module modules (constant_home w.in-Some.id.now) = w.in_ok-from.ensures ∙ ap (λ (m : ModuleId). number same_module modules m) w.of_constant.ensures in
          let homes : w.as_slice.result.now ≡ homes_in_constant w.in-Some.declaration.now =
          w.as_slice.ensures.value ∙ w.in_ok-push_constant.ensures ∙ ap (λ (xs : List ModuleId). xs ++ homes_in_constant w.in-Some.declaration.now) w.new-homes.ensures.items in
          ap (λ (v : Vec Edge _). v.items) w.into-is
          ∙ pushed piece entries n (w.in-Some.id.now, w.in-Some.declaration.now) c.args.into.now.items c.loop-number.into.items w.push_apart.new.into.items
          (sym w.in-Some.ensures) c.loop-number.invariant
          (w.in_ok-push_apart.ensures ∙ (λ i. c.loop-number.into.items ++ edges_apart modules (from i) (homes i)))
      | in_default w ↦ absurd (nothing_there entries n (omega arith) (sym (ap (option_map deref_pair) w.in_default.is) ∙ c.entry.ensures))
    ]
