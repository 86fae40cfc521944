use Rattle.std.proofs.Common.{◌++◌, ℕ, length, Option, Some, refl, ◌∙◌, ap}
use Rattle.std.proofs.lemmas.Option.{slice_get_read}
use Rattle.program.specs.declared.program.ModuleId.{ModuleId}
use Rattle.scopes.specs.MemberNames.{same_module}
use Rattle.declaration_cycles.specs.Edges.{edge_apart, number}
use Rattle.declaration_cycles.proofs.Naming.{pushed}
use Rattle.declaration_cycles.proofs.members.push_used.Goals as goal

pub loop-name-preserved : goal.loop-name-preserved
loop-name-preserved c =
    let modules = c.args.program.now.modules in
    let piece = λ (name : ModuleId). edge_apart (Some c.args.from) (number same_module modules name) in
    pushed piece c.args.names.now c.loop-name.name-index c.name-item.result c.args.into.now.items c.loop-name.into.items c.push_edge_apart.new.into.items
    (slice_get_read c.args.names.now (length c.args.names.now) c.loop-name.name-index c.name-item.result refl c.loop-name-test.true c.name-item.is)
    c.loop-name.invariant
    (c.in_ok-push_edge_apart.ensures ∙ ap (λ (o : Option ℕ). c.loop-name.into.items ++ edge_apart (Some c.args.from) o) c.number.ensures)
