use Rattle.std.proofs.Common.{◌++◌, ◌∷◌, [], Vec, sym, ◌∙◌, ap, arith}
use Rattle.std.specs.Option.{option_map}
use Rattle.std.specs.Map.Iter.{deref_pair}
use Rattle.program.specs.declared.declaration.Module.{Module}
use Rattle.program.specs.declared.program.ModuleId.{ModuleId}
use Rattle.scopes.specs.Uses.{uses_among}
use Rattle.scopes.proofs.Entries.{nothing_there, one_more}
use Rattle.scopes.proofs.module_uses.uses_in_order.Goals as goal
use Rattle.scopes.proofs.module_uses.uses_in_order.Goals.{in-Some+in_ok-uses_among+in_ok-push, in_default}

pub loop-number-preserved : goal.loop-number-preserved
loop-number-preserved c =
    let entries = c.args.program.now.modules in
    let n = c.loop-number.number in
    let used = λ (m : ModuleId × Module). uses_among c.args.all.now m.0 in
    elim c.match-entry.branch [
      | in-Some+in_ok-uses_among+in_ok-push w ↦
          ap (λ (v : Vec _ _). v.items) w.uses-is
          ∙ one_more used entries n (w.in-Some.own.now, w.in-Some.field-0-1.now) c.loop-number.uses.items w.push.new.self.items (sym w.in-Some.ensures) c.loop-number.invariant
          (w.in_ok-push.ensures.items ∙ ap (λ names. c.loop-number.uses.items ++ names ∷ []) w.in_ok-uses_among.ensures)
      | in_default w ↦ absurd (nothing_there entries n (omega arith) (sym (ap (option_map deref_pair) w.in_default.is) ∙ c.entry.ensures))
    ]
