use Rattle.std.proofs.Common.{◌<◌, length, sym, ◌∙◌, ap, arith, subst}
use Rattle.std.specs.Option.{option_map}
use Rattle.std.specs.Map.Iter.{deref_pair}
use Rattle.program.specs.FieldNumbers.{AreNumbers}
use Rattle.program.proofs.NumberLemmas.{nothing_there, paired_next}
use Rattle.program.proofs.field_numbers.FieldNumbers.new.Goals as goal
use Rattle.program.proofs.field_numbers.FieldNumbers.new.Goals.{in-Some+in_ok-numbers_of+in_ok-push, in_default}

pub loop-number-preserved : goal.loop-number-preserved
loop-number-preserved c =
    let structs = c.args.structs.now in
    let n = c.loop-number.number in
    let below : n < length structs = (let t = c.loop-number-test.true in let is = c.len-number-end.ensures in omega (arith, t, is)) in
    elim c.match-entry.branch [
      | in-Some+in_ok-numbers_of+in_ok-push w ↦
          paired_next structs n _ c.loop-number.all.items c.match-entry.all.items _ c.loop-number.invariant (sym w.in-Some.ensures) (subst (λ fields. AreNumbers fields w.in_ok-numbers_of.field-0) w.as_slice.ensures w.in_ok-numbers_of.ensures)
          (ap (λ ts. ts.items) w.all-is ∙ w.in_ok-push.ensures.items)
      | in_default w ↦ absurd (nothing_there structs n below (sym (ap (option_map deref_pair) w.in_default.is) ∙ c.entry.ensures))
    ]
