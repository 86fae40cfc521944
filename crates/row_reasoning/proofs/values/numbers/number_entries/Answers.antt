use Rattle.std.proofs.Common.{◌+◌, sym, subst, arith, nat_eq}
use Rattle.indexmap.specs.IndexMap.{get}
use Rattle.row_reasoning.proofs.NumberLemmas.{AreFirstNumbers, numbers_more, numbers_same, numbers_past, numbers_done}
use Rattle.row_reasoning.proofs.values.numbers.number_entries.Goals as goal
use Rattle.row_reasoning.proofs.values.numbers.number_entries.Goals.{in-Some+in-Some-number_said+in_ok-note, in-Some+in_default-number_said, in_default}

pub number_said-requires : goal.number_said-requires
number_said-requires c = c.requires.over.formulas c.loop-number.number c.in-Some.entry (sym c.in-Some.ensures)

pub loop-number-preserved : goal.loop-number-preserved
loop-number-preserved c =
    let ns = c.args.pool.now in
    let d = c.args.branch.now in
    let names = c.args.names.now in
    let k = c.loop-number.number in
    let found = get nat_eq c.loop-number.found in
    elim c.match-entry.branch [
      | in-Some+in-Some-number_said+in_ok-note w ↦ subst (λ m. AreFirstNumbers ns d names (k + 1) (get nat_eq m)) (sym w.found-is) (numbers_more ns d names k w.in-Some.entry w.in-Some-number_said.term found (get nat_eq w.note.new.found) c.loop-number.invariant (sym w.in-Some.ensures) w.in-Some-number_said.ensures w.in_ok-note.ensures)
      | in-Some+in_default-number_said w ↦ subst (λ m. AreFirstNumbers ns d names (k + 1) (get nat_eq m)) (sym w.found-is) (numbers_same ns d names k w.in-Some.entry found c.loop-number.invariant (sym w.in-Some.ensures) w.in_default-number_said.ensures)
      | in_default w ↦ subst (λ m. AreFirstNumbers ns d names (k + 1) (get nat_eq m)) (sym w.found-is) (numbers_past ns d names k found c.loop-number.invariant (sym w.in_default.ensures))
    ]

pub returns : goal.returns
returns c = numbers_done c.args.pool.now c.args.branch.now c.args.names.now c.loop-number.number (get nat_eq c.loop-number.found) (omega (arith, c.len-number-end.ensures, c.loop-number-test.false)) c.loop-number.invariant
