use Rattle.std.proofs.Common.{◌+◌, List, length, sym, subst, arith}
use Rattle.std.specs.Prelude.{All}
use Rattle.base.specs.declared.marked_cycles.edge.MarkedEdge.{MarkedEdge}
use Rattle.base.specs.MarkedCycles.{IsOnMarkedCycle, IsWithin}
use Rattle.type_check.proofs.Placing.{if_ok_map}
use Rattle.type_check.proofs.LeadingLaws.{cycle_is, last_within}
use Rattle.type_check.proofs.schemas.leading.leading_to.Goals as goal

pub on_marked_cycle-requires : goal.on_marked_cycle-requires
on_marked_cycle-requires c =
    let last = length c.args.marks.now in
    subst (λ (es : List MarkedEdge). All (IsWithin (last + 1)) es) (sym c.deref.ensures.value)
    (last_within c.args.edges.now c.args.marks.now c.in_ok-all.all.items last last c.in_ok-all.ensures (omega arith) c.requires.within)

pub returns : goal.returns
returns c =
    if_ok_map c.on_marked_cycle.result (λ found on n lt.
    let same = c.deref.ensures.value in
    let first = on n (omega (arith, lt)) in
    let second = cycle_is c.args.edges.now c.in_ok-all.all.items c.args.marks.now c.in_ok-all.ensures c.requires.unmarked c.requires.within n lt in (
      (λ h. second.0 (subst (λ (es : List MarkedEdge). IsOnMarkedCycle es n) same (first.0 h))),
      (λ w. first.1 (subst (λ (es : List MarkedEdge). IsOnMarkedCycle es n) (sym same) (second.1 w))),
    ))
    c.on_marked_cycle.ensures.found
