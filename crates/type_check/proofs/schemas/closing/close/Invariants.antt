use Rattle.std.proofs.Common.{◌-◌, length}
use Rattle.type_check.specs.Closed.{IsClosedTo}
use Rattle.type_check.specs.Closing.{AreReached, AreShallow, Grows}
use Rattle.type_check.specs.Known.{listed}
use Rattle.type_check.proofs.schemas.closing.close.Given as goal

abbrev pub invariant-loop : goal.invariant-loop
invariant-loop l = record {
  closed : IsClosedTo l.program l.closure l.done;
  grows : Grows (listed l.fn.known) (listed l.closure.known);
  reached : AreReached l.program (listed l.fn.known) (listed l.closure.known);
  shallow : AreShallow l.program (length l.program.schemas - l.counter) (listed l.closure.known) l.done;
}
