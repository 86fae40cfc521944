use Rattle.std.proofs.Common.{take}
use Rattle.type_check.specs.Closed.{Links}
use Rattle.type_check.specs.Known.{IsKeyed, listed}
use Rattle.type_check.proofs.schemas.closing.link.Given as goal

abbrev pub invariant-loop-one : goal.invariant-loop-one
invariant-loop-one l = record {
  keyed : IsKeyed l.known;
  links : Links (listed l.fn.known) (listed l.known) l.fn.edges.items l.edges.items l.number (take l.one-index l.judged);
}
