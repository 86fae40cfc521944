use Rattle.std.proofs.Common.{◌≡◌, ◌≤◌, drop, length}
use Rattle.report.specs.ReportText.{hexadecimal}
use Rattle.report.proofs.Hexadecimal.{hexadecimal_onto}
use Rattle.report.proofs.text.encode_hexadecimal.Given as goal

-- the digits written so far follow those that the rest has
abbrev pub invariant-loop-start : goal.invariant-loop-start
invariant-loop-start l = record {
  within : l.start ≤ 64;
  whole : length l.out ≡ 64;
  value : hexadecimal_onto l.start l.rest (drop l.start l.out) ≡ hexadecimal l.number;
}

abbrev pub decreases-loop-start : goal.decreases-loop-start
decreases-loop-start l = l.start
