use Rattle.ability_rules.specs.Rows.{AreRows}
use Rattle.ability_rules.proofs.polymorphic_recursion.rows.rows_of.Given as goal

abbrev pub invariant-loop-number : goal.invariant-loop-number
invariant-loop-number l = AreRows l.program l.known l.rows.items l.number l.count
