use Rattle.std.proofs.Common.{◌+◌, ◌*◌}
use Rattle.proving_tests.proofs.axioms_tests.+read.Given as goal

abbrev pub decreases-read_term : goal.decreases-read_term
decreases-read_term l = 4 * l.fuel

abbrev pub decreases-read_other : goal.decreases-read_other
decreases-read_other l = 4 * l.fuel + 2

abbrev pub decreases-read_part : goal.decreases-read_part
decreases-read_part l = 4 * l.fuel + 1

abbrev pub decreases-read_formula : goal.decreases-read_formula
decreases-read_formula l = 4 * l.fuel

abbrev pub decreases-read_compare : goal.decreases-read_compare
decreases-read_compare l = 4 * l.fuel + 2

abbrev pub decreases-read_sides : goal.decreases-read_sides
decreases-read_sides l = 4 * l.fuel + 2

abbrev pub decreases-read_side : goal.decreases-read_side
decreases-read_side l = 4 * l.fuel + 1

abbrev pub decreases-read_list : goal.decreases-read_list
decreases-read_list l = 4 * l.fuel + 2
