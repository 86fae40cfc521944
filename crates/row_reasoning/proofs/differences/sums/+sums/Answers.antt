use Rattle.std.proofs.Common.{nat_eq, arith}
use Rattle.indexmap.specs.IndexMap.{get}
use Rattle.term_pool.proofs.GrowthLemmas.{extends_itself, extends_then}
use Rattle.tableau.specs.Marks.{Itself}
use Rattle.row_reasoning.specs.DifferencesSums.{OfNumeral}
use Rattle.row_reasoning.proofs.StandInLemmas.{number_grown, have_grown}
use Rattle.row_reasoning.proofs.DifferencesSumLemmas.{first_number, second_number, first_has, second_has, stands_in, chosen_of, sums_grown, put_parts, put_sum}
use Rattle.row_reasoning.proofs.differences.sums.+sums.Goals as goal

pub joined-chosen_sum-requires : goal.joined-chosen_sum-requires
joined-chosen_sum-requires t c = (
  omega (arith, c.decreases, c.requires.sum.made.parts.0.earlier),
  (
    first_number c.args.pool.now c.args.term c.args.pair c.requires.sum,
    (
      first_has c.args.pool.now c.args.term c.args.pair c.requires.sum c.args.choice.classes.now c.args.choice.names.now (get nat_eq c.args.choice.chosen.now) c.requires.chosen,
      c.requires.sums,
    ),
  ),
)

pub joined-chosen_sum-requires-2 : goal.joined-chosen_sum-requires-2
joined-chosen_sum-requires-2 t c =
    let second = second_number c.args.pool.now c.args.term c.args.pair c.requires.sum in (
      omega (arith, c.decreases, c.requires.sum.made.parts.1.earlier),
      (
        number_grown c.args.pool.now c.chosen_sum.new.pool c.in_ok-first.ensures.extends c.args.pair.second second,
        (
          have_grown c.args.pool.now c.chosen_sum.new.pool c.in_ok-first.ensures.extends c.args.choice.classes.now c.args.choice.names.now (get nat_eq c.args.choice.chosen.now) c.args.pair.second second.within
              (second_has c.args.pool.now c.args.term c.args.pair c.requires.sum c.args.choice.classes.now c.args.choice.names.now (get nat_eq c.args.choice.chosen.now) c.requires.chosen),
          c.in_ok-first.ensures.sums,
        ),
      ),
    )

pub joined-insert-requires : goal.joined-insert-requires
joined-insert-requires t c = put_parts c.args.pool.now c.chosen_sum.new.pool c.chosen_sum-2.new.pool c.chosen_sum-2.new.pool c.in_ok-first.ensures.extends c.in_ok-second.ensures.extends (extends_itself c.chosen_sum-2.new.pool) c.args.choice.classes.now c.args.choice.names.now (get nat_eq c.args.choice.chosen.now) c.args.term c.args.pair c.requires.sum c.in_ok-first.first c.in_ok-second.second c.in_ok-first.ensures.is c.in_ok-second.ensures.is

pub joined-returns-clause-sums : goal.joined-returns-clause-sums
joined-returns-clause-sums t c = sums_grown c.chosen_sum-2.new.pool c.insert.new.self c.insert.ensures.extends c.args.choice.classes.now c.args.choice.names.now (get nat_eq c.args.choice.chosen.now) (get nat_eq c.chosen_sum-2.new.sums) c.in_ok-second.ensures.sums

pub joined-returns-clause-is : goal.joined-returns-clause-is
joined-returns-clause-is t c = put_sum c.args.pool.now c.chosen_sum.new.pool c.chosen_sum-2.new.pool c.insert.new.self c.in_ok-first.ensures.extends c.in_ok-second.ensures.extends c.insert.ensures.extends c.args.choice.classes.now c.args.choice.names.now (get nat_eq c.args.choice.chosen.now) c.args.term c.args.pair c.requires.sum c.in_ok-first.first c.in_ok-second.second c.in_ok-first.ensures.is c.in_ok-second.ensures.is c.in_ok-number.number
    (extends_then (extends_then c.in_ok-first.ensures.extends c.in_ok-second.ensures.extends) c.insert.ensures.extends) c.in_ok-number.ensures.is

pub new_sum-chosen_for-requires-clause-named : goal.new_sum-chosen_for-requires-clause-named
new_sum-chosen_for-requires-clause-named t c = (c.requires.chosen.each c.args.term Itself c.requires.term c.in-Unknown.ensures).named

pub new_sum-chosen_for-requires-clause-chosen : goal.new_sum-chosen_for-requires-clause-chosen
new_sum-chosen_for-requires-clause-chosen t c = chosen_of c.args.pool.now c.args.choice.classes.now c.args.choice.names.now (get nat_eq c.args.choice.chosen.now) c.args.term (c.requires.chosen.each c.args.term Itself c.requires.term c.in-Unknown.ensures)

pub new_sum-returns-in-Unknown-clause-is : goal.new_sum-returns-in-Unknown-clause-is
new_sum-returns-in-Unknown-clause-is t c = stands_in c.args.pool.now c.args.choice.classes.now c.args.choice.names.now (get nat_eq c.args.choice.chosen.now) c.args.term c.chosen_for.result (c.requires.chosen.each c.args.term Itself c.requires.term c.in-Unknown.ensures) c.chosen_for.ensures

pub new_sum-returns-in-Numeral-clause-is : goal.new_sum-returns-in-Numeral-clause-is
new_sum-returns-in-Numeral-clause-is t c = OfNumeral c.args.term c.requires.term c.in-Numeral.ensures
