use Rattle.std.proofs.Common.{nat_eq}
use Rattle.indexmap.specs.IndexMap.{get}
use Rattle.term_pool.proofs.GrowthLemmas.{extends_then}
use Rattle.congruence_closure.proofs.OverLemmas.{still_over}
use Rattle.row_reasoning.proofs.StandInLemmas.{under_has, number_grown, have_grown}
use Rattle.row_reasoning.proofs.DifferencesEntryLemmas.{second_number, first_under, second_under, sides_of_entry}
use Rattle.row_reasoning.proofs.differences.entry.comparison_differences.Goals as goal

pub chosen_sum-requires-clause-chosen : goal.chosen_sum-requires-clause-chosen
chosen_sum-requires-clause-chosen c = under_has c.args.pool.now c.args.choice.classes.now c.args.choice.names.now (get nat_eq c.args.choice.chosen.now) c.args.formula c.args.one.pair.first (first_under c.args.pool.now c.args.formula c.requires.formula c.args.one c.requires.comparison) c.requires.chosen

pub chosen_sum-requires-2-clause-term : goal.chosen_sum-requires-2-clause-term
chosen_sum-requires-2-clause-term c = number_grown c.args.pool.now c.chosen_sum.new.pool c.in_ok-first.ensures.extends c.args.one.pair.second (second_number c.args.pool.now c.args.formula c.requires.formula c.args.one c.requires.comparison)

pub chosen_sum-requires-2-clause-chosen : goal.chosen_sum-requires-2-clause-chosen
chosen_sum-requires-2-clause-chosen c =
    have_grown c.args.pool.now c.chosen_sum.new.pool c.in_ok-first.ensures.extends c.args.choice.classes.now c.args.choice.names.now (get nat_eq c.args.choice.chosen.now) c.args.one.pair.second
    (second_number c.args.pool.now c.args.formula c.requires.formula c.args.one c.requires.comparison).within
    (under_has c.args.pool.now c.args.choice.classes.now c.args.choice.names.now (get nat_eq c.args.choice.chosen.now) c.args.formula c.args.one.pair.second (second_under c.args.pool.now c.args.formula c.requires.formula c.args.one c.requires.comparison) c.requires.chosen)

pub side_differences-requires-clause-over : goal.side_differences-requires-clause-over
side_differences-requires-clause-over c = still_over c.args.pool.now c.chosen_sum-2.new.pool c.args.choice.classes.now (extends_then c.in_ok-first.ensures.extends c.in_ok-second.ensures.extends) c.requires.over

pub side_differences-requires-clause-sides : goal.side_differences-requires-clause-sides
side_differences-requires-clause-sides c = sides_of_entry c.args.pool.now c.chosen_sum.new.pool c.chosen_sum-2.new.pool c.in_ok-first.ensures.extends c.in_ok-second.ensures.extends (extends_then c.in_ok-first.ensures.extends c.in_ok-second.ensures.extends) c.args.choice.classes.now c.args.choice.names.now (get nat_eq c.args.choice.chosen.now) c.args.formula c.args.one (record { head = c.args.one.pair.head; first = c.in_ok-first.first; second = c.in_ok-second.second }) c.requires.formula c.requires.comparison c.in_ok-first.ensures.is c.in_ok-second.ensures.is
