use Rattle.std.proofs.Common.{refl, subst, rules}
use Rattle.std.specs.Prelude.{MatchOption}
use mir.Val.{SFits}
use mir.Syntax.{w128}
use Rattle.std.proofs.lemmas.Int.{to_z-of_z}
use Rattle.row_reasoning.specs.Sums.{IsPlusMultiple, LeavesPlusMultiple}
use Rattle.row_reasoning.proofs.ResultLemmas.{match_map, some_map}
use Rattle.row_reasoning.proofs.JoiningLemmas.{joined_first, joined_first_leaves, joined_second, joined_second_leaves, joined_fits}
use Rattle.row_reasoning.proofs.sum.joined.Goals as goal

pub returns-then-len-clause-is : goal.returns-then-len-clause-is
returns-then-len-clause-is c =
    let f : SFits w128 c.turn-factor.result = search rules in
    match_map _ _ _ _ (joined_first_leaves c.args.first c.args.second c.args.is_difference c.requires.first c.requires.second c.turn-factor.result c.turn-factor.ensures) (joined_first c.args.first c.args.second c.args.is_difference c.requires.first c.requires.second c.turn-factor.result c.turn-factor.ensures) c.plus_multiple.result (simp to_z-of_z at c.plus_multiple.ensures)

pub returns-then-len-clause-fits : goal.returns-then-len-clause-fits
returns-then-len-clause-fits c =
    let f : SFits w128 c.turn-factor.result = search rules in
    some_map _ _ _ (λ r h. joined_fits c.args.is_difference c.args.first c.args.second r (joined_first c.args.first c.args.second c.args.is_difference c.requires.first c.requires.second c.turn-factor.result c.turn-factor.ensures r h)) c.plus_multiple.result (simp to_z-of_z at c.plus_multiple.ensures)

pub returns-in_default-clause-is : goal.returns-in_default-clause-is
returns-in_default-clause-is c =
    let f : SFits w128 c.turn-factor.result = search rules in
    joined_second_leaves c.args.first c.args.second c.args.is_difference c.requires.first c.requires.second c.turn-factor.result c.turn-factor.ensures
    (subst (λ m. MatchOption m (LeavesPlusMultiple c.args.second c.turn-factor.result c.args.first) (IsPlusMultiple c.args.second c.turn-factor.result c.args.first)) c.in_default.is (simp to_z-of_z at c.in_ok-sum.ensures))

pub returns-clause-is : goal.returns-clause-is
returns-clause-is c =
    let f : SFits w128 c.turn-factor.result = search rules in
    let s : SFits w128 c.in-Some.sum.constant = search rules in
    simp to_z-of_z (joined_second c.args.first c.args.second c.args.is_difference c.requires.first c.requires.second c.turn-factor.result c.turn-factor.ensures c.in-Some.sum (record { is_negated = c.turned.result; constant = c.in-Some.sum.constant; coefficients = c.in-Some.sum.coefficients })
    (subst (λ m. MatchOption m (LeavesPlusMultiple c.args.second c.turn-factor.result c.args.first) (IsPlusMultiple c.args.second c.turn-factor.result c.args.first)) c.in-Some.is (simp to_z-of_z at c.in_ok-sum.ensures))
    (record { sign = c.turned.ensures; constant_is = refl; coefficients = refl }))

pub returns-clause-fits : goal.returns-clause-fits
returns-clause-fits c =
    let f : SFits w128 c.turn-factor.result = search rules in
    let s : SFits w128 c.in-Some.sum.constant = search rules in
    simp to_z-of_z (joined_fits c.args.is_difference c.args.first c.args.second _ (joined_second c.args.first c.args.second c.args.is_difference c.requires.first c.requires.second c.turn-factor.result c.turn-factor.ensures c.in-Some.sum (record { is_negated = c.turned.result; constant = c.in-Some.sum.constant; coefficients = c.in-Some.sum.coefficients })
    (subst (λ m. MatchOption m (LeavesPlusMultiple c.args.second c.turn-factor.result c.args.first) (IsPlusMultiple c.args.second c.turn-factor.result c.args.first)) c.in-Some.is (simp to_z-of_z at c.in_ok-sum.ensures))
    (record { sign = c.turned.ensures; constant_is = refl; coefficients = refl })))
