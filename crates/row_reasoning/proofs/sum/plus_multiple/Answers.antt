use Rattle.std.proofs.Common.{sym, true, Some, None, refl, subst, rules}
use mir.Val.{SFits}
use mir.Syntax.{w128}
use Rattle.std.proofs.lemmas.Int.{to_z-of_z}
use Rattle.row_reasoning.specs.Sums.{AddsUp}
use Rattle.row_reasoning.proofs.KeptLemmas.{plus_is}
use Rattle.row_reasoning.proofs.JoiningLemmas.{plus_made, plus_leaves, constant_leaves}
use Rattle.row_reasoning.proofs.sum.plus_multiple.Goals as goal

pub returns-in_default : goal.returns-in_default
returns-in_default c =
    let f : SFits w128 c.args.factor = c.ranges.factor in
    let x : SFits w128 c.args.first.constant = search rules in
    let y : SFits w128 c.args.second.now.constant = search rules in
    constant_leaves c.args.first c.args.factor c.args.second.now (plus_is c.args.first.constant c.args.factor c.args.second.now.constant None (simp to_z-of_z at c.in_default.ensures))

pub returns-then-branch : goal.returns-then-branch
returns-then-branch c =
    let f : SFits w128 c.args.factor = c.ranges.factor in
    let x : SFits w128 c.args.first.constant = search rules in
    let y : SFits w128 c.args.second.now.constant = search rules in
    let s : SFits w128 c.in-Some.constant = search rules in
    let added : AddsUp c.args.factor c.args.first.coefficients.entries c.args.second.now.coefficients.entries c.add_multiple.new.first.entries true = subst (AddsUp c.args.factor c.args.first.coefficients.entries c.args.second.now.coefficients.entries c.add_multiple.new.first.entries) c.if-branch.true (simp to_z-of_z at c.in_ok-add_multiple.ensures) in
    simp to_z-of_z (plus_made c.args.first c.args.factor c.args.second.now (record { is_negated = c.args.first.is_negated; constant = c.in-Some.constant; coefficients = c.add_multiple.new.first }) c.requires refl (sym (plus_is c.args.first.constant c.args.factor c.args.second.now.constant (Some c.in-Some.constant) (simp to_z-of_z at c.in-Some.ensures))) added)

pub returns-else-branch : goal.returns-else-branch
returns-else-branch c =
    let f : SFits w128 c.args.factor = c.ranges.factor in
    plus_leaves c.args.first c.args.factor c.args.second.now (subst (AddsUp c.args.factor c.args.first.coefficients.entries c.args.second.now.coefficients.entries c.add_multiple.new.first.entries) c.if-branch.false (simp to_z-of_z at c.in_ok-add_multiple.ensures))
