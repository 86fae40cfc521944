use Rattle.std.proofs.Common.{subst}
use Rattle.std.specs.Prelude.{pos, ◌<ℤ◌, MatchOption}
use Rattle.std.specs.Int.{w128}
use Rattle.std.proofs.lemmas.Int.{to_z-of_z}
use Rattle.std.proofs.lemmas.List.Elements.{All-take}
use Rattle.linear_arith.specs.declared.rows.Fraction.{Fraction}
use Rattle.tableau.specs.PoolBranches.{branch_in}
use Rattle.tree_checks.specs.Firsts.{IsTriggered, IsFirstWith, HasNoneWith}
use Rattle.tree_checks.proofs.BoundsTruthLemmas.{never}
use Rattle.tree_checks.proofs.FirstLemmas.{none_named, first_exactly}
use Rattle.tree_checks.proofs.bounds.firsts.is_first_named.Goals as goal

pub returns-in_default : goal.returns-in_default
returns-in_default c = λ class names. (
    let ks = c.args.classes.now.keys in
    let vs = c.args.values.now in
    let P = IsTriggered ks c.args.name c.args.number in
    let by_call = subst (λ z. MatchOption c.first_triggered.result (HasNoneWith (IsTriggered ks c.args.name z) vs) (IsFirstWith (IsTriggered ks c.args.name z) vs)) (to_z-of_z w128 c.args.number c.ranges.number) c.first_triggered.ensures in
    let none = subst (λ m. MatchOption m (HasNoneWith P vs) (IsFirstWith P vs)) c.in_default.is by_call in
    never (none_named (branch_in c.args.pool.now c.args.branch.now) class ks c.args.name c.args.number vs none))

pub returns : goal.returns
returns c = λ class names. (
    let ks = c.args.classes.now.keys in
    let vs = c.args.values.now in
    let P = IsTriggered ks c.args.name c.args.number in
    let by_call = subst (λ z. MatchOption c.first_triggered.result (HasNoneWith (IsTriggered ks c.args.name z) vs) (IsFirstWith (IsTriggered ks c.args.name z) vs)) (to_z-of_z w128 c.args.number c.ranges.number) c.first_triggered.ensures in
    let first = subst (λ m. MatchOption m (HasNoneWith P vs) (IsFirstWith P vs)) c.in-Some.is by_call in
    let positive = All-take (λ (v : Fraction). pos 0 <ℤ v.denominator) c.in-Some.position vs c.requires.positive in
    first_exactly (branch_in c.args.pool.now c.args.branch.now) class ks c.args.name c.args.number vs c.args.pool.now c.in-Some.position first positive c.in_ok-bound.bound c.is_none.result (c.in_ok-bound.ensures class names) c.is_none.ensures)
