use Rattle.std.proofs.Common.{rules, ◌≡◌, ◌<◌, ◌++◌, ◌∷◌, [], List, length, take, FitsSigned, sym, subst, arith}
use Rattle.std.specs.Int.{w128}
use Rattle.std.proofs.lemmas.List.{take_all}
use Rattle.linear_arith.specs.Inequality.{Inequality}
use Rattle.step_checks.specs.declared.elimination.bounds.Bound.{Bound}
use Rattle.step_checks.specs.Choices.{AreBounds}
use Rattle.step_checks.proofs.SetLemmas.{rows_more}
use Rattle.step_checks.proofs.ChoiceLemmas.{none_given, bounds_with, bounds_same}
use Rattle.step_checks.proofs.elimination.choices.bounds_of.Goals as goal
use Rattle.step_checks.proofs.elimination.choices.bounds_of.Goals.{in-Some+in_ok-push, in_default}

pub loop-i-init : goal.loop-i-init
loop-i-init c = subst (λ (bs : List Bound). AreBounds [] c.args.before.now c.args.values.now c.args.unknown bs) (sym c.new-bounds.ensures.items) (none_given c.args.before.now c.args.values.now c.args.unknown)

pub loop-i-preserved : goal.loop-i-preserved
loop-i-preserved c =
    let rows = c.args.rows.now in
    let before = c.args.before.now in
    let values = c.args.values.now in
    let u = c.args.unknown in
    let i = c.loop-i.i in
    let row = c.at.result.now in
    let old = c.loop-i.bounds.items in
    let l : i < length rows = omega arith in
    let more = rows_more rows i row l c.at.ensures in
    elim c.match-branch-2.branch [
      | in-Some+in_ok-push w ↦
          let now = w.in-Some.bound in
          let is = rw w.in-Some.is at c.in_ok-bound.ensures.some in
          let fc : FitsSigned w128 now.coefficient = search rules in
          let fb : FitsSigned w128 now.bound = search rules in
          let pushed : w.push.new.self.items ≡ old ++ now ∷ [] = w.in_ok-push.ensures.items in
          rw (w.bounds-is, pushed) (subst (λ (rs : List Inequality). AreBounds rs before values u (old ++ now ∷ [])) (sym more) (bounds_with (take i rows) before values u row old now c.requires is c.loop-i.invariant))
      | in_default w ↦
          let none = rw w.in_default.is at c.in_ok-bound.ensures.none in
          rw w.bounds-is (subst (λ (rs : List Inequality). AreBounds rs before values u old) (sym more) (bounds_same (take i rows) before values u row old none c.loop-i.invariant))
    ]

pub returns : goal.returns
returns c = subst (λ (rs : List Inequality). AreBounds rs c.args.before.now c.args.values.now c.args.unknown c.loop-i.bounds.items) (take_all c.loop-i.i c.args.rows.now (omega arith)) c.loop-i.invariant
