use Rattle.std.proofs.Common.{◌∷◌, ◌++◌, [], ap, ◌∙◌, sym, refl, subst, List}
use Rattle.std.specs.Prelude.{Contains}
use Rattle.std.proofs.lemmas.List.Elements.{Contains-push}
use Rattle.linear_arith.proofs.GrowthLemmas.{extended_same, extended_with}
use Rattle.linear_arith.specs.Inequality.{Inequality}
use Rattle.linear_arith.specs.declared.elimination.Elimination.{Elimination}
use Rattle.linear_arith.proofs.StageLemmas.{under_way_with, limit_with, under_way_same, negated, negated_false}
use Rattle.linear_arith.proofs.elimination.Elimination.add.Goals as goal
use Rattle.linear_arith.proofs.elimination.Elimination.add.Goals.{then-branch+in_ok-try_clone+in_ok-push+in_ok-push-2+else-as_slice-ge-MOST_ROWS, else-branch}

pub returns-clause-ok : goal.returns-clause-ok
returns-clause-ok c = λ width rows u d. elim c.if-branch.branch [
  | then-branch+in_ok-try_clone+in_ok-push+in_ok-push-2+else-as_slice-ge-MOST_ROWS w ↦
      let old = c.args.self.now in
      let fresh = negated _ _ c.in_ok-insert.ensures.added w.if-branch.true in
      let found = w.in_ok-push.ensures.ok ∙ ap (λ (r : Inequality). old.found ++ r ∷ []) w.in_ok-try_clone.ensures in
      under_way_with width rows old c.if-branch.self c.args.made c.in_ok-key_of.field-0 u d (ap (λ (e : Elimination). e.unknowns.items) w.self-is) (ap (λ (e : Elimination). e.live.items) w.self-is ∙ w.in_ok-push-2.ensures.items) (ap (λ (e : Elimination). e.found) w.self-is ∙ found) (ap (λ (e : Elimination). e.stages.items) w.self-is) c.in_ok-key_of.ensures fresh (rw w.self-is c.in_ok-insert.ensures.updates) (rw w.self-is (let l = w.if-as_slice-ge-MOST_ROWS.false in rw w.as_slice.ensures at l))
  | else-branch w ↦
      let same = rw w.if-branch.false at c.in_ok-insert.ensures.unchanged in
      rw w.self-is (under_way_same width rows c.args.self.now c.insert.new.self u (sym same))
]

pub returns-then-as_slice-ge-MOST_ROWS-clause-err : goal.returns-then-as_slice-ge-MOST_ROWS-clause-err
returns-then-as_slice-ge-MOST_ROWS-clause-err c = λ width rows u d.
    let old = c.args.self.now in
    let fresh = negated _ _ c.in_ok-insert.ensures.added c.if-branch.true in
    let found = c.in_ok-push.ensures.ok ∙ ap (λ (r : Inequality). old.found ++ r ∷ []) c.in_ok-try_clone.ensures in
    let many = rw c.as_slice.ensures at c.if-as_slice-ge-MOST_ROWS.true in
    (tt, tt, limit_with width rows old c.insert.new.self c.replace-found.result c.args.made c.in_ok-key_of.field-0 u d (c.replace-found.ensures.value ∙ found) c.in_ok-key_of.ensures fresh c.in_ok-insert.ensures.updates (rw c.replace-found.ensures.value many), tt, tt, tt)

pub returns-clause-grown : goal.returns-clause-grown
returns-clause-grown c = λ width rows u d. elim c.if-branch.branch [
  | then-branch+in_ok-try_clone+in_ok-push+in_ok-push-2+else-as_slice-ge-MOST_ROWS w ↦
      let old = c.args.self.now in
      let found = w.in_ok-push.ensures.ok ∙ ap (λ (r : Inequality). old.found ++ r ∷ []) w.in_ok-try_clone.ensures in
      extended_with width rows old c.if-branch.self c.args.made d (ap (λ (e : Elimination). e.unknowns.items) w.self-is) (ap (λ (e : Elimination). e.found) w.self-is ∙ found) (ap (λ (e : Elimination). e.live.items) w.self-is ∙ w.in_ok-push-2.ensures.items) (ap (λ (e : Elimination). e.stages.items) w.self-is)
  | else-branch w ↦ rw w.self-is (extended_same c.args.self.now (record c.args.self.now { keys = c.insert.new.self }) refl refl refl refl)
]

pub returns-clause-added : goal.returns-clause-added
returns-clause-added c = λ width rows u. elim c.if-branch.branch [
  | then-branch+in_ok-try_clone+in_ok-push+in_ok-push-2+else-as_slice-ge-MOST_ROWS w ↦
      let old = c.args.self.now in
      let found = w.in_ok-push.ensures.ok ∙ ap (λ (r : Inequality). old.found ++ r ∷ []) w.in_ok-try_clone.ensures in
      subst (λ (rs : List Inequality). Contains rs c.args.made.row) (sym (ap (λ (e : Elimination). e.found) w.self-is ∙ found)) (Contains-push old.found c.args.made.row)
  | else-branch w ↦
      let there = negated_false _ _ c.in_ok-insert.ensures.added w.if-branch.false in
      rw w.self-is (u.are_found.no_other c.args.made.row (record { key = c.in_ok-key_of.field-0; numbers = c.in_ok-key_of.ensures; stands = there }))
]
