use Rattle.std.proofs.Common.{arith, ℕ, ◌<◌, inl, inr, length, sym, ◌∙◌, subst}
use Rattle.std.proofs.lemmas.List.{get_or_read}
use Rattle.std.proofs.lemmas.Bool.{cases_eq}
use Rattle.base.specs.declared.cycles.walk.Mark.TheVariants.{Unseen}
use Rattle.base.specs.Walking.{IsSeen}
use Rattle.base.proofs.cycles.walk.walk_all.Goals as goal
use Rattle.base.proofs.cycles.walk.walk_all.Goals.{in-Unseen+in_ok-follow, in_default}

pub loop-root-preserved : goal.loop-root-preserved
loop-root-preserved c =
    let inv = c.loop-root.invariant in
    let root = c.loop-root.root in
    let marks = c.loop-root.walk.marks.items in
    let long = inv.walk.long in
    let b = c.loop-root-test.true in
    let inside : c.loop-root.root < length c.loop-root.walk.marks.items = omega arith in
    elim c.match-index.branch [
      | in-Unseen+in_ok-follow w ↦ (
          let done = w.in_ok-follow.ensures in
          rw w.walk-is (record {
            walk = done.walk;
            path = done.path;
            seen = λ i h. elim (cases_eq i root) [
              | inl e ↦ subst (λ (x : ℕ). IsSeen w.follow.new.self.marks.items x) (sym e) done.root
              | inr d ↦ done.seen i (inv.seen i (omega arith))
            ];
          }))
      | in_default w ↦ (
          let known : IsSeen marks root = (λ u. w.in_default.not-Unseen (get_or_read marks root _ inside c.index.ensures Unseen ∙ u)) in
          rw w.walk-is (record {
            walk = inv.walk;
            path = inv.path;
            seen = λ i h. elim (cases_eq i root) [
              | inl e ↦ subst (λ (x : ℕ). IsSeen marks x) (sym e) known
              | inr d ↦ inv.seen i (omega arith)
            ];
          }))
    ]
