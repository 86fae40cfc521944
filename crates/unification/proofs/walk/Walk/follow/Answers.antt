use Rattle.std.proofs.Common.{rules, ◌≡◌, ◌<◌, ℕ, Bool, List, [], ◌∷◌, ◌++◌, length, reverse, sym, ap, subst, ◌∙◌}
use Rattle.std.proofs.lemmas.List.{get_or_read}
use Rattle.unification.specs.Walking.{BeginsAt, GoesOn, Goes, steps_left}
use Rattle.unification.proofs.Stepping.{reverse_push, way_start, keeps_then}
use Rattle.unification.proofs.walk.Walk.follow.Goals as goal

pub loop-at-init : goal.loop-at-init
loop-at-init c = record {
  walk = c.requires.walk;
  way = way_start c.args.slots.now c.args.start c.args.self.now.ranks.items (reverse c.push.new.self.items)
      (reverse_push c.args.self.now.way.items c.push.new.self.items c.args.start c.in_ok-push.ensures.items ∙ ap (λ (w : List ℕ). c.args.start ∷ reverse w) c.requires.empty)
      c.requires.within (sym (get_or_read c.args.self.now.ranks.items c.args.start _ (subst (λ (n : ℕ). c.args.start < n) (sym c.requires.walk.ranked.same_length) c.requires.within) c.index.ensures 0) ∙ c.if-index-ne0.false);
  keeps = λ p h. h;
}

pub returns-then-not-branch : goal.returns-then-not-branch
returns-then-not-branch c =
    subst (λ (b : Bool). GoesOn c.args.slots.now c.args.start c.loop-at.self.ranks.items (c.in-Some.at ∷ reverse c.pop.new.self.items) c.step.new.self b) c.if-not-branch.true c.in_ok-step.ensures

pub loop-at-preserved : goal.loop-at-preserved
loop-at-preserved c =
    let goes : Goes c.args.slots.now c.args.start c.loop-at.self.ranks.items (c.in-Some.at ∷ reverse c.pop.new.self.items) c.step.new.self =
    subst (λ (b : Bool). GoesOn c.args.slots.now c.args.start c.loop-at.self.ranks.items (c.in-Some.at ∷ reverse c.pop.new.self.items) c.step.new.self b) c.if-not-branch.false c.in_ok-step.ensures in
    record {
      walk = goes.walk;
      way = goes.on_way;
      keeps = keeps_then c.args.self.now.ranks.items c.loop-at.self.ranks.items c.step.new.self.ranks.items c.loop-at.invariant.keeps goes.keeps;
    }

pub loop-at-smaller : goal.loop-at-smaller
loop-at-smaller c =
    let goes : Goes c.args.slots.now c.args.start c.loop-at.self.ranks.items (c.in-Some.at ∷ reverse c.pop.new.self.items) c.step.new.self =
    subst (λ (b : Bool). GoesOn c.args.slots.now c.args.start c.loop-at.self.ranks.items (c.in-Some.at ∷ reverse c.pop.new.self.items) c.step.new.self b) c.if-not-branch.false c.in_ok-step.ensures in
    subst (λ (w : List ℕ). steps_left (length c.args.slots.now) c.step.new.self.ranks.items (reverse c.step.new.self.way.items) < steps_left (length c.args.slots.now) c.loop-at.self.ranks.items w)
    (sym (reverse_push c.pop.new.self.items c.loop-at.self.way.items c.in-Some.at c.in-Some.ensures.items)) goes.less

pub returns : goal.returns
returns c =
    let none : c.pop.new.self.items ≡ [] = search rules in
    record {
      walk = c.loop-at.invariant.walk;
      empty = none;
      keeps = c.loop-at.invariant.keeps;
      start_ranked = subst (λ (way : List ℕ). BeginsAt c.args.start c.loop-at.self.ranks.items (reverse way)) (c.in_default.ensures.items ∙ ap (λ (w : List ℕ). w ++ []) none) c.loop-at.invariant.way.begins;
    }
