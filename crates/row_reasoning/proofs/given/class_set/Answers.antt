use Rattle.std.proofs.Common.{◌≡◌, ◌+◌, cond, get_or, length, refl, sym, subst, ◌∙◌}
use Rattle.std.proofs.lemmas.List.{take_all}
use Rattle.row_reasoning.specs.Rows.{AreDifferent}
use Rattle.row_reasoning.proofs.StateLemmas.{no_classes}
use Rattle.row_reasoning.proofs.GivenLemmas.{set_more, stands_twice}
use Rattle.row_reasoning.proofs.given.class_set.Goals as goal

pub loop-class-init : goal.loop-class-init
loop-class-init c = record { keys_are = c.new-set.ensures.empty; different = subst AreDifferent (sym c.new-set.ensures.empty) no_classes }

pub loop-class-preserved : goal.loop-class-preserved
loop-class-preserved c =
    let e = c.in_ok-is_new.ensures in
    set_more c.args.given.now c.loop-class.class-index c.loop-class.set.keys c.insert_full.new.self.keys (get_or c.args.given.now c.loop-class.class-index 0) c.in_ok-is_new.field-0-0 e.stored.0 c.loop-class-test.true refl c.loop-class.invariant e.keys e.unique e.stored.1 e.stored.2
    (subst (λ b. length c.insert_full.new.self.keys ≡ length c.loop-class.set.keys + cond b 1 0) c.if-not-is_new.false e.len)

pub returns-then-not-is_new : goal.returns-then-not-is_new
returns-then-not-is_new c =
    let e = c.in_ok-is_new.ensures in
    stands_twice c.args.given.now c.loop-class.class-index c.loop-class.set.keys c.insert_full.new.self.keys (get_or c.args.given.now c.loop-class.class-index 0) c.in_ok-is_new.field-0-0 e.stored.0 c.loop-class-test.true refl c.loop-class.invariant e.keys e.unique e.stored.1 e.stored.2
    (subst (λ b. length c.insert_full.new.self.keys ≡ length c.loop-class.set.keys + cond b 1 0) c.if-not-is_new.true e.len)

pub returns : goal.returns
returns c =
    let all = take_all c.loop-class.class-index c.args.given.now c.loop-class-test.false in
    record { keys_are = c.loop-class.invariant.keys_are ∙ all; different = subst AreDifferent (c.loop-class.invariant.keys_are ∙ all) c.loop-class.invariant.different }
