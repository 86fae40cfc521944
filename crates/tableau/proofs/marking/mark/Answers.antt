use Rattle.std.proofs.Common.{◌++◌, ◌∷◌, [], sym, ap, ◌∙◌}
use Rattle.std.proofs.lemmas.List.{nil_from_length}
use Rattle.tableau.proofs.MarkLemmas.{walk_begun, walk_within, walk_next, walk_done, walk_falls}
use Rattle.tableau.proofs.marking.mark.Goals as goal

pub loop-number-init : goal.loop-number-init
loop-number-init c =
    walk_begun c.args.pool.now c.args.top c.args.value c.args.log.now c.push.new.self.items (c.in_ok-push.ensures.items ∙ ap (λ xs. xs ++ c.args.top ∷ []) c.new-waiting.ensures.items) c.requires.within c.requires.closed

pub take_turn-requires : goal.take_turn-requires
take_turn-requires c =
    walk_within c.args.pool.now c.args.top c.args.value c.args.log.now c.loop-number.log c.loop-number.waiting.items c.pop.new.self.items c.in-Some.number c.in-Some.ensures.items c.loop-number.invariant

pub loop-number-smaller : goal.loop-number-smaller
loop-number-smaller c =
    walk_falls c.args.pool.now c.args.value c.in-Some.number c.loop-number.log c.take_turn.new.log c.loop-number.waiting.items c.pop.new.self.items c.take_turn.new.waiting.items c.in-Some.ensures.items (walk_within c.args.pool.now c.args.top c.args.value c.args.log.now c.loop-number.log c.loop-number.waiting.items c.pop.new.self.items c.in-Some.number c.in-Some.ensures.items c.loop-number.invariant) c.in_ok-take_turn.ensures

pub loop-number-preserved : goal.loop-number-preserved
loop-number-preserved c =
    walk_next c.args.pool.now c.args.top c.args.value c.args.log.now c.loop-number.log c.take_turn.new.log c.loop-number.waiting.items c.pop.new.self.items c.take_turn.new.waiting.items c.in-Some.number c.in-Some.ensures.items c.loop-number.invariant c.in_ok-take_turn.ensures

pub returns : goal.returns
returns c =
    walk_done c.args.pool.now c.args.top c.args.value c.args.log.now c.loop-number.log c.loop-number.waiting.items (nil_from_length c.loop-number.waiting.items (sym c.loop-number.waiting.ok.0 ∙ c.in_default.ensures.cases.0)) c.loop-number.invariant
