use Rattle.std.proofs.Common.{◌≡◌, ◌<◌, ◌≤◌, ◌+◌, ℕ, List, ◌∷◌, length, reverse, refl, sym, ap, subst, ◌∙◌, arith}
use Rattle.std.proofs.lemmas.List.{get_or_read, length-reverse}
use Rattle.unification.specs.Slots.{slot_at}
use Rattle.unification.proofs.Becoming.{slot_read}
use Rattle.unification.specs.Walking.{first_part, part_count}
use Rattle.unification.proofs.Stepping.{reverse_push, parts_within, parts_read, next_read, goes_settled, goes_further, goes_round}
use Rattle.unification.proofs.walk.Walk.step.Goals as goal

pub returns-then-ranked-parts : goal.returns-then-ranked-parts
returns-then-ranked-parts c =
    let slots = c.args.slots.now in
    let at = c.args.at in
    let ranks = c.args.self.now.ranks.items in
    let seen = c.args.self.now.seen.items in
    let k = c.ranked_parts-ranked.result in
    let lt : at < length slots = c.requires.way.variables.0 in
    let known : at < length seen = subst (λ (n : ℕ). c.args.at < n) (sym c.requires.walk.long) lt in
    let e = slot_read slots at c.index-slots-at.result lt c.index-slots-at.is in
    let ef = c.slot_parts-parts.ensures.first ∙ sym (ap first_part e) in
    let ec = c.slot_parts-parts.ensures.count ∙ sym (ap part_count e) in
    let ek = get_or_read seen at _ known c.index.ensures 0 in
    goes_settled slots c.args.start at k ranks c.args.self.now.order.items seen (reverse c.args.self.now.way.items) c.settle.new.self c.requires.fits c.requires.walk c.requires.way
    (c.if-ranked-parts.true ∙ ec) (parts_read slots at c.slot_parts-parts.result.first k c.index.result.now ranks seen c.deref.result.now c.deref.ensures.value ef ek c.ranked_parts-ranked.ensures.ranked)
    c.in_ok-settle.ensures.ranks c.in_ok-settle.ensures.order c.in_ok-settle.ensures.seen (ap reverse c.in_ok-settle.ensures.way)

pub returns-then-len-slots : goal.returns-then-len-slots
returns-then-len-slots c = goes_round c.args.slots.now c.args.start c.args.at c.args.self.now.ranks.items (reverse c.args.self.now.way.items) c.requires.fits c.requires.way
    (let l = length-reverse c.args.self.now.way.items in omega (arith, l, c.if-len-slots.true))

pub overflow_add-parts : goal.overflow_add-parts
overflow_add-parts c =
    let lt : c.args.at < length c.args.slots.now = c.requires.way.variables.0 in
    let e = slot_read c.args.slots.now c.args.at c.index-slots-at.result lt c.index-slots-at.is in
    let ef = c.slot_parts-parts.ensures.first ∙ sym (ap first_part e) in
    let ec = c.slot_parts-parts.ensures.count ∙ sym (ap part_count e) in
    let h = parts_within c.args.slots.now c.args.at c.requires.fits lt in
    omega (arith, ef, ec, h, c.ranked_parts-ranked.ensures.most)

pub returns : goal.returns
returns c =
    let slots = c.args.slots.now in
    let at = c.args.at in
    let ranks = c.args.self.now.ranks.items in
    let seen = c.args.self.now.seen.items in
    let way = c.args.self.now.way.items in
    let k = c.ranked_parts-ranked.result in
    let first = c.slot_parts-parts.result.first in
    let lt : at < length slots = c.requires.way.variables.0 in
    let known : at < length seen = subst (λ (n : ℕ). c.args.at < n) (sym c.requires.walk.long) lt in
    let e = slot_read slots at c.index-slots-at.result lt c.index-slots-at.is in
    let ef : c.slot_parts-parts.result.first ≡ first_part (slot_at c.args.slots.now c.args.at) = c.slot_parts-parts.ensures.first ∙ sym (ap first_part e) in
    let ec : c.slot_parts-parts.result.count ≡ part_count (slot_at c.args.slots.now c.args.at) = c.slot_parts-parts.ensures.count ∙ sym (ap part_count e) in
    let ek = get_or_read seen at _ known c.index.ensures 0 in
    let most : c.ranked_parts-ranked.result ≤ c.slot_parts-parts.result.count = c.ranked_parts-ranked.ensures.most in
    let less : c.ranked_parts-ranked.result < c.slot_parts-parts.result.count = omega (arith, most, c.if-ranked-parts.false) in
    let l = length-reverse c.args.self.now.way.items in
    let pushed = reverse_push c.push.new.self.items c.push-2.new.self.items (first + k) c.in_ok-push-2.ensures.items ∙ ap (λ (w : List ℕ). (c.slot_parts-parts.result.first + c.ranked_parts-ranked.result) ∷ w) (reverse_push way c.push.new.self.items at c.in_ok-push.ensures.items) in
    goes_further slots c.args.start at k ranks c.args.self.now.order.items seen (reverse way) _ c.requires.fits c.requires.walk c.requires.way
    (subst (λ (n : ℕ). c.ranked_parts-ranked.result < n) ec less)
    (parts_read slots at first k c.index.result.now ranks seen c.deref.result.now c.deref.ensures.value ef ek c.ranked_parts-ranked.ensures.ranked)
    (next_read slots at first k ranks c.deref.result.now c.deref.ensures.value ef (c.ranked_parts-ranked.ensures.next less))
    (omega (arith, l, c.if-len-slots.false)) refl refl refl
    (pushed ∙ ap (λ (x : ℕ). (x + c.ranked_parts-ranked.result) ∷ c.args.at ∷ reverse c.args.self.now.way.items) ef)
