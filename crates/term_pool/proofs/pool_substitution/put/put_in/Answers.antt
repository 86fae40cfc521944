use Rattle.std.proofs.Common.{◌≡◌, ℕ, ◌+◌, None, nat_eq, sym, ap, ◌∙◌, subst, arith, rules, length, length-append}
use Rattle.std.specs.HashMap.{get}
use Rattle.std.proofs.lemmas.List.{nil_from_length}
use Rattle.term_pool.proofs.GrowthLemmas.{extends_itself, extends_then}
use Rattle.term_pool.proofs.PoolSubstitutionItemLemmas.{values_stay}
use Rattle.term_pool.proofs.PoolSubstitutionWalkLemmas.{IsStack, Bottom, Above, without, within, bottom_is, has_none, popped, stack_kept, fewer, falls_down, falls_made, values_more, none_yet, walk_done, made_value, more_of}
use Rattle.term_pool.proofs.pool_substitution.put.put_in.Goals as goal

pub loop-waiting-init : goal.loop-waiting-init
loop-waiting-init c =
    let none : (n : ℕ) → get nat_eq c.new-values.result n ≡ None = λ n. search (rules, c.new-values.ensures.empty) in
    record {
      extends = extends_itself c.args.pool.now;
      values = none_yet c.args.pool.now c.args.put (get nat_eq c.new-values.result) c.requires.term none;
      stack = subst (λ ws. IsStack (get nat_eq c.new-values.result) c.args.top ws c.args.top) (sym c.new-waiting.ensures.items) (Bottom (none c.args.top));
    }

pub put_at-requires-clause-within : goal.put_at-requires-clause-within
put_at-requires-clause-within c =
    let below = within (get nat_eq c.loop-waiting.values) c.args.top c.loop-waiting.waiting.items c.loop-waiting.number c.loop-waiting.invariant.stack in
    let longer = ap length c.loop-waiting.invariant.extends.is in
    omega (arith, below, longer, length-append c.args.pool.now c.loop-waiting.invariant.extends.more, c.requires.within)

pub loop-waiting-smaller-in-Lacks : goal.loop-waiting-smaller-in-Lacks
loop-waiting-smaller-in-Lacks c =
    falls_down (without (get nat_eq c.loop-waiting.values) (c.args.top + 1)) (c.args.top + 1) c.loop-waiting.number c.in-Lacks.part (rw c.in-Lacks.is at c.in_ok-part.ensures.is).0

pub loop-waiting-preserved-in-Lacks : goal.loop-waiting-preserved-in-Lacks
loop-waiting-preserved-in-Lacks c =
    let turn = rw c.in-Lacks.is at c.in_ok-part.ensures.is in
    record {
      extends = extends_then c.loop-waiting.invariant.extends c.put_at.ensures.extends;
      values = values_stay c.loop-waiting.pool c.put_at.new.pool c.args.put (get nat_eq c.loop-waiting.values) c.put_at.ensures.extends c.loop-waiting.invariant.values;
      stack = subst (λ zs. IsStack (get nat_eq c.loop-waiting.values) c.args.top zs c.in-Lacks.part) (sym c.in_ok-push-in-Lacks.ensures.items) (Above c.loop-waiting.waiting.items c.loop-waiting.number c.in-Lacks.part c.loop-waiting.invariant.stack turn.0 turn.1);
    }

pub loop-waiting-smaller : goal.loop-waiting-smaller
loop-waiting-smaller c =
    let f = get nat_eq c.loop-waiting.values in
    let g = get nat_eq c.insert.new.self in
    let more = more_of f g c.loop-waiting.number c.in-Made.made c.in_ok-insert.ensures.updates.1 c.in_ok-insert.ensures.updates.2 in
    let below = within f c.args.top c.loop-waiting.waiting.items c.loop-waiting.number c.loop-waiting.invariant.stack in
    let next = popped f c.args.top c.loop-waiting.waiting.items c.loop-waiting.number c.loop-waiting.invariant.stack c.pop.new.self.items c.in-Some.next c.in-Some.ensures.items in
    let next_below = within f c.args.top c.pop.new.self.items c.in-Some.next next.stack in
    falls_made (without g (c.args.top + 1)) (without f (c.args.top + 1)) (c.args.top + 1) c.loop-waiting.number c.in-Some.next (fewer f g c.loop-waiting.number c.in-Made.made (c.args.top + 1) more (has_none f c.args.top c.loop-waiting.waiting.items c.loop-waiting.number c.loop-waiting.invariant.stack) (omega (arith, below))) (omega (arith, next_below))

pub loop-waiting-preserved : goal.loop-waiting-preserved
loop-waiting-preserved c =
    let f = get nat_eq c.loop-waiting.values in
    let g = get nat_eq c.insert.new.self in
    let more = more_of f g c.loop-waiting.number c.in-Made.made c.in_ok-insert.ensures.updates.1 c.in_ok-insert.ensures.updates.2 in
    let below = within f c.args.top c.loop-waiting.waiting.items c.loop-waiting.number c.loop-waiting.invariant.stack in
    let next = popped f c.args.top c.loop-waiting.waiting.items c.loop-waiting.number c.loop-waiting.invariant.stack c.pop.new.self.items c.in-Some.next c.in-Some.ensures.items in
    let grown = extends_then c.loop-waiting.invariant.extends c.put_at.ensures.extends in
    record {
      extends = grown;
      values = values_more c.put_at.new.pool c.args.put f g c.loop-waiting.number c.in-Made.made (values_stay c.loop-waiting.pool c.put_at.new.pool c.args.put f c.put_at.ensures.extends c.loop-waiting.invariant.values) more (made_value c.args.pool.now c.put_at.new.pool c.args.put c.loop-waiting.number c.in-Made.made grown (omega (arith, below, c.requires.within)) (rw c.in-Made.is at c.in_ok-part.ensures.is));
      stack = stack_kept f c.args.top g c.loop-waiting.number c.in-Made.made more c.pop.new.self.items c.in-Some.next next.stack next.less;
    }

pub returns-in_default-clause-is : goal.returns-in_default-clause-is
returns-in_default-clause-is c =
    walk_done c.args.pool.now c.put_at.new.pool c.args.put c.args.top c.loop-waiting.number c.in-Made.made (extends_then c.loop-waiting.invariant.extends c.put_at.ensures.extends) c.requires.term c.requires.within (bottom_is (get nat_eq c.loop-waiting.values) c.args.top c.loop-waiting.waiting.items c.loop-waiting.number c.loop-waiting.invariant.stack (nil_from_length c.loop-waiting.waiting.items (sym c.loop-waiting.waiting.ok.0 ∙ c.in_default.ensures.cases.0))) (rw c.in-Made.is at c.in_ok-part.ensures.is)
