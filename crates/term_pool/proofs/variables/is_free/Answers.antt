use Rattle.std.proofs.Common.{◌≡◌, ℕ, false, nat_eq, [], ◌∷◌, ◌++◌, sym, ap, ◌∙◌, rules}
use Rattle.std.specs.HashSet.{contains}
use Rattle.std.proofs.lemmas.List.{nil_from_length}
use Rattle.term_pool.proofs.VariablesWalkLemmas.{walk_begun, walk_done, walk_within, walk_found, walk_next, walk_falls}
use Rattle.term_pool.proofs.variables.is_free.Goals as goal

pub loop-number-init : goal.loop-number-init
loop-number-init c =
    let none : (k : ℕ) → contains nat_eq c.new-seen.result k ≡ false = λ k. search (rules, c.new-seen.ensures.empty) in
    walk_begun c.args.pool.now c.args.variable c.args.top (contains nat_eq c.new-seen.result) c.push.new.self.items (c.in_ok-push.ensures.items ∙ ap (λ xs. xs ++ c.args.top ∷ []) c.new-waiting.ensures.items) c.requires none

pub visit-requires : goal.visit-requires
visit-requires c =
    walk_within c.args.pool.now c.args.variable c.args.top (contains nat_eq c.loop-number.seen) c.loop-number.waiting.items c.pop.new.self.items c.in-Some.number c.in-Some.ensures.items c.loop-number.invariant

pub returns-then-found : goal.returns-then-found
returns-then-found c =
    sym (walk_found c.args.pool.now c.args.variable c.args.top (contains nat_eq c.loop-number.seen) (contains nat_eq c.visit.new.seen) c.loop-number.waiting.items c.pop.new.self.items c.visit.new.waiting.items c.in-Some.number c.in_ok-found.found c.if-found.true c.in-Some.ensures.items c.loop-number.invariant c.in_ok-found.ensures)

pub loop-number-smaller : goal.loop-number-smaller
loop-number-smaller c =
    walk_falls c.args.pool.now c.args.variable (contains nat_eq c.loop-number.seen) (contains nat_eq c.visit.new.seen) c.loop-number.waiting.items c.pop.new.self.items c.visit.new.waiting.items c.in-Some.number c.in_ok-found.found c.if-found.false c.in-Some.ensures.items (walk_within c.args.pool.now c.args.variable c.args.top (contains nat_eq c.loop-number.seen) c.loop-number.waiting.items c.pop.new.self.items c.in-Some.number c.in-Some.ensures.items c.loop-number.invariant) c.in_ok-found.ensures

pub loop-number-preserved : goal.loop-number-preserved
loop-number-preserved c =
    walk_next c.args.pool.now c.args.variable c.args.top (contains nat_eq c.loop-number.seen) (contains nat_eq c.visit.new.seen) c.loop-number.waiting.items c.pop.new.self.items c.visit.new.waiting.items c.in-Some.number c.in_ok-found.found c.if-found.false c.in-Some.ensures.items c.loop-number.invariant c.in_ok-found.ensures

pub returns : goal.returns
returns c =
    sym (walk_done c.args.pool.now c.args.variable c.args.top (contains nat_eq c.loop-number.seen) c.loop-number.waiting.items (nil_from_length c.loop-number.waiting.items (sym c.loop-number.waiting.ok.0 ∙ c.in_default.ensures.cases.0)) c.loop-number.invariant)
