use Rattle.std.proofs.Common.{◌++◌, ◌∷◌, [], sym, ap, ◌∙◌, subst}
use Rattle.std.proofs.lemmas.List.{nil_from_length}
use Rattle.ematching.specs.Fits.{IsTurn, IsPair}
use Rattle.ematching.proofs.FitLemmas.{fit_begun, fit_pair, fit_targets, fit_next, fit_done, fit_refused, fit_falls}
use Rattle.ematching.proofs.fits.fits.Goals as goal

pub loop-pattern-init : goal.loop-pattern-init
loop-pattern-init c =
    fit_begun c.args.pool.now c.one_number.ensures c.args.bound.now c.args.pattern c.args.target c.args.values.now c.push.new.self.items (c.in_ok-push.ensures.items ∙ ap (λ xs. xs ++ (c.args.pattern, c.args.target) ∷ []) c.new-waiting.ensures.items) c.requires.pattern c.requires.target c.requires.filling

pub take_turn-requires : goal.take_turn-requires
take_turn-requires c = record {
  pair = fit_pair c.args.pool.now c.one_number.ensures c.args.bound.now c.args.pattern c.args.target c.args.values.now c.loop-pattern.values c.loop-pattern.waiting.items c.pop.new.self.items c.in-Some.pattern c.in-Some.target c.in-Some.ensures.items c.loop-pattern.invariant;
  targets = fit_targets c.args.pool.now c.one_number.ensures c.args.bound.now c.args.pattern c.args.target c.args.values.now c.loop-pattern.values c.loop-pattern.waiting.items c.loop-pattern.invariant;
}

pub loop-pattern-smaller : goal.loop-pattern-smaller
loop-pattern-smaller c =
    let pair : IsPair c.args.pool.now c.in-Some.pattern c.in-Some.target = fit_pair c.args.pool.now c.one_number.ensures c.args.bound.now c.args.pattern c.args.target c.args.values.now c.loop-pattern.values c.loop-pattern.waiting.items c.pop.new.self.items c.in-Some.pattern c.in-Some.target c.in-Some.ensures.items c.loop-pattern.invariant in
    fit_falls c.args.pool.now c.args.bound.now c.loop-pattern.values c.take_turn.new.values c.loop-pattern.waiting.items c.pop.new.self.items c.take_turn.new.waiting.items c.in-Some.pattern c.in-Some.target c.in-Some.ensures.items pair.pattern_within (subst (λ b. IsTurn b c.args.pool.now c.args.bound.now c.in-Some.pattern c.in-Some.target c.loop-pattern.values c.pop.new.self.items c.take_turn.new.values c.take_turn.new.waiting.items) c.if-not-kept.false c.in_ok-kept.ensures)

pub loop-pattern-preserved : goal.loop-pattern-preserved
loop-pattern-preserved c =
    fit_next c.args.pool.now c.one_number.ensures c.args.bound.now c.args.pattern c.args.target c.args.values.now c.loop-pattern.values c.take_turn.new.values c.loop-pattern.waiting.items c.pop.new.self.items c.take_turn.new.waiting.items c.in-Some.pattern c.in-Some.target c.in-Some.ensures.items c.loop-pattern.invariant (subst (λ b. IsTurn b c.args.pool.now c.args.bound.now c.in-Some.pattern c.in-Some.target c.loop-pattern.values c.pop.new.self.items c.take_turn.new.values c.take_turn.new.waiting.items) c.if-not-kept.false c.in_ok-kept.ensures)

pub returns-then-not-kept : goal.returns-then-not-kept
returns-then-not-kept c =
    fit_refused c.args.pool.now c.one_number.ensures c.args.bound.now c.args.pattern c.args.target c.args.values.now c.loop-pattern.values c.take_turn.new.values c.loop-pattern.waiting.items c.pop.new.self.items c.in-Some.pattern c.in-Some.target c.in-Some.ensures.items c.loop-pattern.invariant (subst (λ b. IsTurn b c.args.pool.now c.args.bound.now c.in-Some.pattern c.in-Some.target c.loop-pattern.values c.pop.new.self.items c.take_turn.new.values c.take_turn.new.waiting.items) c.if-not-kept.true c.in_ok-kept.ensures)

pub returns : goal.returns
returns c =
    fit_done c.args.pool.now c.one_number.ensures c.args.bound.now c.args.pattern c.args.target c.args.values.now c.loop-pattern.values c.loop-pattern.waiting.items (nil_from_length c.loop-pattern.waiting.items (sym c.loop-pattern.waiting.ok.0 ∙ c.in_default.ensures.cases.0)) c.loop-pattern.invariant
