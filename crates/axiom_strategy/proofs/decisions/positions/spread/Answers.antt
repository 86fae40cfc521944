use Rattle.std.proofs.Common.{◌≡◌, ℕ, List, ◌++◌, map, cond, nat_eq, sym, ap, ◌∙◌, subst}
use Rattle.base.specs.Lists.{list_in}
use Rattle.axiom_strategy.specs.Positions.{at_group, AreSpread}
use Rattle.axiom_strategy.proofs.PositionLemmas.{spread_same, spread_more}
use Rattle.axiom_strategy.proofs.StableLemmas.{was_there}
use Rattle.axiom_strategy.proofs.decisions.positions.spread.Goals as goal

pub returns-then-not-fresh-clause-spread : goal.returns-then-not-fresh-clause-spread
returns-then-not-fresh-clause-spread c = λ k candidates by h. spread_same k candidates c.args.seen.now c.add.new.self c.args.positions.now.all.items c.args.positions.now.by_group c.args.group c.args.class h c.in_ok-fresh.ensures.pairs (was_there c.args.seen.now (c.args.group, c.args.class) c.in_ok-fresh.fresh c.if-not-fresh.true c.in_ok-fresh.ensures.fresh)

pub returns-clause-spread : goal.returns-clause-spread
returns-clause-spread c = λ k candidates by h. (
    let all_is : c.put.new.self.all.items ≡ c.args.positions.now.all.items ++ map (at_group c.args.group) (list_in c.args.lists.now c.args.class) = c.in_ok-put.ensures.all ∙ ap (λ xs. c.args.positions.now.all.items ++ map (at_group c.args.group) xs) c.at.ensures in
    subst (λ xs. AreSpread k candidates c.add.new.self xs c.put.new.self.by_group) (sym all_is)
    (spread_more k candidates c.args.seen.now c.add.new.self c.args.positions.now.all.items c.args.positions.now.by_group c.put.new.self.by_group c.args.lists.now c.args.group c.args.class by h c.in_ok-fresh.ensures.pairs
    (λ n. c.in_ok-put.ensures.by_group n ∙ ap (λ (xs : List ℕ). cond (nat_eq n c.args.group) (list_in c.args.positions.now.by_group n ++ xs) (list_in c.args.positions.now.by_group n)) c.at.ensures)))
