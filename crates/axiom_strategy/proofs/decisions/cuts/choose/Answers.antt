use Rattle.std.proofs.Common.{refl}
use Rattle.axiom_strategy.specs.Cuts.{Chosen, PassedOver}
use Rattle.axiom_strategy.proofs.StableLemmas.{was_there}
use Rattle.axiom_strategy.proofs.decisions.cuts.choose.Goals as goal

pub returns-then-not-fresh : goal.returns-then-not-fresh
returns-then-not-fresh c = PassedOver refl (was_there c.args.seen.now (c.args.class, c.args.kind) c.in_ok-fresh.fresh c.if-not-fresh.true c.in_ok-fresh.ensures.fresh) c.in_ok-fresh.ensures.pairs

pub returns : goal.returns
returns c = Chosen c.in_ok-push.ensures.items c.in_ok-fresh.ensures.pairs
