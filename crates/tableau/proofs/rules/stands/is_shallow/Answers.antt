use Rattle.std.proofs.Common.{refl}
use Rattle.tableau.proofs.StandLemmas.{shallow_at, too_deep_at}
use Rattle.tableau.proofs.rules.stands.is_shallow.Goals as goal

pub returns-then-depth-gt-MOST_DEPTH : goal.returns-then-depth-gt-MOST_DEPTH
returns-then-depth-gt-MOST_DEPTH c = (
  λ e. absurd (cc),
  λ s. absurd (too_deep_at c.args.pool.now c.args.formula c.depth.result c.requires c.depth.ensures c.if-depth-gt-MOST_DEPTH.true s),
)

pub returns : goal.returns
returns c = (
  λ e. shallow_at c.args.pool.now c.args.formula c.depth.result c.requires c.depth.ensures c.if-depth-gt-MOST_DEPTH.false,
  λ s. refl,
)
