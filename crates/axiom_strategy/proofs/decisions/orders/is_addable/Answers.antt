use Rattle.std.proofs.Common.{◌≡◌, true, false, refl}
use Rattle.tableau.proofs.StandLemmas.{shallow_at, too_deep_at}
use Rattle.axiom_strategy.proofs.decisions.orders.is_addable.Goals as goal

pub returns-then-stands : goal.returns-then-stands
returns-then-stands c = (λ e. absurd (cc), λ a. absurd (a.is_new.new (c.if-stands.ensures.0 refl)))

pub returns-then-depth-gt-MOST_DEPTH : goal.returns-then-depth-gt-MOST_DEPTH
returns-then-depth-gt-MOST_DEPTH c = (λ e. absurd (cc), λ a. absurd (too_deep_at c.args.pool.now c.args.formula c.depth.result c.requires.formula c.depth.ensures c.if-depth-gt-MOST_DEPTH.true a.shallow))

pub returns : goal.returns
returns c = (
  λ e. record {
    is_new = record { new = λ s. (let both : false ≡ true = c.if-stands.ensures.1 s in absurd (cc)) };
    shallow = shallow_at c.args.pool.now c.args.formula c.depth.result c.requires.formula c.depth.ensures c.if-depth-gt-MOST_DEPTH.false;
  },
  λ a. refl,
)
