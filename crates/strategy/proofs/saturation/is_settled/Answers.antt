use Rattle.tableau.specs.PoolBranches.{branch_in}
use Rattle.certificates.specs.Due.{IsNotClosed}
use Rattle.closing_rules.specs.Clashes.{IsClashOf}
use Rattle.axiom_strategy.specs.Cuts.{NoCut, IsCut}
use Rattle.strategy.specs.Families.{IsSettled}
use Rattle.strategy.proofs.SaturationLemmas.{one_of, none_of, decided, there, back, closes}
use Rattle.strategy.proofs.saturation.is_settled.Goals as goal

pub returns-then-is_some-clause-exact : goal.returns-then-is_some-clause-exact
returns-then-is_some-clause-exact c = λ settled. (
    let b = branch_in c.args.pool.now c.args.branch.now in
    let found = one_of (IsNotClosed b) (IsClashOf b) c.in_ok-clash.clash c.in_ok-clash.ensures c.if-is_some.ensures in
    closes b found.0 found.1 settled.not_closed)

pub returns-clause-exact : goal.returns-clause-exact
returns-clause-exact c =
    let ns = c.args.pool.now in
    let d = c.args.branch.now in
    let ms = c.next_cut.new.pool in
    let e = c.next_cut.ensures.extends in
    let b = branch_in ms d in
    let open_still = none_of (IsNotClosed (branch_in ns d)) (IsClashOf (branch_in ns d)) c.in_ok-clash.clash c.in_ok-clash.ensures c.if-is_some.ensures in
    decided (NoCut b) (IsCut ms b) (IsSettled (branch_in ns d))
    (λ cuts. record { no_cut = back ns ms e d c.requires.over NoCut cuts; not_closed = open_still })
    (λ step is settled. (there ns ms e d c.requires.over IsSettled settled).no_cut.none _ _ is.due)
    c.in_ok-cut.cut c.is_none.result c.in_ok-cut.ensures.due c.is_none.ensures
