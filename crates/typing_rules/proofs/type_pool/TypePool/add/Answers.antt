use Rattle.std.proofs.Common.{◌≡◌}
use Rattle.typing_rules.proofs.Stated.{types-push}
use Rattle.typing_rules.proofs.type_pool.TypePool.add.Goals as goal

pub returns-clause-types : goal.returns-clause-types
returns-clause-types c =
    let same : c.self.inside.entries.items ≡ c.args.self.now = c.self.view_is in
    rw (c.in_ok-push.ensures.items, ← same) (types-push c.self.inside.entries.items c.args.entry)
