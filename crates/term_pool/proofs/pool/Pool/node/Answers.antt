use Rattle.std.proofs.Common.{sym}
use Rattle.term_pool.proofs.SearchLemmas.{entry_made}
use Rattle.term_pool.proofs.pool.Pool.node.Goals as goal

pub returns-in-Some : goal.returns-in-Some
returns-in-Some c = entry_made _ c.args.self.now c.args.number (c.in-Some.node.now, c.in-Some.field-0-1.now) c.self.invariant c.self.view_is (sym c.in-Some.ensures.entry)
