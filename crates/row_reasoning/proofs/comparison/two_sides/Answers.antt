use Rattle.std.proofs.Common.{sym, subst}
use Rattle.certificates.specs.Linear.{row_of}
use Rattle.term_pool.specs.Pools.{IsMade}
use Rattle.term_pool.specs.declared.node.Node.TheVariants.{Two as TwoNode}
use Rattle.row_reasoning.specs.Entries.{formula_at, HasSides}
use Rattle.row_reasoning.proofs.SideLemmas.{stated_made}
use Rattle.row_reasoning.proofs.comparison.two_sides.Goals as goal

pub returns-in-Compare : goal.returns-in-Compare
returns-in-Compare c = λ n made. subst (HasSides c.args.pool.now n (row_of (formula_at c.args.pool.now n))) (sym c.stated.ensures) (stated_made c.args.pool.now n c.args.a c.args.b c.in-Compare.head (subst (λ k. IsMade c.args.pool.now n (TwoNode k c.args.a c.args.b)) c.in-Compare.is made))
