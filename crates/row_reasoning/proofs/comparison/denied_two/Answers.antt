use Rattle.std.proofs.Common.{sym, subst}
use Rattle.certificates.specs.Linear.{negated_row_of}
use Rattle.term_pool.specs.Pools.{IsMade}
use Rattle.term_pool.specs.declared.node.Node.TheVariants.{Two as TwoNode}
use Rattle.row_reasoning.specs.Entries.{formula_at}
use Rattle.row_reasoning.proofs.SideLemmas.{Answers, denied_made}
use Rattle.row_reasoning.proofs.comparison.denied_two.Goals as goal

pub returns-in-Compare : goal.returns-in-Compare
returns-in-Compare c = λ n made. subst (Answers c.args.pool.now n (negated_row_of (formula_at c.args.pool.now n))) (sym c.denied_sides.ensures) (denied_made c.args.pool.now n c.args.a c.args.b c.in-Compare.head (subst (λ k. IsMade c.args.pool.now n (TwoNode k c.args.a c.args.b)) c.in-Compare.is made))
