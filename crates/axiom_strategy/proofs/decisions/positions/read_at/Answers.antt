use Rattle.std.proofs.Common.{arith}
use Rattle.axiom_strategy.proofs.PositionLemmas.{read_answer}
use Rattle.axiom_strategy.proofs.decisions.positions.read_at.Goals as goal

pub returns-in-Some : goal.returns-in-Some
returns-in-Some c = read_answer c.args.pool.now c.args.number c.in-Some.node c.in-Some.ensures c.read_of.result c.read_of.ensures

pub returns-in-None : goal.returns-in-None
returns-in-None c = λ p h. absurd (let w = c.in-None.ensures in let v = c.requires in omega (arith, w, v))
