use Rattle.std.proofs.Common.{arith}
use Rattle.step_checks.proofs.ReflexiveLemmas.{reflexive_answer}
use Rattle.step_checks.proofs.closings.equations.own_term.Goals as goal

pub returns-in-Some : goal.returns-in-Some
returns-in-Some c = reflexive_answer c.args.pool.now c.one_number.ensures c.args.formula c.in-Some.node c.in-Some.ensures c.both_sides.result c.both_sides.ensures

pub returns-in-None : goal.returns-in-None
returns-in-None c = absurd (let w = c.in-None.ensures in let v = c.requires.within in omega (arith, w, v))
