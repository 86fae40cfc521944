use Rattle.resolution.specs.Pragmas.{pragmas_of_clause}
use Rattle.resolution.proofs.PragmaLaws.{settings_next}
use Rattle.resolution.proofs.clauses.pragmas.with_block.Goals as goal

pub loop-clause-preserved : goal.loop-clause-preserved
loop-clause-preserved c = settings_next pragmas_of_clause c.args.clauses.now c.loop-clause.clause-index c.clause-item.result c.args.before c.loop-clause.settings c.with_clause-settings.result c.loop-clause-test.true c.clause-item.is c.loop-clause.invariant c.with_clause-settings.ensures
