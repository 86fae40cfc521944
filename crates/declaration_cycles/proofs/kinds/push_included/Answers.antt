use Rattle.std.proofs.Common.{length, refl}
use Rattle.std.proofs.lemmas.Option.{slice_get_read}
use Rattle.program.specs.Same.{same_schema}
use Rattle.declaration_cycles.specs.Naming.{included_in}
use Rattle.declaration_cycles.specs.Edges.{edge, number}
use Rattle.declaration_cycles.proofs.Naming.{pushed_within}
use Rattle.declaration_cycles.proofs.kinds.push_included.Goals as goal

pub loop-clause-preserved : goal.loop-clause-preserved
loop-clause-preserved c =
    pushed_within (λ id. edge c.args.from (number same_schema c.args.program.now.schemas id)) included_in c.args.clauses.now c.loop-clause.clause-index c.clause-item.result
    c.args.into.now.items c.loop-clause.into.items c.push_included_by.new.into.items
    (slice_get_read c.args.clauses.now (length c.args.clauses.now) c.loop-clause.clause-index c.clause-item.result refl c.loop-clause-test.true c.clause-item.is)
    c.loop-clause.invariant c.in_ok-push_included_by.ensures
