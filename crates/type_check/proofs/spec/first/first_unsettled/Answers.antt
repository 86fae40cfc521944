use Rattle.std.proofs.lemmas.Option.{slice_get-get_or}
use Rattle.type_check.specs.declared.clauses.judged.ClauseRule.TheVariants.{Settling}
use Rattle.type_check.specs.Numbered.{RootIsBroken, is_so_itself}
use Rattle.type_check.specs.declared.spec.first.RootClause.{RootClause}
use Rattle.type_check.proofs.SpecFirsts.{next, none_yet, of_all}
use Rattle.type_check.proofs.spec.first.first_unsettled.Goals as goal

pub loop-root-init : goal.loop-root-init
loop-root-init c = none_yet (λ (r : RootClause). r.span) (λ r. RootIsBroken (is_so_itself Settling r) r.included c.args.broken.now)

pub loop-root-preserved : goal.loop-root-preserved
loop-root-preserved c =
    next (λ (r : RootClause). r.span) (λ r. RootIsBroken (is_so_itself Settling r) r.included c.args.broken.now) c.args.roots.now c.loop-root.root-index _ c.is_broken-is_so.result
    c.loop-root.first c.span_if.result c.earlier-first.result (slice_get-get_or c.args.roots.now c.loop-root.root-index _ c.loop-root-test.true) c.is_broken-is_so.ensures c.span_if.ensures
    c.loop-root.invariant c.earlier-first.ensures

pub returns : goal.returns
returns c =
    of_all (λ (r : RootClause). r.span) (λ r. RootIsBroken (is_so_itself Settling r) r.included c.args.broken.now) c.args.roots.now c.loop-root.root-index c.loop-root.first c.loop-root-test.false
    c.loop-root.invariant
