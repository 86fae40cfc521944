use Rattle.std.specs.List.{flat_map}
use Rattle.certificate_text.specs.Names.{named_by}
use Rattle.certificate_text.proofs.MarkLemmas.{are_needed}
use Rattle.certificate_text.proofs.pools.needs.mark_needed.Goals as goal

pub returns-clause-needed : goal.returns-clause-needed
returns-clause-needed c =
    are_needed c.args.pool.now (flat_map named_by c.args.text.now) c.args.marks.now c.mark_text.new.marks c.mark_inside.new.marks c.requires.none c.mark_text.ensures
    c.mark_inside.ensures.len c.mark_inside.ensures.kept c.mark_inside.ensures.inside c.mark_inside.ensures.needed
