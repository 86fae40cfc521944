use Rattle.std.proofs.Common.{[], ◌∷◌, sym, ap, subst}
use Rattle.certificate_text.specs.Marks.{MarksAlso}
use Rattle.certificate_text.specs.Names.{named_by_step}
use Rattle.certificate_text.proofs.MarkLemmas.{marks_then}
use Rattle.certificate_text.proofs.pools.needs.mark_step.Goals as goal

pub returns-in-Rewritten : goal.returns-in-Rewritten
returns-in-Rewritten c =
    let old = c.args.marks.now in
    let new = c.mark-in-Rewritten-2.new.marks in
    let r = c.in-Rewritten.rewriting in
    subst (MarksAlso old new) (sym (ap named_by_step c.in-Rewritten.is))
    (marks_then old c.mark-in-Rewritten.new.marks new (r.pattern ∷ []) (r.formula ∷ []) c.mark-in-Rewritten.ensures c.mark-in-Rewritten-2.ensures)
