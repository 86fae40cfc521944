use Rattle.std.proofs.Common.{[], ◌∷◌, sym, ap, subst}
use Rattle.search.specs.Applications.{terms_of}
use Rattle.certificate_text.specs.Marks.{MarksAlso}
use Rattle.certificate_text.proofs.MarkLemmas.{marks_then}
use Rattle.certificate_text.proofs.pools.needs.mark_reason.Goals as goal

pub returns-in-Cut : goal.returns-in-Cut
returns-in-Cut c =
    let old = c.args.marks.now in
    let new = c.mark-in-Cut.new.marks in
    subst (MarksAlso old new) (sym (ap terms_of c.in-Cut.is))
    (marks_then old c.mark.new.marks new (c.in-Cut.left ∷ []) (c.in-Cut.right ∷ []) c.mark.ensures c.mark-in-Cut.ensures)
