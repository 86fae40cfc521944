use Rattle.std.proofs.Common.{sym, ap, subst}
use Rattle.search.specs.Applications.{terms_of}
use Rattle.certificate_text.specs.Marks.{MarksAlso}
use Rattle.certificate_text.specs.Names.{named_by}
use Rattle.certificate_text.proofs.MarkLemmas.{marks_then}
use Rattle.certificate_text.proofs.pools.needs.mark_application.Goals as goal

pub returns-in-Grown : goal.returns-in-Grown
returns-in-Grown c =
    let old = c.args.marks.now in
    let mid = c.mark_reason.new.marks in
    let new = c.mark_all.new.marks in
    let g = c.in-Grown.extension in
    subst (MarksAlso old new) (sym (ap named_by c.in-Grown.is))
    (marks_then old mid new (terms_of g.reason) g.formulas.items c.mark_reason.ensures (subst (MarksAlso mid new) c.as_slice.ensures.value c.mark_all.ensures))
