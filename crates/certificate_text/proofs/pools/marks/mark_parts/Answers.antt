use Rattle.std.proofs.Common.{[], ◌∷◌, sym, ap, subst}
use Rattle.certificate_text.specs.Marks.{parts_of, MarksAlso}
use Rattle.certificate_text.proofs.MarkLemmas.{marks_then}
use Rattle.certificate_text.proofs.pools.marks.mark_parts.Goals as goal

pub returns-in-Two : goal.returns-in-Two
returns-in-Two c =
    let old = c.args.marks.now in
    let new = c.mark-in-Two-2.new.marks in
    subst (MarksAlso old new) (sym (ap parts_of c.in-Two.is))
    (marks_then old c.mark-in-Two.new.marks new (c.in-Two.a ∷ []) (c.in-Two.b ∷ []) c.mark-in-Two.ensures c.mark-in-Two-2.ensures)

pub returns-in-Three : goal.returns-in-Three
returns-in-Three c =
    let old = c.args.marks.now in
    let new = c.mark-in-Three-3.new.marks in
    subst (MarksAlso old new) (sym (ap parts_of c.in-Three.is))
    (marks_then old c.mark-in-Three.new.marks new (c.in-Three.a ∷ []) (c.in-Three.b ∷ c.in-Three.c ∷ []) c.mark-in-Three.ensures
    (marks_then c.mark-in-Three.new.marks c.mark-in-Three-2.new.marks new (c.in-Three.b ∷ []) (c.in-Three.c ∷ []) c.mark-in-Three-2.ensures c.mark-in-Three-3.ensures))
